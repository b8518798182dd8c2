-- What is true of a leveller between calls.
--
--   Fitting      what start has checked of the settings and the chip's size
--   WellFormed   the facts that tie a started leveller's tables to each other and to the chip
--   Sound        the chip keeps its bounds and the tables, if there are any, are well formed
use Rattle.std.specs.Prelude.{◌≡◌, ℕ, ◌+◌, ◌*◌, ◌/◌, ◌<◌, ◌≤◌, Bool, true, false, ◌⊎◌, List, length, count_by, sum_by, Some, None, IfSome, slice_index, slice_index_or}
use Rattle.flash.specs.Limits.{within}
use Rattle.flash.specs.Meaning.{Flash, block, page, geometry_of, WellFormed as ChipFits}
use Rattle.rules.specs.declared.Settings.{Settings}
use Rattle.rules.specs.declared.Use.{Use}
use Rattle.rules.specs.declared.Use.TheVariants.{Free, Open, Closed}
use Rattle.rules.specs.Tables.{Tables, Leveller, set_size}
use Rattle.rules.specs.Calls.{sets_fit, threshold_fits, logical_fits}

-- How many flags are set.
abbrev pub ones : List Bool → ℕ
ones flags = count_by (λ flag. flag) flags

-- A block in this use is not in the pool.
abbrev pub busy : Use → Bool
busy Free = false
busy Open = true
busy Closed = true

-- All erases of a chip's blocks together.
abbrev pub erases_of : Flash → ℕ
erases_of f = sum_by (λ x. x.count) f.blocks

pub record Fitting (g : Settings) (f : Flash) : Type 0 where
  pub sizes : within (geometry_of f) ≡ true
  pub sets : sets_fit f g ≡ true
  pub threshold : threshold_fits g ≡ true
  pub logical : logical_fits f g ≡ true

pub record WellFormed (x : Tables) (f : Flash) : Type 0 where
  pub fitting : Fitting x.settings f
  -- one use and one age mark for each block, one place or nothing for each logical page, one flag for each set
  pub uses_each : length x.uses ≡ length f.blocks
  pub marks_each : length x.marks ≡ length f.blocks
  pub places_each : length x.places ≡ x.settings.logical
  pub flags_each : length f.blocks ≡ length x.meter.flags * set_size x.settings
  -- the map names written pages, each with the logical page as its tag
  pub named : (t b i : ℕ) → slice_index_or x.places t None ≡ Some (record { block = b; page = i }) → (i < length (block f b).pages) × ((page f b i).tag ≡ t)
  -- free blocks are blank, at least one block is free, at most one is open
  pub free_blank : (b : ℕ) → slice_index_or x.uses b Free ≡ Free → length (block f b).pages ≡ 0
  pub some_free : (b : ℕ) × (b < length x.uses) × (slice_index_or x.uses b Free ≡ Free)
  pub one_open : (b c : ℕ) → slice_index_or x.uses b Free ≡ Open → slice_index_or x.uses c Free ≡ Open → b ≡ c
  -- fcnt counts the flags; levelling has nothing to do; findex is a set
  pub flags_counted : ones x.meter.flags ≡ x.meter.fcnt
  pub levelled : ((x.meter.fcnt ≡ 0) × (x.meter.ecnt ≡ 0)) ⊎ ((1 ≤ x.meter.fcnt) × (x.meter.ecnt < x.settings.threshold * x.meter.fcnt))
  pub findex_below : x.meter.findex < length x.meter.flags
  -- once a flag is set, every free block lies in a set whose flag is set
  pub free_flagged : 1 ≤ x.meter.fcnt → (b : ℕ) → b < length f.blocks → slice_index_or x.uses b Free ≡ Free → slice_index_or x.meter.flags (b / set_size x.settings) false ≡ true
  -- no age mark lies ahead; every finished round cost an erase, beside those of this round
  pub marks_past : (b : ℕ) → slice_index x.marks b ≤ x.meter.rounds
  pub rounds_paid : x.meter.rounds + x.meter.ecnt ≤ erases_of f

pub record Sound (l : Leveller) : Type 0 where
  pub chip_fits : ChipFits l.chip
  pub kept : IfSome l.tables (λ x. WellFormed x l.chip)
