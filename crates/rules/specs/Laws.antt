-- Laws of the rules, each over every sound leveller and every victim order that keeps just its laws.
--
--   NewSound         a leveller that is not started is sound over every chip that keeps its bounds
--   StartKeeps, WriteKeeps, ReadKeeps, DiscardKeeps   every call leaves a sound leveller, refused or not
--   WriteObeyed      the chip accepts every program and erase of a write, one after another, and so comes to the chip of its outcome
--   WriteOnce        no block is erased twice in one write
--   CleaningGains    at a cleaning there is a victim, and it has a page that is not live
--   SearchEnds       the search for a clear flag ends at one, wherever there is one
--   LevellingEnds    levelling ends by itself: it leaves nothing to do, and more turns would change nothing
use Rattle.std.specs.Prelude.{◌≡◌, ℕ, suc, ◌<◌, ◌≤◌, true, false, cond, List, [], ◌∷◌, length, Some, None, ◌==◌, slice_index_or}
use Rattle.orders.specs.declared.block.BlockRecord.{BlockRecord}
use Rattle.orders.specs.Laws.{Total, Transitive}
use Rattle.orders.specs.Victims.{FullLast}
use Rattle.flash.specs.Meaning.{Flash, Op, program, erase, page_of, WellFormed as ChipFits}
use Rattle.rules.specs.declared.Settings.{Settings}
use Rattle.rules.specs.Tables.{Meter, Tables, State, Leveller, left, begin}
use Rattle.rules.specs.declared.Use.TheVariants.{Free, Closed}
use Rattle.rules.specs.Blocks.{BlockOrder, blocks_in, live_pages, records, first}
use Rattle.rules.specs.Steps.{close_open, make_room, store}
use Rattle.rules.specs.Levelling.{sought, even, level_in, level}
use Rattle.rules.specs.Calls.{start, write, read, discard}
use Rattle.rules.specs.WellFormed.{ones, WellFormed, Sound}
use Rattle.rules.specs.Obeyed.{obeyed}

-- A victim order, by the laws of orders and that of victims.
pub record VictimOrder (r : BlockOrder) : Type 0 where
  pub total : Total (λ (x : BlockRecord). x.number) r
  pub transitive : Transitive (λ (x : BlockRecord). x.number) r
  pub full_last : FullLast r

abbrev pub NewSound : Type 0
NewSound = (f : Flash) → ChipFits f → Sound (record { tables = None; chip = f })

abbrev pub StartKeeps : Type 0
StartKeeps = (l : Leveller) (g : Settings) → Sound l → Sound (left (start l g))

abbrev pub WriteKeeps : Type 0
WriteKeeps = (r : BlockOrder) → VictimOrder r → (l : Leveller) (t : ℕ) (bytes : List ℕ) → Sound l → Sound (left (write r l t bytes))

abbrev pub ReadKeeps : Type 0
ReadKeeps = (l : Leveller) (t : ℕ) (buffer : List ℕ) → Sound l → Sound (left (read l t buffer))

abbrev pub DiscardKeeps : Type 0
DiscardKeeps = (l : Leveller) (t : ℕ) → Sound l → Sound (left (discard l t))

abbrev pub WriteObeyed : Type 0
WriteObeyed = (r : BlockOrder) → VictimOrder r → (l : Leveller) (t : ℕ) (bytes : List ℕ) → Sound l →
    obeyed (write r l t bytes).operations l.chip ≡ Some (write r l t bytes).chip

-- How often block b is erased among some operations.
abbrev pub times_erased : ℕ → List Op → ℕ
times_erased b [] = 0
times_erased b (program c x ∷ os) = times_erased b os
times_erased b (erase c ∷ os) = cond (c == b) (suc (times_erased b os)) (times_erased b os)

abbrev pub WriteOnce : Type 0
WriteOnce = (r : BlockOrder) → VictimOrder r → (l : Leveller) (t : ℕ) (bytes : List ℕ) → Sound l → (b : ℕ) →
    times_erased b (write r l t bytes).operations ≤ 1

-- At a cleaning the open block, if there was one, is closed, and d is the one free block.
abbrev pub CleaningGains : Type 0
CleaningGains = (r : BlockOrder) → VictimOrder r → (x : Tables) (f : Flash) → ChipFits f → WellFormed x f → (d : ℕ) →
    let s = close_open (begin x f) in
    blocks_in Free s ≡ d ∷ [] →
    (v : BlockRecord) × (first r (records Closed s) ≡ Some v) × (length (live_pages s v.number) < f.p)

abbrev pub SearchEnds : Type 0
SearchEnds = (m : Meter) → m.findex < length m.flags → ones m.flags < length m.flags →
    (sought m < length m.flags) × (slice_index_or m.flags (sought m) true ≡ false)

-- The state in which a write's levelling begins.
abbrev pub before_levelling : BlockOrder → Tables → Flash → ℕ → List ℕ → State
before_levelling r x f t bytes = store (page_of t bytes) (make_room x.settings r (begin x f))

abbrev pub LevellingEnds : Type 0
LevellingEnds = (r : BlockOrder) (x : Tables) (f : Flash) (t : ℕ) (bytes : List ℕ) → WellFormed x f →
    let s = before_levelling r x f t bytes in
    (even x.settings (level x.settings s).meter ≡ true)
    × ((turns : ℕ) → suc (length s.meter.flags) ≤ turns → level_in turns x.settings s ≡ level x.settings s)
