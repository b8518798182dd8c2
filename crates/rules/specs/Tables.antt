-- What a leveller holds. The chip under it has N blocks of P pages of D bytes, each block rated for E erases.
--
--   Settings    k, T and L, as they were given to start: sets of 2^k blocks, the threshold, the logical pages
--   Place       a block and a page of it
--   places      the map: for each logical page, 0 to L − 1, a place or nothing
--   Use, uses   each block is free (blank, in the free pool), open (at most one) or closed
--   marks       for each block, the finished rounds when a page was last programmed into it: its age mark
--   Meter       the block-erasing table and its counters
--   Tables      all that a started leveller keeps from call to call
--   State       what the steps of one call work on: the tables without the settings, the chip, and the log
--   Leveller    tables, if it is started, and the chip
--   Outcome     all that a call leaves
use Rattle.std.specs.Prelude.{ℕ, ◌^◌, Bool, List, [], Option, Result}
use Rattle.flash.specs.Meaning.{Flash, Op}
use Rattle.rules.specs.declared.Settings.{Settings}
use Rattle.rules.specs.declared.Place.{Place}
use Rattle.rules.specs.declared.Use.{Use}
use Rattle.rules.specs.declared.Refusal.{Refusal}

-- One flag for each block set: some block of it was erased in this round. ecnt counts the erases of this round,
-- fcnt the flags that are set, findex is the set to look at next, and rounds counts the finished rounds.
pub record Meter : Type 0 where
  pub flags : List Bool
  pub ecnt : ℕ
  pub fcnt : ℕ
  pub findex : ℕ
  pub rounds : ℕ

pub record Tables : Type 0 where
  pub settings : Settings
  pub places : List (Option Place)
  pub uses : List Use
  pub marks : List ℕ
  pub meter : Meter

-- The log is the list of chip operations that were done in this call so far, the first of them first.
pub record State : Type 0 where
  pub chip : Flash
  pub places : List (Option Place)
  pub uses : List Use
  pub marks : List ℕ
  pub meter : Meter
  pub log : List Op

-- A leveller that is not started has no tables.
pub record Leveller : Type 0 where
  pub tables : Option Tables
  pub chip : Flash

-- The buffer is the one that a read fills, or the bytes handed to a write; a call without bytes has [].
pub record Outcome (T : Type 0) : Type 0 where
  pub answer : Result T Refusal
  pub tables : Option Tables
  pub chip : Flash
  pub buffer : List ℕ
  pub operations : List Op

-- The leveller that a call leaves.
abbrev pub left : {T : Type 0} → Outcome T → Leveller
left o = record { tables = o.tables; chip = o.chip }

-- At the beginning of a call nothing was done yet.
abbrev pub begin : Tables → Flash → State
begin x f = record { chip = f; places = x.places; uses = x.uses; marks = x.marks; meter = x.meter; log = [] }

-- The tables at its end: no call but start sets the settings.
abbrev pub tables_of : Settings → State → Tables
tables_of g s = record { settings = g; places = s.places; uses = s.uses; marks = s.marks; meter = s.meter }

-- The blocks of a set.
abbrev pub set_size : Settings → ℕ
set_size g = 2 ^ g.k
