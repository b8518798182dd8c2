-- The one outcome of each call of a leveller, for all arguments: start, write, read, discard.
-- A call tries its refusals in rising number; the first that applies is its answer, and all is as it was.
use Rattle.std.specs.Prelude.{ℕ, ◌-◌, ◌*◌, ◌/◌, ◌%◌, Bool, true, false, cond, not, ◌&&◌, List, [], ◌∷◌, length, replicate, is_some, Some, None, Ok, Err, count_by, Option, ◌==◌, nat_eq, nat_le, nat_lt, slice_index_or, slice_set}
use Rattle.std.specs.List.{list_any}
use Rattle.flash.specs.Limits.{between, within}
use Rattle.flash.specs.Meaning.{Flash, Op, program, erase, page, page_of, geometry_of}
use Rattle.rules.specs.declared.Settings.{Settings}
use Rattle.rules.specs.declared.Place.{Place}
use Rattle.rules.specs.declared.Use.TheVariants.{Free}
use Rattle.rules.specs.declared.Written.{Written}
use Rattle.rules.specs.declared.Refusal.{Refusal}
use Rattle.rules.specs.declared.Refusal.TheVariants.{AlreadyStarted, OutsideLimits, UnevenSets, WrongThreshold, WrongLogical, NotBlank, NotStarted, NoSuchPage, WrongLength, WornOut, Empty}
use Rattle.rules.specs.Tables.{Tables, State, Leveller, Outcome, begin, tables_of, set_size}
use Rattle.rules.specs.Blocks.{BlockOrder}
use Rattle.rules.specs.Steps.{make_room, store}
use Rattle.rules.specs.Levelling.{level}

-- Checks, each with the refusal where it is true: the first that is true.
abbrev pub refusal : List (Bool × Refusal) → Option Refusal
refusal [] = None
refusal ((v, e) ∷ cs) = cond v (Some e) (refusal cs)

-- A refused call leaves everything.
abbrev pub refused : {T : Type 0} → Refusal → Leveller → List ℕ → Outcome T
refused e l buffer = record { answer = Err e; tables = l.tables; chip = l.chip; buffer = buffer; operations = [] }

-- The outcome `done`, unless a check is true.
abbrev pub unless : {T : Type 0} → List (Bool × Refusal) → Leveller → List ℕ → Outcome T → Outcome T
unless cs l buffer done = elim (refusal cs) [ None ↦ done | Some e ↦ refused e l buffer ]

-- Start

-- The limits. Those of N, P, D and E are the chip's: 2 to 256, 1 to 64, 1 to 512, 1 to 1,000,000.
-- k is at most 8 and 2^k divides N; T is 1 to 1,000; L is 1 to (N − 1) × P − 1, so that a block's worth of pages
-- and one page more are never in use.
abbrev pub sets_fit : Flash → Settings → Bool
sets_fit f g = nat_le g.k 8 && length f.blocks % set_size g == 0

abbrev pub threshold_fits : Settings → Bool
threshold_fits g = between 1 g.threshold 1000

abbrev pub logical_fits : Flash → Settings → Bool
logical_fits f g = between 1 g.logical ((length f.blocks - 1) * f.p - 1)

abbrev pub has_written : Flash → Bool
has_written f = list_any (λ x. not (length x.pages == 0)) f.blocks

abbrev pub start_checks : Leveller → Settings → List (Bool × Refusal)
start_checks l g =
    (is_some l.tables, AlreadyStarted) ∷
    (not (within (geometry_of l.chip)), OutsideLimits) ∷
    (not (sets_fit l.chip g), UnevenSets) ∷
    (not (threshold_fits g), WrongThreshold) ∷
    (not (logical_fits l.chip g), WrongLogical) ∷
    (has_written l.chip, NotBlank) ∷ []

-- Every block is free, the map names nothing, and flags, counters, findex and rounds are 0.
abbrev pub fresh_tables : Flash → Settings → Tables
fresh_tables f g =
    let n = length f.blocks in
    record {
      settings = g;
      places = replicate g.logical None;
      uses = replicate n Free;
      marks = replicate n 0;
      meter = record { flags = replicate (n / set_size g) false; ecnt = 0; fcnt = 0; findex = 0; rounds = 0 };
    }

unfoldable pub start : Leveller → Settings → Outcome (Unit {0})
start l g = unless (start_checks l g) l [] (record {
  answer = Ok tt;
  tables = Some (fresh_tables l.chip g);
  chip = l.chip;
  buffer = [];
  operations = [];
})

-- Write

abbrev pub is_worn : Flash → Bool
is_worn f = list_any (λ x. nat_eq x.count f.e) f.blocks

abbrev pub write_checks : Settings → Flash → ℕ → List ℕ → List (Bool × Refusal)
write_checks g f t bytes =
    (not (nat_lt t g.logical), NoSuchPage) ∷
    (not (length bytes == f.d), WrongLength) ∷
    (is_worn f, WornOut) ∷ []

-- An accepted write: room in the open block, the page stored there, levelling.
unfoldable pub writing : Settings → BlockOrder → ℕ → List ℕ → State → State
writing g r t bytes s = level g (store (page_of t bytes) (make_room g r s))

abbrev pub is_erase : Op → Bool
is_erase (program b q) = false
is_erase (erase b) = true

-- What a write answers, by its operations: each program but the write's own is a copy.
abbrev pub written : List Op → Written
written os = record { erases = count_by is_erase os; copied = count_by (λ o. not (is_erase o)) os - 1 }

abbrev pub write_done : Settings → List ℕ → State → Outcome Written
write_done g bytes s = record { answer = Ok (written s.log); tables = Some (tables_of g s); chip = s.chip; buffer = bytes; operations = s.log }

unfoldable pub write : BlockOrder → Leveller → ℕ → List ℕ → Outcome Written
write r l t bytes = elim l.tables [
  | None ↦ refused NotStarted l bytes
  | Some x ↦ unless (write_checks x.settings l.chip t bytes) l bytes
      (write_done x.settings bytes (writing x.settings r t bytes (begin x l.chip)))
]

-- Read

abbrev pub read_checks : Settings → Flash → ℕ → List ℕ → List (Bool × Refusal)
read_checks g f t buffer =
    (not (nat_lt t g.logical), NoSuchPage) ∷
    (not (length buffer == f.d), WrongLength) ∷ []

-- The bytes of the named page are copied into the buffer; where the map names nothing the page is empty.
abbrev pub read_at : Leveller → List ℕ → Option Place → Outcome (Unit {0})
read_at l buffer None = refused Empty l buffer
read_at l buffer (Some q) = record {
  answer = Ok tt;
  tables = l.tables;
  chip = l.chip;
  buffer = (page l.chip q.block q.page).bytes;
  operations = [];
}

unfoldable pub read : Leveller → ℕ → List ℕ → Outcome (Unit {0})
read l t buffer = elim l.tables [
  | None ↦ refused NotStarted l buffer
  | Some x ↦ unless (read_checks x.settings l.chip t buffer) l buffer (read_at l buffer (slice_index_or x.places t None))
]

-- Discard

-- The map names nothing for page t.
abbrev pub forgotten : ℕ → Tables → Tables
forgotten t x = record x { places = slice_set x.places t None }

abbrev pub discard_checks : Tables → ℕ → List (Bool × Refusal)
discard_checks x t =
    (not (nat_lt t x.settings.logical), NoSuchPage) ∷
    (not (is_some (slice_index_or x.places t None)), Empty) ∷ []

unfoldable pub discard : Leveller → ℕ → Outcome (Unit {0})
discard l t = elim l.tables [
  | None ↦ refused NotStarted l []
  | Some x ↦ unless (discard_checks x t) l [] (record {
    answer = Ok tt;
    tables = Some (forgotten t x);
    chip = l.chip;
    buffer = [];
    operations = [];
  })
]
