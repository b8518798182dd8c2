-- What is known of the blocks: which are in a use, which of their pages are live, their records, the first of them.
--
--   names       the map names this very place
--   live_pages  the live pages of a block, in rising page order; v is their number
--   record_of   a block's record, as orders take it: number, erase count, v, P and age
--   first       the first of some records in an order
use Rattle.std.specs.Prelude.{ℕ, suc, ◌-◌, ◌≤◌, min, Bool, true, false, cond, ◌&&◌, List, [], ◌∷◌, map, length, Some, None, filter, Option, ◌==◌, slice_get, slice_index, slice_index_or}
use Rattle.std.proofs.Common.{arith}
use Rattle.std.specs.List.{range_with_len}
use Rattle.orders.specs.declared.block.BlockRecord.{BlockRecord}
use Rattle.orders.specs.Ranks.{least_erased}
use Rattle.flash.specs.Meaning.{Page, block}
use Rattle.rules.specs.declared.Place.{Place}
use Rattle.rules.specs.declared.Use.{Use}
use Rattle.rules.specs.declared.Use.TheVariants.{Free, Open, Closed}
use Rattle.rules.specs.Tables.{State}

-- An order of block records: whether the first goes before the second.
abbrev pub BlockOrder : Type 0
BlockOrder = BlockRecord → BlockRecord → Bool

-- two uses are the same
abbrev pub same_use : Use → Use → Bool
same_use Free Free = true
same_use Free Open = false
same_use Free Closed = false
same_use Open Free = false
same_use Open Open = true
same_use Open Closed = false
same_use Closed Free = false
same_use Closed Open = false
same_use Closed Closed = true

abbrev pub use_of : State → ℕ → Use
use_of s b = slice_index_or s.uses b Free

-- The blocks in a use, in rising number.
abbrev pub blocks_in : Use → State → List ℕ
blocks_in u s = filter (λ b. same_use u (use_of s b)) (range_with_len 0 (length s.uses))

-- A logical page's place is page i of block b.
abbrev pub names : Option Place → ℕ → ℕ → Bool
names None b i = false
names (Some q) b i = q.block == b && q.page == i

-- A written page is live when the map names that very place for its tag: a tag that fits is not enough.
-- These are the live ones of block b's written pages from page i on.
abbrev pub live_from : List (Option Place) → ℕ → ℕ → List Page → List Page
live_from m b i [] = []
live_from m b i (q ∷ qs) = let rest = live_from m b (suc i) qs in cond (names (slice_index_or m q.tag None) b i) (q ∷ rest) rest

abbrev pub live_pages : State → ℕ → List Page
live_pages s b = live_from s.places b 0 (block s.chip b).pages

pub at_most_holds : (high x : ℕ) → min high x ≤ high
at_most_holds high x = omega arith

-- A record always has P from 1 to 64 and v at most P. On a chip that is served P is from 1 to 64, and a block has
-- at most P live pages: there nothing is cut off, and these are P and v.
abbrev pub record_of : State → ℕ → BlockRecord
record_of s b =
    let p = suc (min 63 (s.chip.p - 1)) in
    record {
      number = b;
      erases = (block s.chip b).count;
      live = min p (length (live_pages s b));
      pages = p;
      age = suc (s.meter.rounds - slice_index s.marks b);
      live_few = at_most_holds p (length (live_pages s b));
      pages_some = omega arith;
      pages_few = let h = at_most_holds 63 (s.chip.p - 1) in omega arith;
      age_some = omega arith;
    }

abbrev pub records : Use → State → List BlockRecord
records u s = map (record_of s) (blocks_in u s)

-- The first of some records: each goes before the first of those after it, or gives way to it.
abbrev pub better : BlockOrder → BlockRecord → Option BlockRecord → BlockRecord
better r x None = x
better r x (Some y) = cond (r x y) x y

abbrev pub first : BlockOrder → List BlockRecord → Option BlockRecord
first r [] = None
first r (x ∷ xs) = Some (better r x (first r xs))

-- The pool's first block: the least erased of the free ones, of several the lowest.
abbrev pub first_free : State → Option BlockRecord
first_free s = first least_erased (records Free s)

-- The open block; there is at most one.
abbrev pub open_block : State → Option ℕ
open_block s = slice_get (blocks_in Open s) 0
