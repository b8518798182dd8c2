-- The steps that change a state.
--
--   use_block      a block gets a use
--   program_page   a page is programmed at the end of a block, and the map names its place
--   count_erase    SWL-BETUpdate: what an erase does to the block-erasing table
--   erase_block    a block is erased and joins the free pool
--   move           a block's live pages go to a free block, the block is erased, the other gets a use
--   make_room      steps 1 to 3 of a write: afterwards the open block has an unwritten page
--   store          step 4 of a write
use Rattle.std.specs.Prelude.{ℕ, suc, ◌/◌, Bool, true, false, cond, List, [], ◌∷◌, ◌++◌, length, Some, None, nat_lt, fold, slice_index_or, slice_set}
use Rattle.flash.specs.Meaning.{Page, program, erase, block, programmed, erased}
use Rattle.rules.specs.declared.Settings.{Settings}
use Rattle.rules.specs.declared.Use.{Use}
use Rattle.rules.specs.declared.Use.TheVariants.{Free, Open, Closed}
use Rattle.rules.specs.Tables.{Meter, State, set_size}
use Rattle.rules.specs.Blocks.{BlockOrder, blocks_in, live_pages, records, first, first_free, open_block}

unfoldable pub use_block : ℕ → Use → State → State
use_block b u s = record s { uses = slice_set s.uses b u }

-- The one step that programs, for new pages and for copies, and so the one that sets an age mark.
unfoldable pub program_page : ℕ → Page → State → State
program_page b q s = record s {
  chip = programmed s.chip b q;
  places = slice_set s.places q.tag (Some (record { block = b; page = length (block s.chip b).pages }));
  marks = slice_set s.marks b s.meter.rounds;
  log = s.log ++ program b q ∷ [];
}

-- An erase in set i: one erase more, and one flag more if the set had none.
unfoldable pub count_erase : ℕ → Meter → Meter
count_erase i m = record m {
  flags = slice_set m.flags i true;
  ecnt = suc m.ecnt;
  fcnt = cond (slice_index_or m.flags i true) m.fcnt (suc m.fcnt);
}

unfoldable pub erase_block : Settings → ℕ → State → State
erase_block g b s = record s {
  chip = erased s.chip b;
  uses = slice_set s.uses b Free;
  meter = count_erase (b / set_size g) s.meter;
  log = s.log ++ erase b ∷ [];
}

-- Copies keep tag and bytes, and the map follows each.
unfoldable pub copy : ℕ → List Page → State → State
copy d qs s = fold (λ t q. program_page d q t) s qs

-- The live pages of b go to d in rising page order, b is erased and joins the pool, and d gets the use u.
unfoldable pub move : Settings → ℕ → ℕ → Use → State → State
move g b d u s = use_block d u (erase_block g b (copy d (live_pages s b) s))

-- Cleaning, with the one free block d: the victim is the first closed block in the victim order r.
-- (Where a choice finds no block, nothing is done; in a started leveller each finds one.)
unfoldable pub clean : Settings → BlockOrder → ℕ → State → State
clean g r d s = elim (first r (records Closed s)) [ None ↦ s | Some v ↦ move g v.number d Open s ]

unfoldable pub close_open : State → State
close_open s = elim (open_block s) [ None ↦ s | Some b ↦ use_block b Closed s ]

unfoldable pub open_first : State → State
open_first s = elim (first_free s) [ None ↦ s | Some d ↦ use_block d.number Open s ]

-- With two or more free blocks the pool's first becomes open; with one, that one is a cleaning's destination.
unfoldable pub open_next : Settings → BlockOrder → List ℕ → State → State
open_next g r [] s = s
open_next g r (d ∷ []) s = clean g r d s
open_next g r (_ ∷ _ ∷ _) s = open_first s

-- The open block has an unwritten page.
abbrev pub has_room : State → Bool
has_room s = elim (open_block s) [ None ↦ false | Some b ↦ nat_lt (length (block s.chip b).pages) s.chip.p ]

-- Step 1: with room in the open block nothing is to be done. Steps 2 and 3: it is closed, and another is opened.
unfoldable pub make_room : Settings → BlockOrder → State → State
make_room g r s = elim (has_room s) [ true ↦ s | false ↦ open_next g r (blocks_in Free (close_open s)) (close_open s) ]

unfoldable pub store : Page → State → State
store q s = elim (open_block s) [ None ↦ s | Some b ↦ program_page b q s ]
