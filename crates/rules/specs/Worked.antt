-- Worked examples of the rules: one list. Byte n is what write n stores, so that an old copy is told from a new one.
--   run A    four blocks of two one-byte pages, E 100, k 0, T 2, L 4, fewest live: pages 0, 1, 2, 3, then page 0 on and on
--   run B    the same with L 1 and T 1, and only page 0 written
--   run C    six blocks of three one-byte pages in sets of two, E 100, k 1, T 1, L 10, cost-benefit: 34 writes
--   Row      what a write did to the chip, and flags, counters and erase counts after it
use Rattle.std.specs.Prelude.{◌≡◌, ℕ, suc, pred, Bool, true, false, List, [], ◌∷◌, ◌++◌, map, replicate, Some, None, Ok, Err, Option, slice_index_or, refl}
use Rattle.std.specs.Option.{option_map_or}
use Rattle.orders.specs.Ranks.{fewest_live, cost_benefit}
use Rattle.orders.specs.Worked.{block}
use Rattle.flash.specs.Meaning.{Flash, Page, Block, Op, program, erase, page_of, blank, no_chip}
use Rattle.rules.specs.declared.Settings.{Settings}
use Rattle.rules.specs.declared.Place.{Place}
use Rattle.rules.specs.declared.Use.{Use}
use Rattle.rules.specs.declared.Use.TheVariants.{Free, Open, Closed}
use Rattle.rules.specs.declared.Written.{Written}
use Rattle.rules.specs.declared.Refusal.TheVariants.{AlreadyStarted, OutsideLimits, UnevenSets, WrongThreshold, WrongLogical, NotBlank, NotStarted, NoSuchPage, WrongLength, WornOut, Empty}
use Rattle.rules.specs.Tables.{Meter, Leveller, Outcome, left}
use Rattle.rules.specs.Blocks.{BlockOrder}
use Rattle.rules.specs.Calls.{start, write, read, discard}

-- A chip of n blocks of p pages of d bytes, rated for e erases, on which nothing was done; a leveller over it that is
-- not started, and the outcome of starting it.
abbrev pub chip : (n p d e : ℕ) → Flash
chip n p d e = blank (record { blocks = n; pages = p; size = d; rated = e })

abbrev pub over : Flash → Leveller
over f = record { tables = None; chip = f }

abbrev pub settings : (k t l : ℕ) → Settings
settings k t l = record { k = k; threshold = t; logical = l }

unfoldable pub started : Flash → Settings → Leveller
started f g = left (start (over f) g)

-- The outcomes of writing the pages ts, from write n on.
unfoldable pub run : BlockOrder → ℕ → List ℕ → Leveller → List (Outcome Written)
run r n [] l = []
run r n (t ∷ ts) l = let o = write r l t (n ∷ []) in o ∷ run r (suc n) ts (left o)

-- The leveller after write n.
abbrev pub after_write : ℕ → List (Outcome Written) → Leveller
after_write n os = left (slice_index_or os (pred n) (record { answer = Err NotStarted; tables = None; chip = no_chip; buffer = []; operations = [] }))

pub record Row : Type 0 where
  pub operations : List Op
  pub flags : List Bool
  pub ecnt : ℕ
  pub fcnt : ℕ
  pub findex : ℕ
  pub rounds : ℕ
  pub counts : List ℕ

abbrev pub row : List Op → List Bool → ℕ → ℕ → ℕ → ℕ → List ℕ → Row
row operations flags ecnt fcnt findex rounds counts =
    record { operations = operations; flags = flags; ecnt = ecnt; fcnt = fcnt; findex = findex; rounds = rounds; counts = counts }

abbrev pub no_meter : Meter
no_meter = record { flags = []; ecnt = 0; fcnt = 0; findex = 0; rounds = 0 }

abbrev pub counts_of : Flash → List ℕ
counts_of f = map (λ x. x.count) f.blocks

abbrev pub row_of : Outcome Written → Row
row_of o = let m = option_map_or (λ x. x.meter) o.tables no_meter in row o.operations m.flags m.ecnt m.fcnt m.findex m.rounds (counts_of o.chip)

unfoldable pub run_a : List (Outcome Written)
run_a = run fewest_live 1 (0 ∷ 1 ∷ 2 ∷ 3 ∷ replicate 20 0) (started (chip 4 2 1 100) (settings 0 2 4))

unfoldable pub run_b : List (Outcome Written)
run_b = run fewest_live 1 (replicate 13 0) (started (chip 4 2 1 100) (settings 0 1 1))

unfoldable pub run_c : List (Outcome Written)
run_c = run cost_benefit 1 (0 ∷ 1 ∷ 2 ∷ 3 ∷ 4 ∷ 5 ∷ 6 ∷ 7 ∷ 8 ∷ 9 ∷ 1 ∷ 9 ∷ 1 ∷ 0 ∷ 4 ∷ 4 ∷ 1 ∷ 0 ∷ 9 ∷ 1 ∷ 3 ∷ 1 ∷ 1 ∷ 5 ∷ 5 ∷ 1 ∷ 1 ∷ 6 ∷ 5 ∷ 0 ∷ 5 ∷ 0 ∷ 0 ∷ 1 ∷ []) (started (chip 6 3 1 100) (settings 1 1 10))

abbrev pub at : ℕ → ℕ → Option Place
at b i = Some (record { block = b; page = i })

abbrev pub holds : ℕ → List Page → Block
holds count pages = record { count = count; pages = pages }

abbrev pub wrote : ℕ → ℕ → Page
wrote t n = page_of t (n ∷ [])

-- A whole leveller over blocks of p pages.
abbrev pub whole : ℕ → Settings → List (Option Place) → List Use → List ℕ → Meter → List Block → Leveller
whole p g places uses marks meter blocks = record {
  tables = Some (record { settings = g; places = places; uses = uses; marks = marks; meter = meter });
  chip = record { p = p; d = 1; e = 100; blocks = blocks };
}

abbrev pub meter : List Bool → ℕ → ℕ → ℕ → ℕ → Meter
meter flags ecnt fcnt findex rounds = record { flags = flags; ecnt = ecnt; fcnt = fcnt; findex = findex; rounds = rounds }

pub record WorkedExamples : Type 0 where
  -- run A, write by write: write 7 moves one page from block 0 to 3 and erases 0; write 14 erases 3, then 1, copies two
  -- pages and leaves ecnt 7, fcnt 4, findex 2; write 16 ends the first round, and findex stays
  pub each_write : map row_of run_a ≡
      row (program 0 (page_of 0 (1 ∷ [])) ∷ []) (false ∷ false ∷ false ∷ false ∷ []) 0 0 0 0 (0 ∷ 0 ∷ 0 ∷ 0 ∷ []) ∷
      row (program 0 (page_of 1 (2 ∷ [])) ∷ []) (false ∷ false ∷ false ∷ false ∷ []) 0 0 0 0 (0 ∷ 0 ∷ 0 ∷ 0 ∷ []) ∷
      row (program 1 (page_of 2 (3 ∷ [])) ∷ []) (false ∷ false ∷ false ∷ false ∷ []) 0 0 0 0 (0 ∷ 0 ∷ 0 ∷ 0 ∷ []) ∷
      row (program 1 (page_of 3 (4 ∷ [])) ∷ []) (false ∷ false ∷ false ∷ false ∷ []) 0 0 0 0 (0 ∷ 0 ∷ 0 ∷ 0 ∷ []) ∷
      row (program 2 (page_of 0 (5 ∷ [])) ∷ []) (false ∷ false ∷ false ∷ false ∷ []) 0 0 0 0 (0 ∷ 0 ∷ 0 ∷ 0 ∷ []) ∷
      row (program 2 (page_of 0 (6 ∷ [])) ∷ []) (false ∷ false ∷ false ∷ false ∷ []) 0 0 0 0 (0 ∷ 0 ∷ 0 ∷ 0 ∷ []) ∷
      row (program 3 (page_of 1 (2 ∷ [])) ∷ erase 0 ∷ program 3 (page_of 0 (7 ∷ [])) ∷ []) (true ∷ false ∷ false ∷ false ∷ []) 1 1 0 0 (1 ∷ 0 ∷ 0 ∷ 0 ∷ []) ∷
      row (erase 2 ∷ program 0 (page_of 0 (8 ∷ [])) ∷ []) (true ∷ false ∷ true ∷ false ∷ []) 2 2 0 0 (1 ∷ 0 ∷ 1 ∷ 0 ∷ []) ∷
      row (program 0 (page_of 0 (9 ∷ [])) ∷ []) (true ∷ false ∷ true ∷ false ∷ []) 2 2 0 0 (1 ∷ 0 ∷ 1 ∷ 0 ∷ []) ∷
      row (program 2 (page_of 1 (2 ∷ [])) ∷ erase 3 ∷ program 2 (page_of 0 (10 ∷ [])) ∷ []) (true ∷ false ∷ true ∷ true ∷ []) 3 3 0 0 (1 ∷ 0 ∷ 1 ∷ 1 ∷ []) ∷
      row (erase 0 ∷ program 3 (page_of 0 (11 ∷ [])) ∷ []) (true ∷ false ∷ true ∷ true ∷ []) 4 3 0 0 (2 ∷ 0 ∷ 1 ∷ 1 ∷ []) ∷
      row (program 3 (page_of 0 (12 ∷ [])) ∷ []) (true ∷ false ∷ true ∷ true ∷ []) 4 3 0 0 (2 ∷ 0 ∷ 1 ∷ 1 ∷ []) ∷
      row (program 0 (page_of 1 (2 ∷ [])) ∷ erase 2 ∷ program 0 (page_of 0 (13 ∷ [])) ∷ []) (true ∷ false ∷ true ∷ true ∷ []) 5 3 0 0 (2 ∷ 0 ∷ 2 ∷ 1 ∷ []) ∷
      row (erase 3 ∷ program 2 (page_of 0 (14 ∷ [])) ∷ program 3 (page_of 2 (3 ∷ [])) ∷ program 3 (page_of 3 (4 ∷ [])) ∷ erase 1 ∷ []) (true ∷ true ∷ true ∷ true ∷ []) 7 4 2 0 (2 ∷ 1 ∷ 2 ∷ 2 ∷ []) ∷
      row (program 2 (page_of 0 (15 ∷ [])) ∷ []) (true ∷ true ∷ true ∷ true ∷ []) 7 4 2 0 (2 ∷ 1 ∷ 2 ∷ 2 ∷ []) ∷
      row (program 1 (page_of 1 (2 ∷ [])) ∷ erase 0 ∷ program 1 (page_of 0 (16 ∷ [])) ∷ []) (false ∷ false ∷ false ∷ false ∷ []) 0 0 2 1 (3 ∷ 1 ∷ 2 ∷ 2 ∷ []) ∷
      row (erase 2 ∷ program 0 (page_of 0 (17 ∷ [])) ∷ []) (false ∷ false ∷ true ∷ false ∷ []) 1 1 2 1 (3 ∷ 1 ∷ 3 ∷ 2 ∷ []) ∷
      row (program 0 (page_of 0 (18 ∷ [])) ∷ []) (false ∷ false ∷ true ∷ false ∷ []) 1 1 2 1 (3 ∷ 1 ∷ 3 ∷ 2 ∷ []) ∷
      row (program 2 (page_of 1 (2 ∷ [])) ∷ erase 1 ∷ program 2 (page_of 0 (19 ∷ [])) ∷ []) (false ∷ true ∷ true ∷ false ∷ []) 2 2 2 1 (3 ∷ 2 ∷ 3 ∷ 2 ∷ []) ∷
      row (erase 0 ∷ program 1 (page_of 0 (20 ∷ [])) ∷ []) (true ∷ true ∷ true ∷ false ∷ []) 3 3 2 1 (4 ∷ 2 ∷ 3 ∷ 2 ∷ []) ∷
      row (program 1 (page_of 0 (21 ∷ [])) ∷ []) (true ∷ true ∷ true ∷ false ∷ []) 3 3 2 1 (4 ∷ 2 ∷ 3 ∷ 2 ∷ []) ∷
      row (program 0 (page_of 0 (21 ∷ [])) ∷ erase 1 ∷ program 0 (page_of 0 (22 ∷ [])) ∷ []) (true ∷ true ∷ true ∷ false ∷ []) 4 3 2 1 (4 ∷ 3 ∷ 3 ∷ 2 ∷ []) ∷
      row (program 1 (page_of 1 (2 ∷ [])) ∷ erase 2 ∷ program 1 (page_of 0 (23 ∷ [])) ∷ []) (true ∷ true ∷ true ∷ false ∷ []) 5 3 2 1 (4 ∷ 3 ∷ 4 ∷ 2 ∷ []) ∷
      row (erase 0 ∷ program 2 (page_of 0 (24 ∷ [])) ∷ program 0 (page_of 2 (3 ∷ [])) ∷ program 0 (page_of 3 (4 ∷ [])) ∷ erase 3 ∷ []) (true ∷ true ∷ true ∷ true ∷ []) 7 4 0 1 (5 ∷ 3 ∷ 4 ∷ 3 ∷ []) ∷ []
  -- what writes 7 and 14 answer
  pub seventh_answers : slice_index_or (map (λ o. o.answer) run_a) 6 (Err Empty) ≡ Ok (record { erases = 1; copied = 1 })
  pub fourteenth_answers : slice_index_or (map (λ o. o.answer) run_a) 13 (Err Empty) ≡ Ok (record { erases = 2; copied = 2 })
  -- the whole leveller and its chip
  pub seventh : after_write 7 run_a ≡
      whole 2 (settings 0 2 4) (at 3 1 ∷ at 3 0 ∷ at 1 0 ∷ at 1 1 ∷ []) (Free ∷ Closed ∷ Closed ∷ Open ∷ []) (0 ∷ 0 ∷ 0 ∷ 0 ∷ [])
      (meter (true ∷ false ∷ false ∷ false ∷ []) 1 1 0 0) (holds 1 ([]) ∷ holds 0 (wrote 2 3 ∷ wrote 3 4 ∷ []) ∷ holds 0 (wrote 0 5 ∷ wrote 0 6 ∷ []) ∷ holds 0 (wrote 1 2 ∷ wrote 0 7 ∷ []) ∷ [])
  pub fourteenth : after_write 14 run_a ≡
      whole 2 (settings 0 2 4) (at 2 0 ∷ at 0 0 ∷ at 3 0 ∷ at 3 1 ∷ []) (Closed ∷ Free ∷ Open ∷ Closed ∷ []) (0 ∷ 0 ∷ 0 ∷ 0 ∷ [])
      (meter (true ∷ true ∷ true ∷ true ∷ []) 7 4 2 0) (holds 2 (wrote 1 2 ∷ wrote 0 13 ∷ []) ∷ holds 1 ([]) ∷ holds 2 (wrote 0 14 ∷ []) ∷ holds 2 (wrote 2 3 ∷ wrote 3 4 ∷ []) ∷ [])
  pub round_ended : after_write 16 run_a ≡
      whole 2 (settings 0 2 4) (at 1 1 ∷ at 1 0 ∷ at 3 0 ∷ at 3 1 ∷ []) (Free ∷ Open ∷ Closed ∷ Closed ∷ []) (0 ∷ 0 ∷ 0 ∷ 0 ∷ [])
      (meter (false ∷ false ∷ false ∷ false ∷ []) 0 0 2 1) (holds 3 ([]) ∷ holds 1 (wrote 1 2 ∷ wrote 0 16 ∷ []) ∷ holds 2 (wrote 0 14 ∷ wrote 0 15 ∷ []) ∷ holds 2 (wrote 2 3 ∷ wrote 3 4 ∷ []) ∷ [])
  pub next_round : after_write 24 run_a ≡
      whole 2 (settings 0 2 4) (at 2 0 ∷ at 1 0 ∷ at 0 0 ∷ at 0 1 ∷ []) (Closed ∷ Closed ∷ Open ∷ Free ∷ []) (1 ∷ 1 ∷ 1 ∷ 0 ∷ [])
      (meter (true ∷ true ∷ true ∷ true ∷ []) 7 4 0 1) (holds 5 (wrote 2 3 ∷ wrote 3 4 ∷ []) ∷ holds 3 (wrote 1 2 ∷ wrote 0 23 ∷ []) ∷ holds 4 (wrote 0 24 ∷ []) ∷ holds 3 ([]) ∷ [])
  -- run B: the seventh write erases 0, 1, 2, 3, copies one page and ends the round, and so does the thirteenth
  pub one_page : slice_index_or (map row_of run_b) 6 (row [] [] 0 0 0 0 []) ≡ row (erase 0 ∷ program 3 (page_of 0 (7 ∷ [])) ∷ erase 1 ∷ erase 2 ∷ program 0 (page_of 0 (7 ∷ [])) ∷ erase 3 ∷ []) (false ∷ false ∷ false ∷ false ∷ []) 0 0 0 1 (1 ∷ 1 ∷ 1 ∷ 1 ∷ [])
  pub one_page_answers : slice_index_or (map (λ o. o.answer) run_b) 6 (Err Empty) ≡ Ok (record { erases = 4; copied = 1 })
  pub one_page_again : slice_index_or (map row_of run_b) 12 (row [] [] 0 0 0 0 []) ≡ row (erase 0 ∷ program 3 (page_of 0 (13 ∷ [])) ∷ erase 1 ∷ erase 2 ∷ program 0 (page_of 0 (13 ∷ [])) ∷ erase 3 ∷ []) (false ∷ false ∷ false ∷ false ∷ []) 0 0 0 2 (2 ∷ 2 ∷ 2 ∷ 2 ∷ [])
  -- run C: ages and live pages choose the victims, and sets have two blocks
  pub by_age : after_write 34 run_c ≡
      whole 3 (settings 1 1 10) (at 1 1 ∷ at 4 1 ∷ at 3 0 ∷ at 0 0 ∷ at 3 1 ∷ at 0 1 ∷ at 4 0 ∷ at 2 0 ∷ at 2 1 ∷ at 1 0 ∷ []) (Closed ∷ Closed ∷ Closed ∷ Closed ∷ Open ∷ Free ∷ []) (8 ∷ 8 ∷ 7 ∷ 8 ∷ 8 ∷ 8 ∷ [])
      (meter (false ∷ false ∷ false ∷ []) 0 0 0 9)
      (holds 7 (wrote 3 21 ∷ wrote 5 31 ∷ []) ∷ holds 8 (wrote 9 19 ∷ wrote 0 33 ∷ []) ∷ holds 5 (wrote 7 8 ∷ wrote 8 9 ∷ []) ∷ holds 7 (wrote 2 3 ∷ wrote 4 16 ∷ []) ∷ holds 9 (wrote 6 28 ∷ wrote 1 34 ∷ []) ∷ holds 9 ([]) ∷ [])
  -- cost-benefit, P 4: v 2 age 7 goes before v 1 age 2 (3.5 against 3); v 0 age 1 goes before v 1 age 100
  pub exact_figures : cost_benefit (block 1 0 2 4 7 refl) (block 0 0 1 4 2 refl) ≡ true
  pub not_the_other_way : cost_benefit (block 0 0 1 4 2 refl) (block 1 0 2 4 7 refl) ≡ false
  pub no_live_page : cost_benefit (block 1 0 0 4 1 refl) (block 0 0 1 4 100 refl) ≡ true
  -- start: N 2, P 2 has room for one logical page, N 2, P 1 for none; T is 1 to 1,000
  pub room_for_one : (start (over (chip 2 2 1 100)) (settings 0 2 1)).answer ≡ Ok tt
  pub no_room_for_two : (start (over (chip 2 2 1 100)) (settings 0 2 2)).answer ≡ Err WrongLogical
  pub no_room_for_one : (start (over (chip 2 1 1 100)) (settings 0 2 1)).answer ≡ Err WrongLogical
  pub no_logical_page : (start (over (chip 2 2 1 100)) (settings 0 2 0)).answer ≡ Err WrongLogical
  pub least_threshold : (start (over (chip 4 2 1 100)) (settings 0 1 4)).answer ≡ Ok tt
  pub largest_threshold : (start (over (chip 4 2 1 100)) (settings 0 1000 4)).answer ≡ Ok tt
  pub threshold_0 : (start (over (chip 4 2 1 100)) (settings 0 0 4)).answer ≡ Err WrongThreshold
  pub threshold_1001 : (start (over (chip 4 2 1 100)) (settings 0 1001 4)).answer ≡ Err WrongThreshold
  -- the other refusals of start, each before all that follow it
  pub twice : (start (after_write 7 run_a) (settings 9 0 0)).answer ≡ Err AlreadyStarted
  pub one_block : (start (over (chip 1 2 1 100)) (settings 9 0 0)).answer ≡ Err OutsideLimits
  pub large_set : (start (over (chip 4 2 1 100)) (settings 9 0 0)).answer ≡ Err UnevenSets
  pub uneven_set : (start (over (chip 6 2 1 100)) (settings 2 0 0)).answer ≡ Err UnevenSets
  pub used_chip : (start (over (after_write 7 run_a).chip) (settings 0 2 4)).answer ≡ Err NotBlank
  pub worn_chip : (start (over (record { p = 2; d = 1; e = 7; blocks = replicate 4 (holds 7 []) })) (settings 0 2 4)).answer ≡ Ok tt
  -- reads, discards and the refusals of pages
  pub reads_newest : (read (after_write 14 run_a) 0 (99 ∷ [])).buffer ≡ 14 ∷ []
  pub reads_moved : (read (after_write 14 run_a) 2 (99 ∷ [])).buffer ≡ 3 ∷ []
  pub not_started : (write fewest_live (over (chip 4 2 1 100)) 9 []).answer ≡ Err NotStarted
  pub page_4 : (write fewest_live (after_write 7 run_a) 4 []).answer ≡ Err NoSuchPage
  pub two_bytes : (write fewest_live (after_write 7 run_a) 0 (1 ∷ 2 ∷ [])).answer ≡ Err WrongLength
  pub worn : (write fewest_live (started (record { p = 2; d = 1; e = 7; blocks = replicate 3 (holds 0 []) ++ holds 7 [] ∷ [] }) (settings 0 2 4)) 0 (1 ∷ [])).answer ≡ Err WornOut
  pub never_written : (read (started (chip 4 2 1 100) (settings 0 2 4)) 0 (99 ∷ [])).answer ≡ Err Empty
  pub short_buffer : (read (after_write 7 run_a) 0 []).answer ≡ Err WrongLength
  pub discarded : (read (left (discard (after_write 7 run_a) 1)) 1 (99 ∷ [])).answer ≡ Err Empty
  pub discarded_buffer : (read (left (discard (after_write 7 run_a) 1)) 1 (99 ∷ [])).buffer ≡ 99 ∷ []
  pub discarded_twice : (discard (left (discard (after_write 7 run_a) 1)) 1).answer ≡ Err Empty
