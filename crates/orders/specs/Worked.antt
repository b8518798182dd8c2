-- Worked cases of the orders: one list. Assumes nothing.
--     block n e v p a    the record of block n: e erases, v live of p pages, age a
--     page n w           the record of page n: w writes
use Rattle.std.specs.Prelude.{◌≡◌, ℕ, Bool, true, false, ◌&&◌, nat_le, refl}
use Rattle.std.proofs.lemmas.Bool.{leb-true, and_parts}
use Rattle.orders.specs.declared.block.BlockRecord.{BlockRecord}
use Rattle.orders.specs.declared.page.PageRecord.{PageRecord}
use Rattle.orders.specs.Ranks.{least_erased, fewest_live, cost_benefit, busiest}

-- the bounds of a block record, by a test that computes
abbrev pub bounded : ℕ → ℕ → ℕ → Bool
bounded v p a = (nat_le v p && nat_le 1 p) && (nat_le p 64 && nat_le 1 a)

abbrev pub block : (n e v p a : ℕ) → bounded v p a ≡ true → BlockRecord
block n e v p a ok =
    let pages = and_parts (nat_le v p && nat_le 1 p) (nat_le p 64 && nat_le 1 a) ok in
    let low = and_parts (nat_le v p) (nat_le 1 p) pages.0 in
    let high = and_parts (nat_le p 64) (nat_le 1 a) pages.1 in
    record {
      number = n;
      erases = e;
      live = v;
      pages = p;
      age = a;
      live_few = leb-true v p low.0;
      pages_some = leb-true 1 p low.1;
      pages_few = leb-true p 64 high.0;
      age_some = leb-true 1 a high.1;
    }

abbrev pub page : (n w : ℕ) → PageRecord
page n w = record { number = n; writes = w }

pub record WorkedCases : Type 0 where
  -- P 4: v 2 age 7 has 3.5 and v 1 age 2 has 3; whoever divides first makes them tie
  pub larger_figure : cost_benefit (block 9 5 2 4 7 refl) (block 1 0 1 4 2 refl) ≡ true
  pub smaller_figure : cost_benefit (block 1 0 1 4 2 refl) (block 9 5 2 4 7 refl) ≡ false
  -- v 0 is above every other figure, and two such are equal
  pub no_live : cost_benefit (block 9 5 0 4 1 refl) (block 1 0 1 4 100 refl) ≡ true
  pub both_no_live : cost_benefit (block 9 0 0 4 1 refl) (block 1 5 0 4 100 refl) ≡ true
  -- v 2 age 6 and v 1 age 2 both have 3: then fewer erases, then the lower number
  pub tie_by_erases : cost_benefit (block 9 0 2 4 6 refl) (block 1 5 1 4 2 refl) ≡ true
  pub tie_by_number : cost_benefit (block 1 5 2 4 6 refl) (block 9 5 1 4 2 refl) ≡ true
  -- the largest ages and pages
  pub largest : cost_benefit (block 9 5 63 64 4294967295 refl) (block 1 0 63 64 4294967294 refl) ≡ true
  pub live_first : fewest_live (block 9 5 1 4 1 refl) (block 1 0 2 4 1 refl) ≡ true
  pub live_tie_by_erases : fewest_live (block 9 0 2 4 1 refl) (block 1 5 2 4 1 refl) ≡ true
  pub erases_first : least_erased (block 9 0 2 4 1 refl) (block 1 5 1 4 1 refl) ≡ true
  pub erases_tie_by_number : least_erased (block 1 5 2 4 1 refl) (block 9 5 1 4 1 refl) ≡ true
  pub writes_first : busiest (page 9 13) (page 1 12) ≡ true
  pub writes_tie_by_number : busiest (page 1 13) (page 9 13) ≡ true
