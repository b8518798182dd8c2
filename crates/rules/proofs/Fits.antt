-- What the checks of start say in numbers.
use Rattle.std.proofs.Common.{◌≡◌, ℕ, zero, suc, ◌+◌, ◌-◌, ◌*◌, ◌/◌, ◌%◌, ◌<◌, ◌≤◌, Bool, true, false, eqb, List, length, get_or, sym, ◌∙◌, subst, mul-le-mul_right, div-add-mod', arith}
use Rattle.std.specs.List.{list_any}
use Rattle.std.proofs.lemmas.Bool.{true≢false, false_from_ne_true, eqb-false}
use Rattle.std.proofs.lemmas.Bool.Decides.{nat_tests}
use Rattle.std.proofs.lemmas.List.Folds.{list_any_at}
use Rattle.flash.specs.Limits.{between}
use Rattle.flash.specs.Meaning.{Flash, Block, block, no_block, WellFormed as ChipFits}
use Rattle.rules.specs.declared.Settings.{Settings}
use Rattle.rules.specs.Tables.{set_size}
use Rattle.rules.specs.Calls.{sets_fit, is_worn}
use Rattle.rules.specs.WellFormed.{Fitting}

pub between_is : (low n high : ℕ) → between low n high ≡ true → (low ≤ n) × (n ≤ high)
between_is low n high h = (grind (arith, nat_tests), grind (arith, nat_tests))

pub record InNumbers (g : Settings) (f : Flash) : Type 0 where
  pub two_blocks : 2 ≤ length f.blocks
  pub few_blocks : length f.blocks ≤ 256
  pub some_pages : 1 ≤ f.p
  pub few_pages : f.p ≤ 64
  pub threshold : 1 ≤ g.threshold
  pub some_logical : 1 ≤ g.logical
  pub room : g.logical + f.p < length f.blocks * f.p
  pub tags : g.logical < 65536

-- the room law, with no difference in it
room_of : (n p l : ℕ) → (1 ≤ l) × (l ≤ (n - 1) * p - 1) → l + p < n * p
room_of zero p l h = absurd (omega (arith, h.0, h.1))
room_of (suc n) p l h = let e : suc n - 1 ≡ n = omega arith in let q : l ≤ n * p - 1 = subst (λ k. l ≤ k * p - 1) e h.1 in omega (arith, h.0)

pub in_numbers : (g : Settings) (f : Flash) → Fitting g f → InNumbers g f
in_numbers g f h =
    let l = between_is 1 g.logical ((length f.blocks - 1) * f.p - 1) h.logical in
    let sizes = h.sizes in
    let blocks : length f.blocks ≤ 256 = grind (arith, nat_tests) in
    let few : length f.blocks - 1 ≤ 255 = omega arith in
    let pages : f.p ≤ 64 = grind (arith, nat_tests) in
    record {
      two_blocks = grind (arith, nat_tests);
      few_blocks = blocks;
      some_pages = grind (arith, nat_tests);
      few_pages = pages;
      threshold = (between_is 1 g.threshold 1000 h.threshold).0;
      some_logical = l.0;
      room = room_of (length f.blocks) f.p g.logical l;
      tags = omega (arith, l.1, mul-le-mul_right f.p few);
    }

-- the sets make up the chip
pub sets_whole : (g : Settings) (f : Flash) → sets_fit f g ≡ true → length f.blocks ≡ (length f.blocks / set_size g) * set_size g
sets_whole g f h =
    let e : length f.blocks % set_size g ≡ 0 = grind (arith, nat_tests) in
    omega (arith, div-add-mod' (length f.blocks) (set_size g))

-- what no block passes
pub none_passes : (p : Block → Bool) (xs : List Block) → list_any p xs ≡ false → (b : ℕ) → b < length xs → p (get_or xs b no_block) ≡ false
none_passes p xs h b l = false_from_ne_true _ (λ t. true≢false (sym (list_any_at p xs b no_block l t) ∙ h))

pub not_worn : (f : Flash) → ChipFits f → is_worn f ≡ false → (b : ℕ) → b < length f.blocks → (block f b).count < f.e
not_worn f c h b l =
    let ne = eqb-false (block f b).count f.e (none_passes (λ x. eqb x.count f.e) f.blocks h b l) in
    omega (arith, (c.each b l).worn)
