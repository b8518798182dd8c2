-- Two figures compare as the products of the code do, and so keep the laws of an order. Assumes nothing.
use Rattle.std.specs.Prelude.{◌≡◌, ℕ, ◌+◌, ◌-◌, ◌*◌, ◌<◌, ◌≤◌, Bool, true, false, cond, not, ◌==◌, ◌≢◌, nat_lt, refl}
use Rattle.std.proofs.Common.{sym, ap, ◌∙◌, mul-pos, mul-zero, zero-mul, arith}
use Rattle.std.proofs.lemmas.Bool.{eqb-true, eqb-false}
use Rattle.std.proofs.lemmas.Bool.Decides.{nat_tests}
use Rattle.orders.specs.declared.block.BlockRecord.{BlockRecord}
use Rattle.orders.specs.Laws.{Total, Transitive}
use Rattle.orders.specs.Products.{gained}
use Rattle.orders.specs.Ranks.{endless, over, larger, equal, then_by, cost_benefit, least_erased}
use Rattle.orders.specs.Cross.{cross_le, larger_first, larger_first_total, larger_first_trans}
use Rattle.orders.specs.Victims.{FullLast}

abbrev pub top : BlockRecord → ℕ
top a = a.age * (a.pages - a.live)

-- a block has something to gain or something to copy
pub real : (a : BlockRecord) → 0 < top a + 2 * a.live
real a = let P : 0 < a.age → 0 < a.pages - a.live → 0 < top a = λ p q. mul-pos p q in grind (arith, nat_tests)

-- a numerator times a denominator of 0
none : (n v : ℕ) → v ≡ 0 → n * (2 * v) ≡ 0
none n v e = ap (λ x. n * x) (let z : 2 * v ≡ 0 = omega arith in z) ∙ mul-zero n

some : (n v : ℕ) → 0 < n → (v ≢ 0) → 0 < n * (2 * v)
some n v p q = mul-pos p (let z : 0 < 2 * v = omega arith in z)

rich : (a : BlockRecord) → a.live ≡ 0 → 0 < top a
rich a e = omega (arith, real a)

-- by whether each has live pages
compared : (a b : BlockRecord) (x y : Bool) → (a.live == 0) ≡ x → (b.live == 0) ≡ y
    → (larger (cond x endless (over (top a) (2 * a.live))) (cond y endless (over (top b) (2 * b.live))) ≡ nat_lt (gained b a) (gained a b))
    × (equal (cond x endless (over (top a) (2 * a.live))) (cond y endless (over (top b) (2 * b.live))) ≡ (gained b a == gained a b))
compared a b true true p q =
    let u = none (top b) a.live (eqb-true _ _ p) in
    let v = none (top a) b.live (eqb-true _ _ q) in
    (grind (arith, nat_tests), grind (arith, nat_tests))
compared a b true false p q =
    let u = none (top b) a.live (eqb-true _ _ p) in
    let v = some (top a) b.live (rich a (eqb-true _ _ p)) (eqb-false _ _ q) in
    (grind (arith, nat_tests), grind (arith, nat_tests))
compared a b false true p q =
    let u = some (top b) a.live (rich b (eqb-true _ _ q)) (eqb-false _ _ p) in
    let v = none (top a) b.live (eqb-true _ _ q) in
    (grind (arith, nat_tests), grind (arith, nat_tests))
compared a b false false p q = (refl, refl)

-- the larger product first, and then as least_erased
pub by_products : (a b : BlockRecord) → cost_benefit a b ≡ larger_first (gained b a) (gained a b) (least_erased a b)
by_products a b =
    let both = compared a b (a.live == 0) (b.live == 0) refl refl in
    λ i. then_by (both.0 i) (both.1 i) (least_erased a b)

-- c's figure is at most b's and b's at most a's, so c's is at most a's
at_most : (a b c : BlockRecord) → gained b a ≤ gained a b → gained c b ≤ gained b c → gained c a ≤ gained a c
at_most a b c = cross_le (top a) (2 * a.live) (top b) (2 * b.live) (top c) (2 * c.live) (real b)

pub cost_benefit_total : Total (λ b. b.number) cost_benefit
cost_benefit_total a b apart =
    let tie : least_erased b a ≡ not (least_erased a b) = grind (arith, nat_tests) in
    by_products b a ∙ larger_first_total (gained b a) (gained a b) (least_erased a b) (least_erased b a) tie ∙ ap not (sym (by_products a b))

pub cost_benefit_transitive : Transitive (λ b. b.number) cost_benefit
cost_benefit_transitive a b c ab bc ac p q =
    by_products a c
    ∙ larger_first_trans (gained b a) (gained a b) (gained c b) (gained b c) (gained c a) (gained a c) (least_erased a b) (least_erased b c) (least_erased a c)
    (at_most a b c) (at_most b c a) (at_most c a b) (λ u v. grind (arith, nat_tests))
    (sym (by_products a b) ∙ p) (sym (by_products b c) ∙ q)

-- a full block has nothing to gain
pub cost_benefit_full_last : FullLast cost_benefit
cost_benefit_full_last a b same room full =
    let ours : 0 < gained a b = some (top a) b.live (mul-pos a.age_some (omega arith)) (omega arith) in
    let nothing : b.pages - b.live ≡ 0 = omega arith in
    let theirs : gained b a ≡ 0 = ap (λ n. b.age * n * (2 * a.live)) nothing ∙ ap (λ n. n * (2 * a.live)) (mul-zero b.age) ∙ zero-mul (2 * a.live) in
    by_products a b ∙ grind (arith, nat_tests)
