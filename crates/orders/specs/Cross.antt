-- Fractions n / d compared by cross products, where n and d are not both 0. Assumes nothing.
use Rattle.std.specs.Prelude.{◌≡◌, ℕ, ◌+◌, ◌*◌, ◌<◌, ◌≤◌, Bool, true, not, ◌==◌, nat_lt}
use Rattle.std.proofs.Common.{sym, ap, ◌∙◌, ⊎_elim, mul_comm, mul_assoc, mul-pos, mul-le-mul_right, le_of_mul-le-mul_right, mul-zero, arith}
use Rattle.std.proofs.lemmas.Bool.Decides.{nat_tests}
use Rattle.std.proofs.lemmas.Bool.{cases_lt}
use Rattle.orders.specs.Ranks.{then_by}

-- c is at most b and b at most a, so c is at most a
pub cross_le : (na da nb db nc dc : ℕ) → 0 < nb + db → nb * da ≤ na * db → nc * db ≤ nb * dc → nc * da ≤ na * dc
cross_le na da nb db nc dc real p q = ⊎_elim
    (λ pos. le_of_mul-le-mul_right {k = db}
    (let s : nc * da * db ≡ nc * db * da = mul_assoc nc da db ∙ ap (λ x. nc * x) (mul_comm da db) ∙ sym (mul_assoc nc db da) in
    let t : nb * dc * da ≡ nb * da * dc = mul_assoc nb dc da ∙ ap (λ x. nb * x) (mul_comm dc da) ∙ sym (mul_assoc nb da dc) in
    let u : na * db * dc ≡ na * dc * db = mul_assoc na db dc ∙ ap (λ x. na * x) (mul_comm db dc) ∙ sym (mul_assoc na dc db) in
    let v : nc * db * da ≤ nb * dc * da = mul-le-mul_right da q in
    let w : nb * da * dc ≤ na * db * dc = mul-le-mul_right dc p in
    omega arith) pos)
    (λ none.
    let db0 : db ≡ 0 = omega arith in
    let z : na * db ≡ 0 = ap (λ x. na * x) db0 ∙ mul-zero na in
    ⊎_elim
    (λ (pos : 0 < da). let nbpos : 0 < nb = omega arith in let bad : 0 < nb * da = mul-pos nbpos pos in absurd (omega arith))
    (λ (zero : da ≤ 0). let da0 : da ≡ 0 = omega arith in let e : nc * da ≡ 0 = ap (λ x. nc * x) da0 ∙ mul-zero nc in omega arith)
    (cases_lt 0 da))
    (cases_lt 0 db)

-- the larger number first, and then by a test: the two laws of an order, from those of the test
abbrev pub larger_first : ℕ → ℕ → Bool → Bool
larger_first theirs ours rest = then_by (nat_lt theirs ours) (theirs == ours) rest

pub larger_first_total : (ba ab : ℕ) (r s : Bool) → s ≡ not r → larger_first ab ba s ≡ not (larger_first ba ab r)
larger_first_total ba ab r s e = grind (arith, nat_tests)

pub larger_first_trans : (ba ab cb bc ca ac : ℕ) (r s t : Bool)
    → (ba ≤ ab → cb ≤ bc → ca ≤ ac)
    → (cb ≤ bc → ac ≤ ca → ab ≤ ba)
    → (ac ≤ ca → ba ≤ ab → bc ≤ cb)
    → (r ≡ true → s ≡ true → t ≡ true)
    → larger_first ba ab r ≡ true → larger_first cb bc s ≡ true → larger_first ca ac t ≡ true
larger_first_trans ba ab cb bc ca ac r s t f g h k p q = grind (arith, nat_tests)

pub equal_then : (theirs ours : ℕ) (r : Bool) → theirs ≡ ours → r ≡ larger_first theirs ours r
equal_then theirs ours r e = grind (arith, nat_tests)
