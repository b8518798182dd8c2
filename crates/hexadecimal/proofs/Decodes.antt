-- How the bytes of a text come one after another.
use Rattle.std.proofs.Common.{◌≡◌, ℕ, suc, ◌+◌, ◌*◌, ◌%◌, ◌<◌, ◌≤◌, drop, List, [], ◌∷◌, ◌++◌, length, get_or, Some, None, Option, sym, refl, ap, ◌∙◌, append_assoc, arith}
use Rattle.std.proofs.Math.Seq.{drop-cons}
use Rattle.std.proofs.lemmas.Bool.Decides.{nat_tests}
use Rattle.hexadecimal.specs.Text.{pair_value, put, decoded, line_bytes}

-- bytes that stand before those of the rest of a text
abbrev pub before : List ℕ → Option (List ℕ) → Option (List ℕ)
before bs None = None
before bs (Some cs) = Some (bs ++ cs)

pub before_nothing : (rest : Option (List ℕ)) → rest ≡ before [] rest
before_nothing None = refl
before_nothing (Some cs) = refl

pub before_put : (bs : List ℕ) (b : ℕ) (rest : Option (List ℕ)) → before bs (put (Some b) rest) ≡ before (bs ++ b ∷ []) rest
before_put bs b None = refl
before_put bs b (Some cs) = ap Some (sym (append_assoc bs (b ∷ []) cs))

-- a text of which the bytes bs came, from the next two digits on
pub decoded_on : (ds bs rest two after : List ℕ) (o b : Option ℕ) → decoded ds ≡ before bs (decoded rest) → rest ≡ two ++ after → length two ≡ 2 → o ≡ pair_value (get_or two 0 0) (get_or two 1 0) → o ≡ b → decoded ds ≡ before bs (put b (decoded after))
decoded_on ds bs rest [] after o b p e n v is = absurd (omega arith)
decoded_on ds bs rest (h ∷ []) after o b p e n v is = absurd (omega arith)
decoded_on ds bs rest (h ∷ l ∷ []) after o b p e n v is = p ∙ ap (λ r. before bs (decoded r)) e ∙ ap (λ c. before bs (put c (decoded after))) (sym v ∙ is)
decoded_on ds bs rest (h ∷ l ∷ d ∷ two) after o b p e n v is = absurd (omega arith)

-- the text from one pair of digits on
pub decoded_pair : (ds : List ℕ) (i : ℕ) → 2 * i + 1 < length ds → decoded (drop (2 * i) ds) ≡ put (pair_value (get_or ds (2 * i) 0) (get_or ds (2 * i + 1) 0)) (decoded (drop (2 * (i + 1)) ds))
decoded_pair ds i h =
    let first = drop-cons ds (2 * i) 0 (omega arith) in
    let second = drop-cons ds (2 * i + 1) 0 h in
    let next : suc (2 * i) ≡ 2 * i + 1 = omega arith in
    let after : suc (2 * i + 1) ≡ 2 * (i + 1) = omega arith in
    ap decoded (first ∙ ap (λ r. get_or ds (2 * i) 0 ∷ r) (ap (λ j. drop j ds) next ∙ second)) ∙ ap (λ j. put (pair_value (get_or ds (2 * i) 0) (get_or ds (2 * i + 1) 0)) (decoded (drop j ds))) after

put_none : (b : Option ℕ) → put b None ≡ None
put_none None = refl
put_none (Some b) = refl

pub decoded_odd : (ds : List ℕ) → length ds % 2 ≡ 1 → decoded ds ≡ None
decoded_odd [] h = absurd (omega arith)
decoded_odd (d ∷ []) h = refl
decoded_odd (d ∷ e ∷ ds) h = rw (decoded_odd ds (omega arith)) (put_none (pair_value d e))

-- a line that is refused, and one that is within the bounds
pub refused : (n : ℕ) (ds : List ℕ) → decoded ds ≡ None → line_bytes n ds ≡ None
refused n ds e = grind (arith, nat_tests)

pub bounded : (n : ℕ) (ds : List ℕ) → 0 < length ds → length ds ≤ 2 * n → line_bytes n ds ≡ decoded ds
bounded n ds h k = grind (arith, nat_tests)

pub empty : (n : ℕ) (ds : List ℕ) → length ds ≡ 0 → line_bytes n ds ≡ None
empty n ds h = grind (arith, nat_tests)

pub too_long : (n : ℕ) (ds : List ℕ) → 2 * n < length ds → line_bytes n ds ≡ None
too_long n ds h = grind (arith, nat_tests)
