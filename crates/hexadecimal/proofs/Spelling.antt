-- A text has bytes exactly when it spells them, and a line then has two digits to a byte.
use Rattle.std.proofs.Common.{◌≡◌, ℕ, ◌+◌, ◌*◌, ◌/◌, ◌%◌, ◌<◌, ◌≤◌, List, [], ◌∷◌, length, Some, None, Option, sym, refl, ap, ◌∙◌, subst, ⊎_elim, arith}
use Rattle.std.proofs.lemmas.Bool.Decides.{nat_tests}
use Rattle.hexadecimal.specs.Text.{digit_value, upper, lower, byte_of, pair_value, put, decoded, line_bytes, Digit, Spells, Unspelled}
use Rattle.hexadecimal.proofs.Decodes.{bounded}

-- a digit's character from its value, and its value from its character
pub digit_of : (c v : ℕ) → digit_value c ≡ Some v → Digit c v
digit_of c v e = record { small = grind (arith, nat_tests); either = grind (arith, nat_tests) }

value_upper : (c v : ℕ) → v < 16 → c ≡ upper v → digit_value c ≡ Some v
value_upper c v h e = grind (arith, nat_tests)

value_lower : (c v : ℕ) → v < 16 → c ≡ lower v → digit_value c ≡ Some v
value_lower c v h e = grind (arith, nat_tests)

pub value_of : (c v : ℕ) → Digit c v → digit_value c ≡ Some v
value_of c v d = ⊎_elim (value_upper c v d.small) (value_lower c v d.small) d.either

-- the two digits of a byte
pair_digits : (h l b : ℕ) → pair_value h l ≡ Some b → Digit h (b / 16) × Digit l (b % 16)
pair_digits h l b e = go (digit_value h) (digit_value l) refl refl e where
  go : (x y : Option ℕ) → digit_value h ≡ x → digit_value l ≡ y → byte_of x y ≡ Some b → Digit h (b / 16) × Digit l (b % 16)
  go None y p q f = cc
  go (Some u) None p q f = cc
  go (Some u) (Some v) p q f =
      let high = digit_of h u p in
      let low = digit_of l v q in
      let is : u * 16 + v ≡ b = cc in
      let top : u ≡ b / 16 = omega (arith, low.small) in
      let rest : v ≡ b % 16 = omega (arith, low.small) in
      (subst (Digit h) top high, subst (Digit l) rest low)

more : (h l : ℕ) (ds : List ℕ) (o : Option ℕ) (r : Option (List ℕ)) (bs : List ℕ) → pair_value h l ≡ o → ((cs : List ℕ) → r ≡ Some cs → Spells ds cs) → put o r ≡ Some bs → Spells (h ∷ l ∷ ds) bs
more h l ds None r bs p rec e = cc
more h l ds (Some b) None bs p rec e = cc
more h l ds (Some b) (Some cs) bs p rec e =
    let is : (b ∷ cs) ≡ bs = cc in
    let two = pair_digits h l b p in
    subst (Spells (h ∷ l ∷ ds)) is (two.0, two.1, rec cs refl)

pub spells : (ds bs : List ℕ) → decoded ds ≡ Some bs → Spells ds bs
spells [] [] e = tt
spells [] (b ∷ bs) e = cc
spells (h ∷ []) bs e = cc
spells (h ∷ l ∷ ds) bs e = more h l ds (pair_value h l) (decoded ds) bs refl (spells ds) e

pub spelled : (ds bs : List ℕ) → Spells ds bs → decoded ds ≡ Some bs
spelled [] [] s = refl
spelled [] (b ∷ bs) s = absurd s
spelled (h ∷ []) bs s = absurd s
spelled (h ∷ l ∷ ds) [] s = absurd s
spelled (h ∷ l ∷ ds) (b ∷ bs) s =
    let same : b / 16 * 16 + b % 16 ≡ b = omega arith in
    ap (λ o. put o (decoded ds)) (ap (λ x. byte_of x (digit_value l)) (value_of h _ s.0) ∙ ap (byte_of (Some (b / 16))) (value_of l _ s.1))
    ∙ ap (put (Some (b / 16 * 16 + b % 16))) (spelled ds bs s.2) ∙ ap (λ x. Some (x ∷ bs)) same

-- two digits to a byte
pub twice_as_long : (ds bs : List ℕ) → Spells ds bs → length ds ≡ 2 * length bs
twice_as_long [] [] s = refl
twice_as_long [] (b ∷ bs) s = absurd s
twice_as_long (h ∷ []) bs s = absurd s
twice_as_long (h ∷ l ∷ ds) [] s = absurd s
twice_as_long (h ∷ l ∷ ds) (b ∷ bs) s = omega (arith, twice_as_long ds bs s.2)

-- a line's bytes are those that it spells, and one that has none spells none
pub line_spells : (n : ℕ) (ds bs : List ℕ) → line_bytes n ds ≡ Some bs → Spells ds bs
line_spells n ds bs e = spells ds bs (grind (arith, nat_tests))

pub line_unspelled : (n : ℕ) (ds : List ℕ) → line_bytes n ds ≡ None → Unspelled n ds
line_unspelled n ds e bs some few s =
    let long = twice_as_long ds bs s in
    cc (sym e ∙ bounded n ds (omega arith) (omega arith) ∙ spelled ds bs s)

pub line_spelled : (n : ℕ) (ds bs : List ℕ) → 0 < length bs → length bs ≤ n → Spells ds bs → line_bytes n ds ≡ Some bs
line_spelled n ds bs some few s =
    let long = twice_as_long ds bs s in
    bounded n ds (omega arith) (omega arith) ∙ spelled ds bs s
