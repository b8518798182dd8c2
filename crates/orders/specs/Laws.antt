-- The two laws of an order of numbered records. Assumes nothing.
--     num a          the number of the record a
--     before a b     a goes before b
-- They speak of records with different numbers only: of two records with the same number nothing is owed,
-- not even that a record does not go before itself.
use Rattle.std.specs.Prelude.{◌≡◌, ℕ, Bool, true, not, ◌≢◌}

-- of two records with different numbers exactly one goes before the other
abbrev pub Total : {R : Type 0} → (R → ℕ) → (R → R → Bool) → Type 0
Total {R} num before = (a b : R) → (num a ≢ num b) → before b a ≡ not (before a b)

-- of three records with different numbers, if a goes before b and b before c, a goes before c
abbrev pub Transitive : {R : Type 0} → (R → ℕ) → (R → R → Bool) → Type 0
Transitive {R} num before = (a b c : R) → (num a ≢ num b) → (num b ≢ num c) → (num a ≢ num c) → before a b ≡ true → before b c ≡ true → before a c ≡ true
