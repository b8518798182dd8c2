-- What the tests of an answer come to. Assumes nothing.
use Rattle.std.proofs.Common.{◌≡◌, ℕ, ◌<◌, ◌≤◌, cond, Ok, Err, Result, ap, le-ltb, lt-ltb, eq-eqb, ne_eqb}
use Rattle.flash.specs.declared.Refusal.{Refusal}
use Rattle.flash.specs.Calls.{below, equal}

module _ {T : Type 0} (a b : ℕ) (e : Refusal) (r : Result T Refusal) where
  pub below_passes : a < b → below a b e r ≡ r
  below_passes h = ap (λ t. cond t r (Err e)) (lt-ltb a b h)

  pub below_fails : b ≤ a → below a b e r ≡ Err e
  below_fails h = ap (λ t. cond t r (Err e)) (le-ltb a b h)

  pub equal_passes : a ≡ b → equal a b e r ≡ r
  equal_passes h = ap (λ t. cond t r (Err e)) (eq-eqb a b h)

  pub equal_fails : (a ≡ b → ⊥) → equal a b e r ≡ Err e
  equal_fails h = ap (λ t. cond t r (Err e)) (ne_eqb a b h)

-- no answer is both given and refused
pub never_both : {T : Type 0} (e : Refusal) (x : T) → Err e ≡ Ok x → ⊥
never_both e x q = cc
