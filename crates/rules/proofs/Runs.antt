-- Operations that fit the blocks, and that a chip accepts them where no block is erased twice.
use Rattle.std.proofs.Common.{◌≡◌, ℕ, suc, ◌+◌, ◌<◌, ◌≤◌, eqb, List, [], ◌∷◌, ◌++◌, length, Some, None, Option, sym, refl, ap, ◌∙◌, subst, arith, rules}
use Rattle.std.proofs.lemmas.List.{length-set, get_or-set_same, get_or-set_other}
use Rattle.std.proofs.lemmas.Bool.{cond_both, eqb-true, eqb-false}
use Rattle.std.proofs.lemmas.Bool.Decides.{nat_tests}
use Rattle.flash.specs.Meaning.{Flash, Block, Op, program, erase, block, no_block, apply, programmed, erased}
use Rattle.rules.specs.Laws.{times_erased}
use Rattle.rules.specs.Obeyed.{asked, obeyed}
use Rattle.rules.proofs.AfterSet.{set_by}

-- what a chip of z's shape asks, but for its worn blocks
abbrev pub Fit : Flash → Op → Flash → Type 0
Fit z (program b q) f = (b < length z.blocks) × (length (block f b).pages < z.p) × (length q.bytes ≡ z.d)
Fit z (erase b) f = b < length z.blocks

abbrev pub Runs : Flash → List Op → Flash → Flash → Type 0
Runs z [] f h = f ≡ h
Runs z (o ∷ os) f h = Fit z o f × Runs z os (apply o f) h

pub runs_push : (z : Flash) (os : List Op) (o : Op) (f h : Flash) → Runs z os f h → Fit z o h → Runs z (os ++ o ∷ []) f (apply o h)
runs_push z [] o f h e q = (subst (Fit z o) (sym e) q, ap (apply o) e)
runs_push z (o' ∷ os) o f h r q = (r.0, runs_push z os o (apply o' f) h r.1 q)

abbrev count_at : Flash → ℕ → ℕ
count_at f b = (block f b).count

-- as many blocks as z, of the same kind
pub record Shaped (z f : Flash) : Type 0 where
  pub blocks_are : length f.blocks ≡ length z.blocks
  pub p_is : f.p ≡ z.p
  pub d_is : f.d ≡ z.d
  pub e_is : f.e ≡ z.e

pub apply_shaped : (z : Flash) (o : Op) (f : Flash) → Shaped z f → Shaped z (apply o f)
apply_shaped z (program b q) f s = search rules
apply_shaped z (erase b) f s = search rules

-- a block's count grows by the times that it is erased
pub runs_times : (z : Flash) (os : List Op) (f h : Flash) → length f.blocks ≡ length z.blocks → Runs z os f h → (b : ℕ) → count_at f b + times_erased b os ≡ count_at h b
runs_times z [] f h l r b = omega (arith, ap (λ z. count_at z b) r)
runs_times z (program c q ∷ os) f h l r b =
    let same : count_at (programmed f c q) b ≡ count_at f b = set_by (λ (x : Block). x.count ≡ count_at f b) f.blocks c b _ no_block (λ e. ap (count_at f) (sym e)) refl in
    omega (arith, runs_times z os (programmed f c q) h (length-set f.blocks c _ ∙ l) r.1 b)
runs_times z (erase c ∷ os) f h l r b =
    let rest = runs_times z os (erased f c) h (length-set f.blocks c _ ∙ l) r.1 b in
    cond_both (eqb c b) (suc (times_erased b os)) (times_erased b os) (λ k. count_at f b + k ≡ count_at h b)
    (λ t. let e : c ≡ b = eqb-true c b t in
    let own : count_at (erased f c) b ≡ suc (count_at f b) = subst (λ y. count_at (erased f c) y ≡ suc (count_at f y)) e (ap (λ (x : Block). x.count) (get_or-set_same f.blocks c _ no_block (omega (arith, r.0)))) in
    omega arith)
    (λ t. let same : count_at (erased f c) b ≡ count_at f b = ap (λ (x : Block). x.count) (get_or-set_other f.blocks c b _ no_block (λ z. eqb-false c b t (sym z))) in
    omega arith)

module _ (z : Flash) (was : ℕ → ℕ) (fresh : (b : ℕ) → b < length z.blocks → was b < z.e) where
  asked_fit : (o : Op) (f : Flash) → Shaped z f → Fit z o f → ((b : ℕ) → was b ≤ count_at f b) → ((b : ℕ) → count_at (apply o f) b ≤ suc (was b)) → asked o f ≡ Some (apply o f)
  asked_fit (program b q) f s h lo hi =
      let in_chip : b < length f.blocks = omega (arith, h.0, s.blocks_are) in
      let room : length (block f b).pages < f.p = omega (arith, h.1, s.p_is) in
      let long : length q.bytes ≡ f.d = h.2 ∙ sym s.d_is in
      grind (arith, nat_tests)
  asked_fit (erase b) f s h lo hi =
      let in_chip : b < length f.blocks = omega (arith, s.blocks_are) in
      let grown : count_at (apply (erase b) f) b ≡ suc (count_at f b) = ap (λ (c : Block). c.count) (get_or-set_same f.blocks b _ no_block in_chip) in
      let rated : count_at f b < f.e = omega (arith, s.e_is, fresh b h, lo b, hi b) in
      grind (arith, nat_tests)

  -- where every count grows by one at the most, and none is worn at first, all is accepted
  pub runs_obeyed : (os : List Op) (f h : Flash) → Shaped z f → Runs z os f h → ((b : ℕ) → was b ≤ count_at f b) → ((b : ℕ) → count_at h b ≤ suc (was b)) → obeyed os f ≡ Some h
  runs_obeyed [] f h s r lo hi = ap Some r
  runs_obeyed (o ∷ os) f h s r lo hi =
      let t = apply_shaped z o f s in
      let up = λ (b : ℕ). runs_times z os (apply o f) h t.blocks_are r.1 b in
      let more = λ (b : ℕ). runs_times z (o ∷ []) f (apply o f) s.blocks_are (r.0, refl) b in
      ap (λ (x : Option Flash). elim x as (λ _. Option Flash) [ None ↦ None | Some c ↦ obeyed os c ]) (asked_fit o f s r.0 lo (λ b. omega (arith, up b, hi b)))
      ∙ runs_obeyed os (apply o f) h t r.1 (λ b. omega (arith, lo b, more b)) hi

-- operations leave P, D, E and the number of blocks
pub runs_shaped : (z y : Flash) (os : List Op) (f h : Flash) → Runs z os f h → Shaped y f → Shaped y h
runs_shaped z y [] f h r s = subst (Shaped y) r s
runs_shaped z y (o ∷ os) f h r s = runs_shaped z y os (apply o f) h r.1 (apply_shaped y o f s)

pub own_shape : (f : Flash) → Shaped f f
own_shape f = search rules

pub runs_p : (z : Flash) (os : List Op) (f h : Flash) → Runs z os f h → f.p ≡ h.p
runs_p z os f h r = sym (runs_shaped z f os f h r (own_shape f)).p_is

pub shape : (os : List Op) (f h : Flash) → Runs f os f h → Shaped f h
shape os f h r = runs_shaped f f os f h r (own_shape f)
