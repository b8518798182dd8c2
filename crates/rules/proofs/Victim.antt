-- What is chosen by a victim order goes before all the others.
use Rattle.std.proofs.Common.{◌≡◌, ℕ, true, not, List, [], ◌∷◌, map, get_or, IfSome, All, Some, None, Option, sym, refl, ap, ◌∙◌, subst, arith}
use Rattle.std.proofs.lemmas.Bool.{cond_both}
use Rattle.std.proofs.lemmas.List.Elements.{All-cons, All-weaker, Contains-get_or}
use Rattle.orders.specs.declared.block.BlockRecord.{BlockRecord}
use Rattle.orders.specs.Laws.{Total, Transitive}
use Rattle.rules.specs.Blocks.{BlockOrder, better, first}
use Rattle.rules.proofs.InUse.{first_none}

module _ (r : BlockOrder) (f : ℕ → BlockRecord) where
  -- the record of block a goes before that of block b, unless they are one
  abbrev pub Leads : ℕ → ℕ → Type 0
  Leads a b = (b ≡ a → ⊥) → r (f a) (f b) ≡ true

  -- the choice is the record of a block that goes before the others
  abbrev pub Leader : List ℕ → BlockRecord → Type 0
  Leader bs v = (v ≡ f v.number) × All (Leads v.number) bs

module _ (r : BlockOrder) (f : ℕ → BlockRecord) (numbered : (b : ℕ) → (f b).number ≡ b) (total : Total (λ x. x.number) r) (transitive : Transitive (λ x. x.number) r) where
  apart : (a b : ℕ) → (b ≡ a → ⊥) → (f a).number ≡ (f b).number → ⊥
  apart a b ne e = ne (sym (numbered b) ∙ sym e ∙ numbered a)

  -- a goes before c, which goes before b
  through : (a c b : ℕ) → r (f a) (f c) ≡ true → Leads r f c b → Leads r f a b
  through a c b h l ne =
      let t = λ (u : b ≡ c → ⊥) (v : c ≡ a → ⊥). transitive (f a) (f c) (f b) (apart a c v) (apart c b u) (apart a b ne) h (l u) in
      grind (arith, l, t)

  leader : (a : ℕ) (bs : List ℕ) → All (Leads r f a) bs → Leader r f (a ∷ bs) (f a)
  leader a bs h = (ap f (sym (numbered a)), subst (λ k. All (Leads r f k) (a ∷ bs)) (sym (numbered a)) (All-cons (Leads r f a) a bs (λ ne. absurd (ne refl)) h))

  pub leads : (bs : List ℕ) → IfSome (first r (map f bs)) (Leader r f bs)
  leads [] = tt
  leads (a ∷ bs) = go (first r (map f bs)) refl (leads bs)
    where
      go : (o : Option BlockRecord) → first r (map f bs) ≡ o → IfSome o (Leader r f bs) → Leader r f (a ∷ bs) (better r (f a) o)
      go None e l = leader a bs (λ k d lt. absurd (first_none r f bs (get_or bs k d) (Contains-get_or bs k d lt) e))
      go (Some y) e l = cond_both (r (f a) y) (f a) y (Leader r f (a ∷ bs))
          (λ t. let h : r (f a) (f y.number) ≡ true = ap (r (f a)) (sym l.0) ∙ t in
          leader a bs (All-weaker (Leads r f y.number) (Leads r f a) (λ b k. through a y.number b h k) bs l.1))
          (λ t. (l.0, All-cons (Leads r f y.number) a bs (λ ne. total (f a) (f y.number) (apart a y.number (λ z. ne (sym z))) ∙ ap not (ap (r (f a)) (sym l.0) ∙ t)) l.1))
