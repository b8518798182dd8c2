-- Levelling ends, with the counters as they are between calls, and no more turns would change what it gives.
use Rattle.std.proofs.Common.{◌≡◌, ℕ, zero, suc, ◌+◌, ◌<◌, ◌≤◌, ◌⊎◌, Bool, true, false, eqb, length, get_or, sym, refl, ap, subst, ◌∙◌, inl, inr, arith}
use Rattle.std.proofs.lemmas.List.{get_or-set_same}
use Rattle.flash.specs.Meaning.{Page}
use Rattle.std.proofs.lemmas.Bool.Decides.{nat_tests}
use Rattle.rules.specs.declared.Settings.{Settings}
use Rattle.rules.specs.Tables.{Meter, State}
use Rattle.rules.specs.Blocks.{BlockOrder}
use Rattle.rules.specs.Steps.{count_erase, make_room, store}
use Rattle.rules.specs.Levelling.{even, end_round, collect_next, level_in}
use Rattle.rules.proofs.StateFacts.{Ready, Between}
use Rattle.rules.proofs.Flags.{ones_some}
use Rattle.rules.proofs.Writes.{Roomed, writes}
use Rattle.rules.proofs.Choices.{level_in_by}
use Rattle.rules.proofs.Levels.{even_true, flags_below, turns, round_ready}

pub between_even : (g : Settings) (m : Meter) → Between g m → even g m ≡ true
between_even g m (inl h) = let e = h.0 in grind (arith, nat_tests)
between_even g m (inr h) = let e = h.1 in grind (arith, nat_tests)

-- where levelling has nothing to do, it does nothing
pub level_still : (g : Settings) (f : ℕ) (s : State) → even g s.meter ≡ true → level_in f g s ≡ s
unfolding level_in
level_still g zero s e = refl
level_still g (suc f) s e = ap (λ (c : Bool). elim c as (λ _. State) [ true ↦ s | false ↦ elim (eqb s.meter.fcnt (length s.meter.flags)) [ true ↦ end_round s | false ↦ level_in f g (collect_next g s) ] ]) e

module _ (g : Settings) (n m : ℕ) where
  pub record Levelled (t : State) : Type 0 where
    pub ready : Ready g n m t
    pub between : Between g t.meter

  pub levels : (f : ℕ) (s : State) → Ready g n m s → 1 ≤ s.meter.fcnt → m < f + s.meter.fcnt → Levelled (level_in f g s)
  levels zero s rd pos fuel = absurd (omega (arith, flags_below g n m s rd))
  levels (suc f) s rd pos fuel = level_in_by Levelled s g f
      (λ e. record { ready = rd; between = inr (pos, even_true s.meter g pos e) })
      (λ _ _. record { ready = round_ready g n m s rd; between = unfold end_round in inl (refl, refl) })
      (λ _ ne. let c = turns g n m s rd pos (omega (arith, flags_below g n m s rd, rd.sized.flagged)) in
      levels f (collect_next g s) c.ready (omega (arith, c.more)) (omega (arith, c.more)))

  -- levelling begins with the counters of a call before, or after one erase more
  levels_from : (s t : State) → Ready g n m s → Between g s.meter → Roomed g n m s.meter t → Levelled (level_in (suc m) g t)
  levels_from s t rs bs ro = go ro.meter
    where
      go : (t.meter ≡ s.meter) ⊎ ((i : ℕ) × (i < m) × (t.meter ≡ count_erase i s.meter)) → Levelled (level_in (suc m) g t)
      go (inl e) =
          let b = subst (Between g) (sym e) bs in
          subst Levelled (sym (level_still g (suc m) t (between_even g t.meter b))) (record { ready = ro.ready; between = b })
      go (inr e) =
          let flag : get_or t.meter.flags e.0 true ≡ true = ap (λ (k : Meter). get_or k.flags e.0 true) e.2 ∙ (unfold count_erase in get_or-set_same s.meter.flags e.0 true true (omega (arith, e.1, rs.sized.flagged))) in
          let pos : 1 ≤ t.meter.fcnt = omega (arith, ones_some t.meter.flags e.0 (omega (arith, e.1, ro.ready.sized.flagged)) flag, ro.ready.marked) in
          levels (suc m) t ro.ready pos (omega arith)

  pub levelled_write : (r : BlockOrder) (q : Page) (s : State) → Ready g n m s → Between g s.meter → Levelled (level_in (suc m) g (store q (make_room g r s)))
  levelled_write r q s rd b = levels_from s (store q (make_room g r s)) rd b (writes g n m r q s rd)

-- where levelling came to an even state, more turns change nothing
pub level_more : (g : Settings) (f k : ℕ) (s : State) → f ≤ k → even g (level_in f g s).meter ≡ true → level_in k g s ≡ level_in f g s
unfolding level_in
level_more g zero k s l e = level_still g k s e
level_more g (suc f) zero s l e = absurd (omega arith)
level_more g (suc f) (suc k) s l e = go (level_more g f k (collect_next g s) (omega arith)) (even g s.meter) (eqb s.meter.fcnt (length s.meter.flags)) e
  where
    go : (even g (level_in f g (collect_next g s)).meter ≡ true → level_in k g (collect_next g s) ≡ level_in f g (collect_next g s))
        → (c d : Bool) → even g (elim c as (λ _. State) [ true ↦ s | false ↦ elim d [ true ↦ end_round s | false ↦ level_in f g (collect_next g s) ] ]).meter ≡ true
        → ◌≡◌ {A = State} (elim c [ true ↦ s | false ↦ elim d [ true ↦ end_round s | false ↦ level_in k g (collect_next g s) ] ]) (elim c [ true ↦ s | false ↦ elim d [ true ↦ end_round s | false ↦ level_in f g (collect_next g s) ] ])
    go rec true d h = refl
    go rec false true h = refl
    go rec false false h = rec h
