-- The map names written pages of the right tag, after erases, moves and levelling too.
use Rattle.std.proofs.Common.{◌≡◌, ℕ, zero, suc, ◌+◌, ◌<◌, false, List, [], ◌∷◌, length, get_or, Some, None, Option, ⊎_elim, sym, ap, ◌∙◌, subst, arith, rules}
use Rattle.std.proofs.lemmas.List.{length-set, get_or-set_other}
use Rattle.std.proofs.lemmas.Bool.{cases_Bool, cond-true, cond-false}
use Rattle.flash.specs.Meaning.{Page, Block, no_block, no_page}
use Rattle.rules.specs.declared.Settings.{Settings}
use Rattle.rules.specs.declared.Place.{Place}
use Rattle.rules.specs.declared.Use.{Use}
use Rattle.rules.specs.declared.Use.TheVariants.{Free}
use Rattle.rules.specs.Tables.{State}
use Rattle.rules.specs.Blocks.{use_of, names, live_from, live_pages}
use Rattle.rules.specs.Steps.{use_block, erase_block, move}
use Rattle.rules.specs.Levelling.{turn_to, end_round, level_in}
use Rattle.rules.proofs.StateFacts.{held}
use Rattle.rules.proofs.InUse.{busy_not_free}
use Rattle.rules.proofs.Frame.{copy_uses, copy_blocks}
use Rattle.rules.proofs.Stable.{Settled, settle_level}
use Rattle.rules.proofs.Copies.{at, Named, Valid, copies, names_not}

-- where no page is live from page i on, page i is not, nor one after it
not_live : (m : List (Option Place)) (b : ℕ) (q : Page) (qs : List Page) (i : ℕ) → live_from m b i (q ∷ qs) ≡ [] → (names (get_or m q.tag None) b i ≡ false) × (live_from m b (suc i) qs ≡ [])
not_live m b q qs i e =
    let v = names (get_or m q.tag None) b i in
    let rest = live_from m b (suc i) qs in
    ⊎_elim (λ w. let c : q ∷ rest ≡ [] = sym (cond-true v (q ∷ rest) rest w) ∙ e in absurd (cc)) (λ w. (w, sym (cond-false v (q ∷ rest) rest w) ∙ e)) (cases_Bool v)

-- and so none of them is named
none_live : (m : List (Option Place)) (b : ℕ) (ps : List Page) (i j t : ℕ) → live_from m b i ps ≡ [] → get_or m t None ≡ Some (at b (i + j)) → j < length ps → (get_or ps j no_page).tag ≡ t → ⊥
none_live m b [] i j t e h l g = omega arith
none_live m b (q ∷ qs) i zero t e h l g = names_not (get_or m q.tag None) b i (not_live m b q qs i e).0 (ap (λ y. get_or m y None) g ∙ h ∙ ap (λ y. Some (at b y)) (omega arith))
none_live m b (q ∷ qs) i (suc j) t e h l g = none_live m b qs (suc i) j t (not_live m b q qs i e).1 (h ∙ ap (λ y. Some (at b y)) (omega arith)) (omega arith) g

-- the map names written pages of the right tag, and the chip is as long as the tables
pub record Holding (s : State) : Type 0 where
  pub valid : Valid s
  pub long : length s.chip.blocks ≡ length s.uses

pub holding_put : (b : ℕ) (u : Use) (s : State) → Holding s → Holding (use_block b u s)
unfolding use_block
holding_put b u s h = search rules

module _ (g : Settings) where
  pub holding_erase : (b : ℕ) (s : State) → ((u k : ℕ) → Named s u b k → ⊥) → Holding s → Holding (erase_block g b s)
  unfolding erase_block
  holding_erase b s gone h = record {
    valid = λ t x i nm.
        (let o = h.valid t x i nm in
        let e = get_or-set_other s.chip.blocks b x (record { count = suc (held s b).count; pages = [] }) no_block (λ e. gone t i (subst (λ y. Named s t y i) e nm)) in
        (subst (λ (c : Block). i < length c.pages) (sym e) o.0, ap (λ (c : Block). (get_or c.pages i no_page).tag) e ∙ o.1));
    long = length-set s.chip.blocks b _ ∙ h.long ∙ sym (length-set s.uses b Free);
  }

  pub holding_move : (b d : ℕ) (u : Use) (s : State) → (b ≡ d → ⊥) → d < length s.uses → Holding s → Holding (move g b d u s)
  unfolding move
  holding_move b d u s ne l h =
      let qs = live_pages s b in
      let c = copies b d s ne (omega (arith, h.long)) h.valid in
      holding_put d u _ (holding_erase b _ c.gone (record { valid = c.valid; long = copy_blocks d qs s ∙ h.long ∙ sym (ap length (copy_uses d qs s)) }))

  pub holding_no_live : (b : ℕ) (s : State) → live_pages s b ≡ [] → Holding s → Holding (erase_block g b s)
  holding_no_live b s e h = holding_erase b s (λ u k nm. let o = h.valid u b k nm in
      none_live s.places b (held s b).pages 0 k u e (nm ∙ ap (λ y. Some (at b y)) (omega arith)) o.0 o.1) h

  pub holding_settled : Settled g Holding
  holding_settled = record {
    by_move = λ b d s hb l f h. holding_move b d (use_of s b) s (busy_not_free s b d hb f) l h;
    by_dead = λ b s hb e h. holding_no_live b s e h;
  }

  pub holding_level : (turns : ℕ) (s : State) → Holding s → Holding (level_in turns g s)
  unfolding turn_to end_round
  holding_level = settle_level g Holding holding_settled (λ i s h. search rules) (λ s e h. search rules)
