-- What every erase, program and change of use keeps, a call keeps; what every move and every erase of a dead block
-- keeps, levelling keeps.
use Rattle.std.proofs.Common.{◌≡◌, ℕ, zero, suc, ◌<◌, true, false, List, [], ◌∷◌, length, get_or, Some, None, refl, ap, ◌∙◌}
use Rattle.orders.specs.Ranks.{least_erased}
use Rattle.flash.specs.Meaning.{Page}
use Rattle.rules.specs.declared.Settings.{Settings}
use Rattle.rules.specs.declared.Use.{Use}
use Rattle.rules.specs.declared.Use.TheVariants.{Free, Open, Closed}
use Rattle.rules.specs.Tables.{State}
use Rattle.rules.specs.Blocks.{BlockOrder, use_of, blocks_in, live_pages}
use Rattle.rules.specs.Steps.{use_block, program_page, erase_block, copy, move, clean, close_open, open_first, open_next, make_room, store}
use Rattle.rules.specs.Levelling.{set_blocks, clear_out, collect_block, collect, sought, turn_to, end_round, even, collect_next, level_in}
use Rattle.rules.specs.WellFormed.{busy}
use Rattle.rules.proofs.StateFacts.{Busy}
use Rattle.rules.proofs.InUse.{first_in}
use Rattle.rules.proofs.Frame.{copy_uses}
use Rattle.rules.proofs.Choices.{close_open_by, store_by, clean_by, make_room_by, clear_out_by, collect_block_by, level_in_by}

pub record Settled (g : Settings) (Q : State → Type 0) : Type 0 where
  pub by_move : (b d : ℕ) (s : State) → Busy s b → d < length s.uses → use_of s d ≡ Free → Q s → Q (move g b d (use_of s b) s)
  pub by_dead : (b : ℕ) (s : State) → Busy s b → live_pages s b ≡ [] → Q s → Q (erase_block g b s)

module _ (g : Settings) (Q : State → Type 0) (st : Settled g Q) where
  pub settle_collect : (bs : List ℕ) (s : State) → Q s → Q (collect g bs s)
  unfolding collect
  settle_collect [] s h = h
  settle_collect (b ∷ bs) s h = settle_collect bs (collect_block g b s) (collect_block_by Q s g b (λ _. h) (λ _. h) (λ k e. st.by_dead b s k e h) (λ d k l f. st.by_move b d s k l f h))

  pub settle_level : ((i : ℕ) (s : State) → Q s → Q (turn_to i s)) → ((s : State) → even g s.meter ≡ false → Q s → Q (end_round s)) → (turns : ℕ) (s : State) → Q s → Q (level_in turns g s)
  unfolding level_in collect_next
  settle_level turn round zero s h = h
  settle_level turn round (suc turns) s h = level_in_by Q s g turns (λ _. h) (λ e _. round s e h)
      (λ _ _. settle_level turn round turns (collect_next g s) (turn _ _ (settle_collect (set_blocks g (sought s.meter)) s h)))

pub record Stable (g : Settings) (Q : State → Type 0) : Type 0 where
  pub by_put : (b : ℕ) (u : Use) (s : State) → busy u ≡ true → Q s → Q (use_block b u s)
  pub by_program : (b : ℕ) (q : Page) (s : State) → Q s → Q (program_page b q s)
  pub by_erase : (b : ℕ) (s : State) → Busy s b → Q s → Q (erase_block g b s)

module _ (g : Settings) (Q : State → Type 0) (st : Stable g Q) where
  pub keeps_copy : (d : ℕ) (qs : List Page) (s : State) → Q s → Q (copy d qs s)
  unfolding copy
  keeps_copy d [] s h = h
  keeps_copy d (q ∷ qs) s h = keeps_copy d qs (program_page d q s) (st.by_program d q s h)

  pub keeps_move : (b d : ℕ) (u : Use) (s : State) → busy u ≡ true → Busy s b → Q s → Q (move g b d u s)
  unfolding move
  keeps_move b d u s hu hb h =
      let c = copy d (live_pages s b) s in
      let k : Busy c b = ap (λ us. busy (get_or us b Free)) (copy_uses d (live_pages s b) s) ∙ hb in
      st.by_put d u (erase_block g b c) hu (st.by_erase b c k (keeps_copy d (live_pages s b) s h))

  pub keeps_clear_out : (b : ℕ) (u : Use) (s : State) → busy u ≡ true → Busy s b → Q s → Q (clear_out g b u s)
  keeps_clear_out b u s hu hb h = clear_out_by Q s g b u (λ _. h) (λ _. st.by_erase b s hb h) (λ d l f. keeps_move b d u s hu hb h)

  pub stable_settled : Settled g Q
  stable_settled = record { by_move = λ b d s hb l f h. keeps_move b d (use_of s b) s hb hb h; by_dead = λ b s hb e h. st.by_erase b s hb h }

  pub keeps_close : (s : State) → Q s → Q (close_open s)
  keeps_close s h = close_open_by Q s (λ _. h) (λ b l e. st.by_put b Closed s refl h)

  pub keeps_clean : (r : BlockOrder) (d : ℕ) (s : State) → Q s → Q (clean g r d s)
  keeps_clean r d s h = clean_by Q s g r d (λ _. h) (λ v l e _. keeps_move v.number d Open s refl (ap busy e) h)

  pub keeps_open_next : (r : BlockOrder) (ds : List ℕ) (s : State) → Q s → Q (open_next g r ds s)
  unfolding open_next open_first
  keeps_open_next r [] s h = h
  keeps_open_next r (d ∷ []) s h = keeps_clean r d s h
  keeps_open_next r (_ ∷ _ ∷ _) s h = first_in least_erased Free s (λ o. Q (elim o [ None ↦ s | Some d ↦ use_block d.number Open s ])) (λ _. h) (λ d l e _. st.by_put d.number Open s refl h)

  pub keeps_make_room : (r : BlockOrder) (s : State) → Q s → Q (make_room g r s)
  keeps_make_room r s h =
      make_room_by Q s g r (λ b l e m. h) (keeps_open_next r (blocks_in Free (close_open s)) (close_open s) (keeps_close s h))

  pub keeps_store : (q : Page) (s : State) → Q s → Q (store q s)
  keeps_store q s h = store_by Q s q (λ _. h) (λ b l e. st.by_program b q s h)
