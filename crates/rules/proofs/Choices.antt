-- What holds of each thing that a step can come to holds of what it comes to.
use Rattle.std.proofs.Common.{◌≡◌, ℕ, suc, ◌<◌, Bool, true, false, ltb, eqb, List, [], ◌∷◌, length, All, AllPairs, Contains, Some, None, ⊎_elim, subst, refl, ap, ◌∙◌, arith}
use Rattle.std.proofs.lemmas.Bool.{cases_eq, ltb-true, eqb-true, eqb-false}
use Rattle.orders.specs.declared.block.BlockRecord.{BlockRecord}
use Rattle.orders.specs.Ranks.{least_erased}
use Rattle.flash.specs.Meaning.{Page}
use Rattle.rules.specs.declared.Settings.{Settings}
use Rattle.rules.specs.declared.Use.{Use}
use Rattle.rules.specs.declared.Use.TheVariants.{Free, Open, Closed}
use Rattle.rules.specs.Tables.{State}
use Rattle.rules.specs.Blocks.{BlockOrder, use_of, blocks_in, live_pages, records, first, first_free}
use Rattle.rules.specs.Steps.{use_block, program_page, erase_block, move, clean, close_open, open_first, open_next, make_room, store}
use Rattle.rules.specs.Levelling.{clear_out, collect_block, end_round, even, collect_next, level_in}
use Rattle.rules.specs.WellFormed.{busy}
use Rattle.rules.proofs.StateFacts.{held, NoOpen, NoneIn}
use Rattle.rules.proofs.InUse.{same_from_only, in_use, has_use, free_rises, first_in, open_in}

module _ (P : State → Type 0) (s : State) where
  pub close_open_by : (NoOpen s → P s) → ((b : ℕ) → b < length s.uses → use_of s b ≡ Open → P (use_block b Closed s)) → P (close_open s)
  unfolding close_open
  close_open_by none some = open_in s (λ o. P (elim o [ None ↦ s | Some b ↦ use_block b Closed s ])) none some

  pub store_by : (q : Page) → (NoOpen s → P s) → ((b : ℕ) → b < length s.uses → use_of s b ≡ Open → P (program_page b q s)) → P (store q s)
  unfolding store
  store_by q none some = open_in s (λ o. P (elim o [ None ↦ s | Some b ↦ program_page b q s ])) none some

  module _ (g : Settings) (r : BlockOrder) where
    pub clean_by : (d : ℕ) → (NoneIn Closed s → P s) → ((v : BlockRecord) → v.number < length s.uses → use_of s v.number ≡ Closed → first r (records Closed s) ≡ Some v → P (move g v.number d Open s)) → P (clean g r d s)
    unfolding clean
    clean_by d none some = first_in r Closed s (λ o. P (elim o [ None ↦ s | Some v ↦ move g v.number d Open s ])) none some

    -- with one free block d that is a cleaning; with more, one of them is opened and one stays
    pub open_next_by : (NoneIn Free s → P s)
        → ((d : ℕ) → d < length s.uses → use_of s d ≡ Free → ((x : ℕ) → x < length s.uses → use_of s x ≡ Free → x ≡ d) → P (clean g r d s))
        → ((d c : ℕ) → d < length s.uses → use_of s d ≡ Free → c < length s.uses → use_of s c ≡ Free → (c ≡ d → ⊥) → P (use_block d Open s))
        → P (open_next g r (blocks_in Free s) s)
    unfolding open_next open_first
    open_next_by none one more = go (blocks_in Free s) (in_use Free s) (has_use Free s) (free_rises s)
      where
        go : (ds : List ℕ) → All (λ b. (b < length s.uses) × (use_of s b ≡ Free)) ds → ((x : ℕ) → x < length s.uses → use_of s x ≡ Free → Contains ds x) → AllPairs (λ a b. a < b) ds → P (open_next g r ds s)
        go [] h f t = none (λ x l e. omega (arith, (f x l e).1))
        go (d ∷ []) h f t = let a = h 0 d (omega arith) in one d a.0 a.1 (λ x l e. same_from_only d x (f x l e))
        go (a ∷ b ∷ ds) h f t =
            let ha = h 0 a (omega arith) in
            let hb = h 1 a (omega arith) in
            let lt = t 0 1 a (omega arith) (omega arith) in
            first_in least_erased Free s (λ o. P (elim o [ None ↦ s | Some d ↦ use_block d.number Open s ])) none
            (λ d l e _. ⊎_elim (λ q. more d.number b l e hb.0 hb.1 (λ z. omega arith)) (λ q. more d.number a l e ha.0 ha.1 q) (cases_eq a d.number))

    pub make_room_by : ((b : ℕ) → b < length s.uses → use_of s b ≡ Open → length (held s b).pages < s.chip.p → P s) → P (open_next g r (blocks_in Free (close_open s)) (close_open s)) → P (make_room g r s)
    unfolding make_room
    make_room_by room next = open_in s (λ o. P (elim (elim o as (λ _. Bool) [ None ↦ false | Some b ↦ ltb (length (held s b).pages) s.chip.p ]) [ true ↦ s | false ↦ open_next g r (blocks_in Free (close_open s)) (close_open s) ]))
        (λ _. next)
        (λ b l e. cases b l e (ltb (length (held s b).pages) s.chip.p) refl)
      where
        cases : (b : ℕ) → b < length s.uses → use_of s b ≡ Open → (v : Bool) → ltb (length (held s b).pages) s.chip.p ≡ v → P (elim v [ true ↦ s | false ↦ open_next g r (blocks_in Free (close_open s)) (close_open s) ])
        cases b l e true q = room b l e (ltb-true _ _ q)
        cases b l e false q = next

  module _ (g : Settings) where
    -- a block with live pages is moved to a free block, if there is one
    pub clear_out_by : (b : ℕ) (u : Use) → (NoneIn Free s → P s) → (live_pages s b ≡ [] → P (erase_block g b s)) → ((d : ℕ) → d < length s.uses → use_of s d ≡ Free → P (move g b d u s)) → P (clear_out g b u s)
    unfolding clear_out
    clear_out_by b u none dead live = go (live_pages s b) refl
      where
        go : (qs : List Page) → live_pages s b ≡ qs → P (elim qs [ [] ↦ erase_block g b s | _ ∷ _ ↦ elim (first_free s) [ None ↦ s | Some d ↦ move g b d.number u s ] ])
        go [] l = dead l
        go (_ ∷ _) l = first_in least_erased Free s (λ o. P (elim o [ None ↦ s | Some d ↦ move g b d.number u s ])) none (λ d l f _. live d.number l f)

    -- a block that is not free and has live pages is moved to a free block, if there is one
    pub collect_block_by : (b : ℕ) → (use_of s b ≡ Free → P s) → (NoneIn Free s → P s) → (busy (use_of s b) ≡ true → live_pages s b ≡ [] → P (erase_block g b s))
        → ((d : ℕ) → busy (use_of s b) ≡ true → d < length s.uses → use_of s d ≡ Free → P (move g b d (use_of s b) s)) → P (collect_block g b s)
    unfolding collect_block
    collect_block_by b free none dead live = go (use_of s b) refl
      where
        clears : (u : Use) → use_of s b ≡ u → busy u ≡ true → P (clear_out g b u s)
        clears u e h = clear_out_by b u none (dead (ap busy e ∙ h)) (λ d l f. subst (λ v. P (move g b d v s)) e (live d (ap busy e ∙ h) l f))

        go : (u : Use) → use_of s b ≡ u → P (elim u [ Free ↦ s | Open ↦ clear_out g b Open s | Closed ↦ clear_out g b Closed s ])
        go Free e = free e
        go Open e = clears Open e refl
        go Closed e = clears Closed e refl

    -- one turn of levelling
    pub level_in_by : (turns : ℕ) → (even g s.meter ≡ true → P s) → (even g s.meter ≡ false → s.meter.fcnt ≡ length s.meter.flags → P (end_round s))
        → (even g s.meter ≡ false → (s.meter.fcnt ≡ length s.meter.flags → ⊥) → P (level_in turns g (collect_next g s))) → P (level_in (suc turns) g s)
    unfolding level_in
    level_in_by turns done round turn = go (even g s.meter) refl (eqb s.meter.fcnt (length s.meter.flags)) refl
      where
        go : (c : Bool) → even g s.meter ≡ c → (d : Bool) → eqb s.meter.fcnt (length s.meter.flags) ≡ d
            → P (elim c [ true ↦ s | false ↦ elim d [ true ↦ end_round s | false ↦ level_in turns g (collect_next g s) ] ])
        go true e d f = done e
        go false e true f = round e (eqb-true _ _ f)
        go false e false f = turn e (eqb-false _ _ f)
