-- A cleaning takes a block that is not all live, so that the open block has room for the page to write.
use Rattle.std.proofs.Common.{◌≡◌, ℕ, ◌+◌, ◌*◌, ◌<◌, ◌≤◌, true, not, [], ◌∷◌, length, IfSome, Contains, Some, ⊎_elim, sym, refl, ap, ◌∙◌, subst, arith}
use Rattle.std.proofs.lemmas.Bool.{true≢false, cases_lt}
use Rattle.std.proofs.lemmas.List.Elements.{All-contains}
use Rattle.std.proofs.lemmas.Option.{IfSome_then}
use Rattle.orders.specs.declared.block.BlockRecord.{BlockRecord}
use Rattle.flash.specs.Meaning.{Flash, Page, PageFits}
use Rattle.rules.specs.declared.Settings.{Settings}
use Rattle.rules.specs.declared.Use.TheVariants.{Free, Open, Closed}
use Rattle.rules.specs.Tables.{State}
use Rattle.rules.specs.Blocks.{BlockOrder, use_of, blocks_in, live_pages, record_of, records, first}
use Rattle.rules.specs.Steps.{use_block, program_page, move, clean, close_open, make_room, store}
use Rattle.rules.specs.Levelling.{level_in}
use Rattle.rules.specs.Laws.{VictimOrder}
use Rattle.rules.specs.WellFormed.{busy}
use Rattle.rules.proofs.StateFacts.{held, NoOpen, OneOpen}
use Rattle.rules.proofs.AfterSet.{set_by}
use Rattle.rules.proofs.InUse.{same_from_only, has_use, first_in}
use Rattle.rules.proofs.Choices.{close_open_by, store_by, clean_by, open_next_by, make_room_by}
use Rattle.rules.proofs.Opened.{moved_open, closes_open, others_closed, some_closed}
use Rattle.rules.proofs.LivePages.{crowd, sums_but}
use Rattle.rules.proofs.Victim.{Leads, Leader, leads}
use Rattle.rules.proofs.Runs.{shape}
use Rattle.rules.proofs.PagesFit.{PagesFit, live_short, fill_one, fit_put, fit_move, fit_level}

pub fit_close : (was : Flash) (s : State) → PagesFit was s → PagesFit was (close_open s)
fit_close was s h = close_open_by (PagesFit was) s (λ _. h) (λ b l e. fit_put was b Closed s refl h)

pub close_places : (s : State) → length (close_open s).places ≡ length s.places
close_places s = close_open_by (λ t. length t.places ≡ length s.places) s (λ _. refl) (λ b l e. unfold use_block in refl)

module _ (g : Settings) (was : Flash) (some_pages : 1 ≤ was.p) (few_pages : was.p ≤ 64) (room : g.logical + was.p < length was.blocks * was.p) (r : BlockOrder) (vo : VictimOrder r) where
  abbrev Fits : State → Type 0
  Fits s = PagesFit was s

  -- an open block has a page that is not written
  abbrev pub Spared : State → Type 0
  Spared s = Fits s × ((x : ℕ) → use_of s x ≡ Open → length (held s x).pages < was.p)

  p_of : (s : State) → Fits s → s.chip.p ≡ was.p
  p_of s h = (shape s.log was s.chip h.runs).p_is

  -- nothing is cut off a record's P
  record_pages : (s : State) (b : ℕ) → Fits s → (record_of s b).pages ≡ was.p
  record_pages s b h = omega (arith, p_of s h)

  -- nor off its v
  record_live : (s : State) (b : ℕ) → Fits s → (record_of s b).live ≡ length (live_pages s b)
  record_live s b h = omega (arith, record_pages s b h, live_short s b, (h.good b).0)

  -- where all blocks but f are closed, the victim has a page that is not live
  victim : (f : ℕ) (s : State) → Fits s → length s.places ≡ g.logical → ((x : ℕ) → x < length s.uses → (x ≡ f → ⊥) → use_of s x ≡ Closed) → IfSome (first r (records Closed s)) (λ v. length (live_pages s v.number) < was.p)
  victim f s h mp closed = IfSome_then (first r (records Closed s)) (leads r (record_of s) (λ b. refl) vo.total vo.transitive (blocks_in Closed s)) (λ v ld. ⊎_elim (λ lt. lt) (λ le. absurd (all_live v ld le)) (cases_lt (length (live_pages s v.number)) was.p))
    where
      -- a victim that is all live leaves none that is not
      each : (v : BlockRecord) → Leader r (record_of s) (blocks_in Closed s) v → was.p ≤ length (live_pages s v.number) → (x : ℕ) → x < length was.blocks → (x ≡ f → ⊥) → was.p ≤ length (live_pages s x)
      each v ld le x lx ne = ⊎_elim
          (λ (k : length (live_pages s x) < was.p).
          let xr = record_of s x in
          let vr = record_of s v.number in
          let full : length (live_pages s v.number) ≡ was.p = omega (arith, live_short s v.number, (h.good v.number).0) in
          let apart : x ≡ v.number → ⊥ = λ e. (let q : length (live_pages s x) ≡ length (live_pages s v.number) = ap (λ y. length (live_pages s y)) e in omega arith) in
          let a : r xr vr ≡ true = vo.full_last xr vr refl (omega (arith, record_live s x h, record_pages s x h, k)) (record_live s v.number h ∙ full ∙ sym (record_pages s v.number h)) in
          let lx' : x < length s.uses = omega (arith, h.tables) in
          let b : r vr xr ≡ true = All-contains (Leads r (record_of s) v.number) (blocks_in Closed s) x ld.1 (has_use Closed s x lx' (closed x lx' ne)) apart in
          absurd (true≢false (sym a ∙ vo.total vr xr (λ e. apart (sym e)) ∙ ap not b)))
          (λ k. k)
          (cases_lt (length (live_pages s x)) was.p)

      all_live : (v : BlockRecord) → Leader r (record_of s) (blocks_in Closed s) v → was.p ≤ length (live_pages s v.number) → ⊥
      all_live v ld le = omega (arith, sums_but (λ b. length (live_pages s b)) was.p f 0 (length was.blocks) (λ x lo hi ne. each v ld le x (omega arith) ne), crowd s 0 (length was.blocks))

  -- so a cleaning finds a victim, and gains a page
  pub gains : (s : State) → Fits s → length s.places ≡ g.logical → NoOpen s → 2 ≤ length was.blocks → (f : ℕ) → blocks_in Free s ≡ f ∷ []
      → (v : BlockRecord) × (first r (records Closed s) ≡ Some v) × (length (live_pages s v.number) < was.p)
  gains s h mp nop two f e =
      let only = λ (x : ℕ) (lx : x < length s.uses) (q : use_of s x ≡ Free). same_from_only f x (subst (λ fs. Contains fs x) e (has_use Free s x lx q)) in
      first_in r Closed s (λ o. first r (records Closed s) ≡ o → (v : BlockRecord) × (first r (records Closed s) ≡ Some v) × (length (live_pages s v.number) < was.p))
      (λ none _. absurd (some_closed s f (omega (arith, h.tables)) nop only none))
      (λ v lv ev q _. (v, q, subst (λ o. IfSome o (λ v. length (live_pages s v.number) < was.p)) q (victim f s h mp (others_closed s f nop only))))
      refl

  clean_spared : (f : ℕ) (s : State) → Fits s → length s.places ≡ g.logical → NoOpen s → f < length s.uses → use_of s f ≡ Free → ((x : ℕ) → x < length s.uses → use_of s x ≡ Free → x ≡ f) → Spared (clean g r f s)
  clean_spared f s h mp nop lf hf only = clean_by Spared s g r f (λ _. (h, λ x e. absurd (nop x e))) (λ v lv ev q.
      let less : length (live_pages s v.number) < was.p = subst (λ o. IfSome o (λ v. length (live_pages s v.number) < was.p)) q (victim f s h mp (others_closed s f nop only)) in
      let m = fit_move was g v.number f Open s (ap busy ev) refl lf hf h in (
        m.0,
        λ x e. ⊎_elim
            (λ (k : (x ≡ f) × (Open ≡ Open)). subst (λ y. length (held (move g v.number f Open s) y).pages < was.p) (sym k.0) (omega (arith, m.1)))
            (λ (k : (use_of s x ≡ Open) × (x ≡ v.number → ⊥)). absurd (nop x k.0))
            (moved_open g s v.number f x Open lv e),
      ))

  put_spared : (c : ℕ) (s : State) → Fits s → NoOpen s → use_of s c ≡ Free → Spared (use_block c Open s)
  unfolding use_block
  put_spared c s h nop hc = (
    fit_put was c Open s refl h,
    λ x. set_by (λ v. v ≡ Open → length (held s x).pages < was.p) s.uses c x Open Free (λ e _. omega (arith, ap (λ y. length (held s y).pages) e, h.blanks c hc)) (λ e. absurd (nop x e)),
  )

  room_spared : (s : State) → Fits s → length s.places ≡ g.logical → OneOpen s → Spared (make_room g r s)
  room_spared s h mp one =
      let t = close_open s in
      let k = fit_close was s h in
      let nop = closes_open s one in
      make_room_by Spared s g r
      (λ b lb e m. (h, λ x hx. subst (λ y. length (held s y).pages < was.p) (one b x e hx) (omega (arith, m, p_of s h))))
      (open_next_by Spared t g r (λ _. (k, λ x e. absurd (nop x e)))
      (λ f lf hf only. clean_spared f t k (close_places s ∙ mp) nop lf hf only)
      (λ f c lf hf lc hc ne. put_spared f t k nop hf))

  fit_store : (q : Page) (s : State) → PageFits was.d q → Spared s → Fits (store q s)
  fit_store q s lq h = store_by Fits s q (λ _. h.0) (λ b lb e.
      let f = fill_one was b q s (omega (arith, lb, h.0.tables)) h.0.chips h.0.good h.0.runs lq (h.1 b e) in
      record {
        chips = f.chips;
        tables = unfold program_page in h.0.tables;
        good = f.good;
        runs = f.runs;
        blanks = unfold program_page in (λ x free. ap length (f.elsewhere x (λ z. (let c = sym free ∙ ap (use_of s) z ∙ e in absurd (cc)))) ∙ h.0.blanks x free);
      })

  pub fit_write : (turns : ℕ) (q : Page) (s : State) → PageFits was.d q → length s.places ≡ g.logical → OneOpen s → Fits s → Fits (level_in turns g (store q (make_room g r s)))
  fit_write turns q s lq mp one h = fit_level was g turns _ (fit_store q _ lq (room_spared s h mp one))
