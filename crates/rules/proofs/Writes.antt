-- The steps of a write before its levelling keep what a started leveller keeps.
use Rattle.std.proofs.Common.{◌≡◌, ℕ, ◌/◌, ◌<◌, true, false, ◌⊎◌, length, get_or, set, sym, refl, ap, ◌∙◌, subst, inl, inr, arith, rules}
use Rattle.std.proofs.lemmas.List.{length-set, get_or-set_same, get_or-set_other}
use Rattle.flash.specs.Meaning.{Page}
use Rattle.rules.specs.declared.Settings.{Settings}
use Rattle.rules.specs.declared.Use.{Use}
use Rattle.rules.specs.declared.Use.TheVariants.{Free, Open, Closed}
use Rattle.rules.specs.Tables.{Meter, State, set_size}
use Rattle.rules.specs.Blocks.{BlockOrder, use_of, blocks_in}
use Rattle.rules.specs.Steps.{use_block, program_page, count_erase, move, close_open, open_next, make_room, store}
use Rattle.rules.specs.WellFormed.{busy}
use Rattle.rules.proofs.StateFacts.{Busy, Ready, set_of}
use Rattle.rules.proofs.AfterSet.{set_free}
use Rattle.rules.proofs.InUse.{busy_below, busy_not_free}
use Rattle.rules.proofs.Choices.{close_open_by, store_by, clean_by, open_next_by, make_room_by}
use Rattle.rules.proofs.Frame.{moved_use}
use Rattle.rules.proofs.Stable.{keeps_move}
use Rattle.rules.proofs.Collects.{after_move}
use Rattle.rules.proofs.Levels.{Counted, counted_stable}

module _ (g : Settings) (n m : ℕ) where
  abbrev pub Like : State → State → Type 0
  Like s t = Ready g n m t × (t.meter ≡ s.meter)

  -- what a step before the levelling leaves of a meter: at most one erase
  pub record Roomed (before : Meter) (t : State) : Type 0 where
    pub ready : Ready g n m t
    pub meter : (t.meter ≡ before) ⊎ ((i : ℕ) × (i < m) × (t.meter ≡ count_erase i before))

  -- b gets a use, and block x stays free
  like_put : (b : ℕ) (u : Use) (s : State) → busy u ≡ true → Ready g n m s → (x : ℕ) → x < length s.uses → use_of s x ≡ Free → (x ≡ b → ⊥) → Like s (use_block b u s)
  unfolding use_block
  like_put b u s hu rd x l h ne = (
    record {
      sized = search rules;
      marked = rd.marked;
      freed = λ p x l h. rd.freed p x l (set_free s.uses b x u hu h);
      some = (x, omega (arith, length-set s.uses b u), get_or-set_other s.uses b x u Free ne ∙ h);
      seeking = rd.seeking;
    },
    refl,
  )

  pub closes : (s : State) → Ready g n m s → Like s (close_open s)
  closes s rd =
      let f = rd.some in
      close_open_by (Like s) s (λ _. (rd, refl)) (λ b l e. like_put b Closed s refl rd f.0 f.1 f.2 (λ z. busy_not_free s b f.0 (ap busy e) f.2 (sym z)))

  -- the one free block is the destination
  moves : (v d : ℕ) (s : State) → Ready g n m s → Busy s v → d < length s.uses → use_of s d ≡ Free → ((x : ℕ) → x < length s.uses → use_of s x ≡ Free → x ≡ d) → Roomed s.meter (move g v d Open s)
  unfolding count_erase
  moves v d s rd hv ld hd only =
      let t = move g v d Open s in
      let af = after_move g v d Open s refl hv hd in
      let c = keeps_move g (Counted g n m) (counted_stable g n m) v d Open s refl hv (rd.sized, rd.marked) in
      let vm = set_of g n m s rd.sized v (omega (arith, busy_below s v hv, rd.sized.tables)) in
      record {
        ready = record {
          sized = c.0;
          marked = c.1;
          some = af.some;
          freed = λ _ x l. moved_use (λ u. u ≡ Free → get_or t.meter.flags (x / set_size g) false ≡ true) g v d Open s x (busy_below s v hv) ld (λ _ f. absurd (cc))
              (λ _ q _. ap (λ (k : Meter). get_or k.flags (x / set_size g) false) af.meter_is ∙ ap (λ y. get_or (set s.meter.flags (v / set_size g) true) (y / set_size g) false) q ∙ get_or-set_same s.meter.flags (v / set_size g) true false vm)
              (λ n _ f. absurd (n (only x (omega (arith, rd.sized.tables)) f)));
          seeking = subst (λ (k : Meter). k.findex < m) (sym af.meter_is) rd.seeking;
        };
        meter = inr (v / set_size g, omega (arith, vm, rd.sized.flagged), af.meter_is);
      }

  opens : (r : BlockOrder) (s : State) → Ready g n m s → Roomed s.meter (open_next g r (blocks_in Free s) s)
  opens r s rd =
      let still : Roomed s.meter s = record { ready = rd; meter = inl refl } in
      open_next_by (Roomed s.meter) s g r (λ _. still)
      (λ d l f only. clean_by (Roomed s.meter) s g r d (λ _. still) (λ v lv e _. moves v.number d s rd (ap busy e) l f only))
      (λ d c ld fd lc fc ne. let p = like_put d Open s refl rd c lc fc ne in record { ready = p.0; meter = inl p.1 })

  pub rooms : (r : BlockOrder) (s : State) → Ready g n m s → Roomed s.meter (make_room g r s)
  rooms r s rd =
      let c = closes s rd in
      make_room_by (Roomed s.meter) s g r (λ _ _ _ _. record { ready = rd; meter = inl refl })
      (subst (λ k. Roomed k (open_next g r (blocks_in Free (close_open s)) (close_open s))) c.1 (opens r (close_open s) c.0))

  pub stores : (q : Page) (s : State) → Ready g n m s → Like s (store q s)
  stores q s rd = store_by (Like s) s q (λ _. (rd, refl)) (λ b l e. unfold program_page in search rules)

  -- a write up to its levelling
  pub writes : (r : BlockOrder) (q : Page) (s : State) → Ready g n m s → Roomed s.meter (store q (make_room g r s))
  writes r q s rd =
      let ro = rooms r s rd in
      let st = stores q (make_room g r s) ro.ready in
      record { ready = st.0; meter = subst (λ (k : Meter). (k ≡ s.meter) ⊎ ((i : ℕ) × (i < m) × (k ≡ count_erase i s.meter))) (sym st.1) ro.meter }
