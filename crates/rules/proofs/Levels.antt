-- A turn of levelling: what it keeps, and that it sets one flag more.
use Rattle.std.proofs.Common.{◌≡◌, ℕ, suc, ◌*◌, ◌/◌, ◌+◌, ◌<◌, ◌≤◌, true, false, cond, length, get_or, sym, refl, ap, ◌∙◌, mul-le-mul_right, div-lt_iff_lt-mul, le-div_iff_mul-le, arith, rules}
use Rattle.std.proofs.lemmas.List.{get_or-set_other, length-replicate, get_or_default}
use Rattle.std.proofs.lemmas.List.Sums.{count_by-le-length}
use Rattle.std.proofs.lemmas.Bool.{true≢false}
use Rattle.std.proofs.lemmas.Bool.Decides.{nat_tests}
use Rattle.rules.specs.declared.Settings.{Settings}
use Rattle.rules.specs.declared.Use.TheVariants.{Free}
use Rattle.rules.specs.Tables.{Meter, State, set_size}
use Rattle.rules.specs.Blocks.{use_of}
use Rattle.rules.specs.Steps.{use_block, program_page, count_erase, erase_block}
use Rattle.rules.specs.Levelling.{set_blocks, sought, turn_to, end_round, even, collect_next}
use Rattle.rules.specs.WellFormed.{ones}
use Rattle.rules.proofs.StateFacts.{Freed, Sized, Ready, some_size, set_of}
use Rattle.rules.proofs.AfterSet.{set_cases, set_free}
use Rattle.rules.proofs.InUse.{busy_below, busy_of}
use Rattle.rules.proofs.Stable.{Stable, stable_settled, settle_collect}
use Rattle.rules.proofs.Flags.{ones_set, ones_none, seek_clear, next_below}
use Rattle.rules.proofs.Collects.{InSet, collected_new}

pub even_true : (m : Meter) (g : Settings) → 1 ≤ m.fcnt → even g m ≡ true → m.ecnt < g.threshold * m.fcnt
even_true m g h e = grind (arith, nat_tests)

pub not_even : (g : Settings) (m : Meter) → even g m ≡ false → (1 ≤ m.fcnt) × (g.threshold * m.fcnt ≤ m.ecnt)
not_even g m e = (grind (arith, nat_tests), grind (arith, nat_tests))

module _ (g : Settings) (n m : ℕ) where
  pub flags_below : (s : State) → Ready g n m s → s.meter.fcnt ≤ m
  flags_below s rd = omega (arith, count_by-le-length (λ v. v) s.meter.flags, rd.marked, rd.sized.flagged)

  -- the tables keep their lengths, and the flags are counted
  abbrev pub Counted : State → Type 0
  Counted s = Sized g n m s × (ones s.meter.flags ≡ s.meter.fcnt)

  pub marked_erase : (b : ℕ) (s : State) → b < n → Sized g n m s → ones s.meter.flags ≡ s.meter.fcnt → ones (erase_block g b s).meter.flags ≡ (erase_block g b s).meter.fcnt
  unfolding erase_block count_erase
  marked_erase b s h z e = ones_set s.meter.flags (b / set_size g) (set_of g n m s z b h) ∙ ap (λ k. cond (get_or s.meter.flags (b / set_size g) true) k (suc k)) e

  pub counted_stable : Stable g Counted
  unfolding use_block program_page erase_block count_erase
  counted_stable = record {
    by_put = λ b u s hu q. search rules;
    by_program = λ b p s q. search rules;
    by_erase = λ b s hb q. (search rules, marked_erase b s (omega (arith, busy_below s b hb, q.0.tables)) q.0 q.1);
  }

  pub freed_erase : (b : ℕ) (s : State) → b < n → Sized g n m s → Freed g n s → Freed g n (erase_block g b s)
  unfolding erase_block count_erase
  freed_erase b s h z f x l u = set_cases (λ v. v ≡ true) s.meter.flags (b / set_size g) (x / set_size g) true false (set_of g n m s z b h) (λ _. refl)
      (λ ne. f x l (sym (get_or-set_other s.uses b x Free Free (λ e. ne (ap (λ y. y / set_size g) e))) ∙ u))

  abbrev pub Kept : State → Type 0
  Kept s = Counted s × Freed g n s

  pub kept_stable : Stable g Kept
  unfolding use_block program_page
  kept_stable = record {
    by_put = λ b u s hu q. (counted_stable.by_put b u s hu q.0, λ x l h. q.1 x l (set_free s.uses b x u hu h));
    by_program = λ b p s q. (counted_stable.by_program b p s q.0, q.1);
    by_erase = λ b s hb q. (counted_stable.by_erase b s hb q.0, freed_erase b s (omega (arith, busy_below s b hb, q.0.0.tables)) q.0.0 q.1);
  }

  -- the set that is collected next: its flag is clear
  pub record Sought (s : State) (i : ℕ) : Type 0 where
    pub inside : i < length s.meter.flags
    pub clear : get_or s.meter.flags i true ≡ false
    pub within : i * set_size g + set_size g ≤ n
    pub each : (x : ℕ) → i * set_size g ≤ x → x < i * set_size g + set_size g → (x < n) × (x / set_size g ≡ i) × (get_or s.meter.flags (x / set_size g) false ≡ false)

  pub seeks : (s : State) → Ready g n m s → s.meter.fcnt < m → Sought s (sought s.meter)
  seeks s rd less =
      let i = sought s.meter in
      let w = some_size g in
      let f = seek_clear s.meter.flags s.meter.findex (omega (arith, rd.seeking, rd.sized.flagged)) (omega (arith, rd.marked, rd.sized.flagged)) in
      let im : suc i ≤ m = omega (arith, f.0, rd.sized.flagged) in
      let within : i * set_size g + set_size g ≤ n = omega (arith, mul-le-mul_right (set_size g) im, rd.sized.sets) in
      record {
        inside = f.0;
        clear = f.1;
        within = within;
        each = λ x l u. (
            let low : i ≤ x / set_size g = (le-div_iff_mul-le w).1 l in
            let high : x / set_size g < suc i = (div-lt_iff_lt-mul w).1 (omega arith) in
            let e : x / set_size g ≡ i = omega arith in
            (omega (arith, within), e, ap (λ y. get_or s.meter.flags y false) e ∙ sym (get_or_default s.meter.flags i true false f.0) ∙ f.1));
      }

  -- a turn in a round that is not full
  pub record Turned (s t : State) : Type 0 where
    pub ready : Ready g n m t
    pub more : t.meter.fcnt ≡ suc s.meter.fcnt
    pub costs : t.meter.ecnt ≡ s.meter.ecnt + set_size g

  pub turns : (s : State) → Ready g n m s → 1 ≤ s.meter.fcnt → s.meter.fcnt < m → Turned s (collect_next g s)
  unfolding collect_next turn_to
  turns s rd pos less =
      let i = sought s.meter in
      let so = seeks s rd less in
      let in_set : InSet g i (i * set_size g) (set_size g) s = λ x l u.
      (let at = so.each x l u in (busy_of (use_of s x) (λ free. true≢false (sym (rd.freed pos x at.0 free) ∙ at.2)), at.1)) in
      let c = collected_new g i (set_size g) (i * set_size g) s so.inside so.clear (some_size g) in_set rd.some in
      let k = settle_collect g Kept (stable_settled g Kept kept_stable) (set_blocks g i) s ((rd.sized, rd.marked), rd.freed pos) in
      record {
        ready = record {
          sized = search rules;
          marked = k.0.1;
          freed = λ _. k.1;
          some = c.2;
          seeking = omega (arith, next_below (length s.meter.flags) i so.inside, rd.sized.flagged);
        };
        more = c.1;
        costs = c.0;
      }

  pub round_ready : (s : State) → Ready g n m s → Ready g n m (end_round s)
  unfolding end_round
  round_ready s rd = record {
    sized = search (rules, length-replicate);
    marked = ones_none (length s.meter.flags);
    freed = λ h. absurd (omega (arith, h));
    some = rd.some;
    seeking = rd.seeking;
  }
