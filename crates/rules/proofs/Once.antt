-- No block is erased twice in one write.
use Rattle.std.proofs.Common.{◌≡◌, ℕ, zero, suc, ◌+◌, ◌/◌, ◌<◌, ◌≤◌, true, false, ◌⊎◌, length, get_or, set, ⊎_elim, sym, refl, ap, ◌∙◌, inl, arith, ◌*◌}
use Rattle.std.specs.List.{range_with_len}
use Rattle.std.proofs.lemmas.List.{length-set, get_or-set_same, get_or-set_other}
use Rattle.std.proofs.lemmas.Bool.{true≢false}
use Rattle.flash.specs.Meaning.{Block, no_block, Page}
use Rattle.rules.specs.declared.Settings.{Settings}
use Rattle.rules.specs.declared.Use.{Use}
use Rattle.rules.specs.Tables.{Meter, State, set_size}
use Rattle.rules.specs.Blocks.{use_of, live_pages, BlockOrder}
use Rattle.rules.specs.Steps.{use_block, count_erase, erase_block, copy, move, program_page, close_open, make_room, store}
use Rattle.rules.specs.Levelling.{collect_block, collect, sought, turn_to, end_round, collect_next, level_in}
use Rattle.rules.proofs.StateFacts.{counted, Ready, set_of}
use Rattle.rules.proofs.AfterSet.{set_by}
use Rattle.rules.proofs.Choices.{collect_block_by, close_open_by, store_by, clean_by, open_next_by, make_room_by, level_in_by}
use Rattle.rules.proofs.Frame.{move_meter, copy_counted, copy_blocks, program_counted}
use Rattle.rules.specs.declared.Use.TheVariants.{Open}
use Rattle.rules.proofs.Levels.{seeks, turns, not_even, flags_below}
use Rattle.rules.proofs.Writes.{closes, writes}

-- what became of s by the erase of b
pub record Hit (g : Settings) (b : ℕ) (s t : State) : Type 0 where
  pub meter_is : t.meter ≡ count_erase (b / set_size g) s.meter
  pub own : counted t b ≡ suc (counted s b)
  pub others : (x : ℕ) → (x ≡ b → ⊥) → counted t x ≡ counted s x
  pub long : length t.chip.blocks ≡ length s.chip.blocks

hit_erase : (g : Settings) (b : ℕ) (s : State) → b < length s.chip.blocks → Hit g b s (erase_block g b s)
unfolding erase_block
hit_erase g b s l = record {
  meter_is = refl;
  own = ap (λ (c : Block). c.count) (get_or-set_same s.chip.blocks b _ no_block l);
  others = λ x ne. ap (λ (c : Block). c.count) (get_or-set_other s.chip.blocks b x _ no_block ne);
  long = length-set s.chip.blocks b _;
}

pub hit_move : (g : Settings) (b d : ℕ) (u : Use) (s : State) → b < length s.chip.blocks → Hit g b s (move g b d u s)
hit_move g b d u s l =
    let qs = live_pages s b in
    let e = hit_erase g b (copy d qs s) (omega (arith, copy_blocks d qs s)) in
    record {
      meter_is = move_meter g b d u s;
      own = unfold move use_block in (e.own ∙ ap suc (copy_counted d qs s b));
      others = λ x ne. unfold move use_block in (e.others x ne ∙ copy_counted d qs s x);
      long = unfold move use_block in (e.long ∙ copy_blocks d qs s);
    }

module _ (g : Settings) (was : ℕ → ℕ) where
  -- a block is as it was, or was erased once, and then the flag of its set is set
  abbrev pub OnceAt : State → ℕ → Type 0
  OnceAt s x = (counted s x ≡ was x) ⊎ ((counted s x ≡ suc (was x)) × (get_or s.meter.flags (x / set_size g) false ≡ true))

  abbrev pub Once : State → Type 0
  Once s = (x : ℕ) → OnceAt s x

  -- b may have been erased
  pub record Passed (b : ℕ) (s t : State) : Type 0 where
    pub once : Once t
    pub others : (x : ℕ) → (x ≡ b → ⊥) → counted t x ≡ counted s x
    pub long : length t.chip.blocks ≡ length s.chip.blocks
    pub flagged : length t.meter.flags ≡ length s.meter.flags

  pub passed_hit : (b : ℕ) (s t : State) → b / set_size g < length s.meter.flags → counted s b ≡ was b → Once s → Hit g b s t → Passed b s t
  unfolding count_erase
  passed_hit b s t l e o h = record {
    once = λ x. (let ox = o x in
        let other = h.others x in
        let kept = λ (k : get_or s.meter.flags (x / set_size g) false ≡ true). set_by (λ v. v ≡ true) s.meter.flags (b / set_size g) (x / set_size g) true false (λ _. refl) k in
        let here : x ≡ b → get_or t.meter.flags (x / set_size g) false ≡ true = λ q. ap (λ y. get_or t.meter.flags (y / set_size g) false) q ∙ ap (λ fs. get_or fs (b / set_size g) false) flags ∙ get_or-set_same s.meter.flags (b / set_size g) true false l in
        grind (arith, flags));
    others = h.others;
    long = h.long;
    flagged = ap length flags ∙ length-set s.meter.flags (b / set_size g) true;
  }
    where
      flags : t.meter.flags ≡ set s.meter.flags (b / set_size g) true
      flags = ap (λ (m : Meter). m.flags) h.meter_is

  passed_collect : (b : ℕ) (s : State) → b < length s.chip.blocks → b / set_size g < length s.meter.flags → counted s b ≡ was b → Once s → Passed b s (collect_block g b s)
  passed_collect b s lb lf e o =
      let still : Passed b s s = record { once = o; others = λ x _. refl; long = refl; flagged = refl } in
      collect_block_by (Passed b s) s g b (λ _. still) (λ _. still) (λ _ _. passed_hit b s _ lf e o (hit_erase g b s lb)) (λ d _ _ _. passed_hit b s _ lf e o (hit_move g b d (use_of s b) s lb))

  -- blocks that are as they were, each collected once
  pub once_collect : (k a : ℕ) (s : State) → a + k ≤ length s.chip.blocks → ((x : ℕ) → a ≤ x → x < a + k → (counted s x ≡ was x) × (x / set_size g < length s.meter.flags)) → Once s → Once (collect g (range_with_len a k) s)
  unfolding collect
  once_collect zero a s l h o = o
  once_collect (suc k) a s l h o =
      let at = h a (omega arith) (omega arith) in
      let p = passed_collect a s (omega arith) at.1 at.0 o in
      once_collect k (a + 1) (collect_block g a s) (omega (arith, p.long))
      (λ x lo hi. let q = h x (omega arith) (omega arith) in (p.others x (omega arith) ∙ q.0, omega (arith, q.1, p.flagged))) p.once

abbrev pub AtMost : (ℕ → ℕ) → State → Type 0
AtMost was t = (x : ℕ) → (was x ≤ counted t x) × (counted t x ≤ suc (was x))

close_counted : (s : State) (x : ℕ) → counted (close_open s) x ≡ counted s x
close_counted s x = close_open_by (λ t. counted t x ≡ counted s x) s (λ _. refl) (λ b l e. unfold use_block in refl)

module _ (g : Settings) (n m : ℕ) (was : ℕ → ℕ) where
  at_most : (s : State) → Once g was s → AtMost was s
  at_most s o x = let h = o x in (grind arith, grind arith)

  once_next : (s : State) → Ready g n m s → s.meter.fcnt < m → Once g was s → Once g was (collect_next g s)
  unfolding collect_next turn_to
  once_next s rd less o =
      let so = seeks g n m s rd less in
      once_collect g was (set_size g) (sought s.meter * set_size g) s (omega (arith, so.within, rd.sized.chips))
      (λ x l u. (let at = so.each x l u in (⊎_elim (λ e. e) (λ e. absurd (true≢false (sym e.1 ∙ at.2))) (o x), set_of g n m s rd.sized x at.0))) o

  once_level : (f : ℕ) (s : State) → Ready g n m s → Once g was s → AtMost was (level_in f g s)
  unfolding level_in
  once_level zero s rd o = at_most s o
  once_level (suc f) s rd o = level_in_by (AtMost was) s g f (λ _. at_most s o) (λ _ _. unfold end_round in at_most s o)
      (λ e ne. let less : s.meter.fcnt < m = omega (arith, flags_below g n m s rd, rd.sized.flagged) in
      once_level f (collect_next g s) (turns g n m s rd (not_even g s.meter e).0 less).ready (once_next s rd less o))

  once_program : (b : ℕ) (q : Page) (s : State) → Once g was s → Once g was (program_page b q s)
  unfolding program_page
  once_program b q s o x = let h = o x in let c = program_counted b q s x in grind arith

  once_store : (q : Page) (s : State) → Once g was s → Once g was (store q s)
  once_store q s o = store_by (Once g was) s q (λ _. o) (λ b l e. once_program b q s o)

module _ (g : Settings) (n m : ℕ) where
  once_room : (r : BlockOrder) (s : State) → Ready g n m s → Once g (counted s) (make_room g r s)
  once_room r s rd =
      let t = close_open s in
      let c = closes g n m s rd in
      let o : Once g (counted s) t = λ x. inl (close_counted s x) in
      make_room_by (Once g (counted s)) s g r (λ _ _ _ _ x. inl refl) (open_next_by (Once g (counted s)) t g r (λ _. o)
      (λ d ld fd only. clean_by (Once g (counted s)) t g r d (λ _. o) (λ v lv e _.
      let l : v.number < n = omega (arith, c.0.sized.tables) in
      (passed_hit g (counted s) v.number t (move g v.number d Open t) (set_of g n m t c.0.sized v.number l) (close_counted s v.number) o (hit_move g v.number d Open t (omega (arith, c.0.sized.chips)))).once))
      (λ d b ld fd lb fb ne. unfold use_block in o))

  pub grows : (f : ℕ) (r : BlockOrder) (q : Page) (s : State) → Ready g n m s → AtMost (counted s) (level_in f g (store q (make_room g r s)))
  grows f r q s rd =
      let t = make_room g r s in
      once_level g n m (counted s) f (store q t) (writes g n m r q s rd).ready (once_store g n m (counted s) q t (once_room r s rd))
