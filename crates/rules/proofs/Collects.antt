-- A collection: each block of a set that is in use is erased once.
use Rattle.std.proofs.Common.{◌≡◌, ℕ, zero, suc, ◌+◌, ◌/◌, ◌<◌, ◌≤◌, true, false, cond, length, get_or, set, sym, refl, ap, ◌∙◌, arith}
use Rattle.std.specs.List.{range_with_len}
use Rattle.std.proofs.lemmas.Bool.{true≢false}
use Rattle.std.proofs.lemmas.List.{length-set, get_or-set_same, get_or-set_other, set-get_or}
use Rattle.rules.specs.declared.Settings.{Settings}
use Rattle.rules.specs.declared.Use.{Use}
use Rattle.rules.specs.declared.Use.TheVariants.{Free}
use Rattle.rules.specs.Tables.{Meter, State, set_size}
use Rattle.rules.specs.Blocks.{use_of}
use Rattle.rules.specs.Steps.{count_erase, erase_block, move}
use Rattle.rules.specs.Levelling.{collect_block, collect}
use Rattle.rules.specs.WellFormed.{busy}
use Rattle.rules.proofs.StateFacts.{Busy, SomeFree}
use Rattle.rules.proofs.InUse.{busy_below, busy_not_free}
use Rattle.rules.proofs.Choices.{collect_block_by}
use Rattle.rules.proofs.Frame.{moved_by, move_long, move_meter}

-- what the erase of b in a collection leaves
pub record After (g : Settings) (b : ℕ) (s t : State) : Type 0 where
  pub meter_is : t.meter ≡ count_erase (b / set_size g) s.meter
  pub others : (x : ℕ) → (x ≡ b → ⊥) → Busy s x → Busy t x
  pub some : SomeFree t

after_erase : (g : Settings) (b : ℕ) (s : State) → Busy s b → After g b s (erase_block g b s)
unfolding erase_block
after_erase g b s h = record {
  meter_is = refl;
  others = λ x n k. ap busy (get_or-set_other s.uses b x Free Free n) ∙ k;
  some = (b, omega (arith, length-set s.uses b Free, busy_below s b h), get_or-set_same s.uses b Free Free (busy_below s b h));
}

pub after_move : (g : Settings) (b d : ℕ) (u : Use) (s : State) → busy u ≡ true → Busy s b → use_of s d ≡ Free → After g b s (move g b d u s)
after_move g b d u s hu hb hd =
    let l = busy_below s b hb in
    record {
      meter_is = move_meter g b d u s;
      others = λ x n k. moved_by (λ v. busy v ≡ true) g b d u s x l (λ _. hu) (λ e. absurd (n e)) (λ _. k);
      some = (b, omega (arith, move_long g b d u s), moved_by (λ v. v ≡ Free) g b d u s b l (λ e. absurd (busy_not_free s b d hb hd e)) (λ _. refl) (λ n. absurd (n refl)));
    }

pub after_collect_block : (g : Settings) (b : ℕ) (s : State) → Busy s b → SomeFree s → After g b s (collect_block g b s)
after_collect_block g b s hb sf = collect_block_by (After g b s) s g b
    (λ e. absurd (true≢false (sym hb ∙ ap busy e)))
    (λ none. absurd (none sf.0 sf.1 sf.2))
    (λ _ _. after_erase g b s hb)
    (λ d _ _ f. after_move g b d (use_of s b) s hb hb f)

-- k blocks from a on lie in set i, and none of them is free
abbrev pub InSet : Settings → ℕ → ℕ → ℕ → State → Type 0
InSet g i a k s = (x : ℕ) → a ≤ x → x < a + k → Busy s x × (x / set_size g ≡ i)

-- the first of them is collected
record First (g : Settings) (i k a : ℕ) (s t : State) : Type 0 where
  meter_is : t.meter ≡ count_erase i s.meter
  rest : InSet g i (a + 1) k t
  some : SomeFree t

collect_first : (g : Settings) (i k a : ℕ) (s : State) → InSet g i a (suc k) s → SomeFree s → First g i k a s (collect_block g a s)
collect_first g i k a s hs sf =
    let at = hs a (omega arith) (omega arith) in
    let af = after_collect_block g a s at.0 sf in
    record {
      meter_is = af.meter_is ∙ ap (λ j. count_erase j s.meter) at.1;
      rest = λ x l u. (let h = hs x (omega arith) (omega arith) in (af.others x (omega arith) h.0, h.1));
      some = af.some;
    }

-- where the flag of set i is set already
pub collected : (g : Settings) (i k a : ℕ) (s : State) → get_or s.meter.flags i true ≡ true → InSet g i a k s → SomeFree s
    → ((collect g (range_with_len a k) s).meter.ecnt ≡ s.meter.ecnt + k) × ((collect g (range_with_len a k) s).meter.fcnt ≡ s.meter.fcnt) × SomeFree (collect g (range_with_len a k) s)
unfolding collect count_erase
collected g i zero a s hf hs sf = (omega arith, refl, sf)
collected g i (suc k) a s hf hs sf =
    let f = collect_first g i k a s hs sf in
    let flags : (collect_block g a s).meter.flags ≡ s.meter.flags = ap (λ (m : Meter). m.flags) f.meter_is ∙ ap (set s.meter.flags i) (sym hf) ∙ set-get_or s.meter.flags i true in
    let fcnt : (collect_block g a s).meter.fcnt ≡ s.meter.fcnt = ap (λ (m : Meter). m.fcnt) f.meter_is ∙ ap (λ v. cond v s.meter.fcnt (suc s.meter.fcnt)) hf in
    let ecnt : (collect_block g a s).meter.ecnt ≡ suc s.meter.ecnt = ap (λ (m : Meter). m.ecnt) f.meter_is in
    let r = collected g i k (a + 1) (collect_block g a s) (ap (λ fs. get_or fs i true) flags ∙ hf) f.rest f.some in
    (omega (arith, r.0, ecnt), r.1 ∙ fcnt, r.2)

-- a whole set whose flag is clear
pub collected_new : (g : Settings) (i k a : ℕ) (s : State) → i < length s.meter.flags → get_or s.meter.flags i true ≡ false → 0 < k → InSet g i a k s → SomeFree s
    → ((collect g (range_with_len a k) s).meter.ecnt ≡ s.meter.ecnt + k) × ((collect g (range_with_len a k) s).meter.fcnt ≡ suc s.meter.fcnt) × SomeFree (collect g (range_with_len a k) s)
unfolding collect count_erase
collected_new g i zero a s hi hf pos hs sf = absurd (omega arith)
collected_new g i (suc k) a s hi hf pos hs sf =
    let f = collect_first g i k a s hs sf in
    let flag : get_or (collect_block g a s).meter.flags i true ≡ true = ap (λ (m : Meter). get_or m.flags i true) f.meter_is ∙ get_or-set_same s.meter.flags i true true hi in
    let fcnt : (collect_block g a s).meter.fcnt ≡ suc s.meter.fcnt = ap (λ (m : Meter). m.fcnt) f.meter_is ∙ ap (λ v. cond v s.meter.fcnt (suc s.meter.fcnt)) hf in
    let ecnt : (collect_block g a s).meter.ecnt ≡ suc s.meter.ecnt = ap (λ (m : Meter). m.ecnt) f.meter_is in
    let r = collected g i k (a + 1) (collect_block g a s) flag f.rest f.some in
    (omega (arith, r.0, ecnt), r.1 ∙ fcnt, r.2)
