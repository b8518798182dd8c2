-- Making room opens one block, with what was readable kept; storing and levelling leave at most one open.
use Rattle.std.proofs.Common.{◌≡◌, ℕ, ◌<◌, ◌≤◌, ◌⊎◌, List, length, get_or, set, sym, refl, ap, ◌∙◌, inl, inr, arith}
use Rattle.std.proofs.lemmas.List.{length-set, get_or-set_same}
use Rattle.flash.specs.Meaning.{Page}
use Rattle.rules.specs.declared.Settings.{Settings}
use Rattle.rules.specs.declared.Use.{Use}
use Rattle.rules.specs.declared.Use.TheVariants.{Free, Open, Closed}
use Rattle.rules.specs.Tables.{State}
use Rattle.rules.specs.Blocks.{BlockOrder, use_of}
use Rattle.rules.specs.Steps.{use_block, program_page, erase_block, move, close_open, make_room, store}
use Rattle.rules.specs.Levelling.{turn_to, end_round, level_in}
use Rattle.rules.specs.WellFormed.{busy}
use Rattle.rules.proofs.StateFacts.{SomeFree, Ready, NoOpen, NoneIn, OneOpen, HasOpen}
use Rattle.rules.proofs.AfterSet.{set_by, set_cases}
use Rattle.rules.proofs.InUse.{busy_below, busy_not_free}
use Rattle.rules.proofs.Choices.{close_open_by, store_by, clean_by, open_next_by, make_room_by}
use Rattle.rules.proofs.Frame.{moved_use, moved_by, move_long, program_blocks}
use Rattle.rules.proofs.Stable.{Settled, settle_level}
use Rattle.rules.proofs.Copies.{valid_program}
use Rattle.rules.proofs.Mapped.{Holding, holding_put, holding_move, holding_level}
use Rattle.rules.proofs.Writes.{closes}

-- an open block after b was freed was open, and is not b
pub freed_open : (us : List Use) (b x : ℕ) → b < length us → get_or (set us b Free) x Free ≡ Open → (get_or us x Free ≡ Open) × (x ≡ b → ⊥)
freed_open us b x l = set_cases (λ v. v ≡ Open → (get_or us x Free ≡ Open) × (x ≡ b → ⊥)) us b x Free Free l (λ _ e. absurd (cc)) (λ n e. (e, n))

-- a move of b to d, in the use u, as the open blocks see it
abbrev pub MovedOpen : State → ℕ → ℕ → Use → ℕ → Type 0
MovedOpen s b d u x = ((x ≡ d) × (u ≡ Open)) ⊎ ((use_of s x ≡ Open) × (x ≡ b → ⊥))

pub moved_open : (g : Settings) (s : State) (b d x : ℕ) (u : Use) → b < length s.uses → use_of (move g b d u s) x ≡ Open → MovedOpen s b d u x
moved_open g s b d x u lb = moved_by (λ v. v ≡ Open → MovedOpen s b d u x) g b d u s x lb (λ e k. inl (e, k)) (λ _ k. absurd (cc)) (λ n k. inr (k, n))

one_moved : (g : Settings) (b d : ℕ) (u : Use) (s : State) → b < length s.uses → (u ≡ Open → (x : ℕ) → use_of s x ≡ Open → x ≡ b) → OneOpen s → OneOpen (move g b d u s)
one_moved g b d u s lb only o x y hx hy =
    let mx = moved_open g s b d x u lb hx in
    let my = moved_open g s b d y u lb hy in
    let ox = λ (e : u ≡ Open). only e x in
    let oy = λ (e : u ≡ Open). only e y in
    let both = o x y in
    grind arith

pub one_settled : (g : Settings) → Settled g OneOpen
unfolding erase_block
one_settled g = record {
  by_move = λ b d s hb l f o. one_moved g b d (use_of s b) s (busy_below s b hb) (λ e x hx. o x b hx e) o;
  by_dead = λ b s hb e o x y hx hy. o x y (freed_open s.uses b x (busy_below s b hb) hx).0 (freed_open s.uses b y (busy_below s b hb) hy).0;
}

pub one_level : (g : Settings) (turns : ℕ) (s : State) → OneOpen s → OneOpen (level_in turns g s)
unfolding turn_to end_round
one_level g = settle_level g OneOpen (one_settled g) (λ i s o. o) (λ s e o. o)

pub closes_open : (s : State) → OneOpen s → NoOpen (close_open s)
closes_open s o = close_open_by NoOpen s (λ none. none) (λ b l e x. unfold use_block in
    set_cases (λ v. v ≡ Open → ⊥) s.uses b x Closed Free l (λ _ h. absurd (cc)) (λ n h. n (o x b h e)))

pub closed_of : (u : Use) → (u ≡ Free → ⊥) → (u ≡ Open → ⊥) → u ≡ Closed
closed_of u f o = grind arith

-- where none is open and d alone is free, the other blocks are closed
pub others_closed : (s : State) (d : ℕ) → NoOpen s → ((x : ℕ) → x < length s.uses → use_of s x ≡ Free → x ≡ d) → (x : ℕ) → x < length s.uses → (x ≡ d → ⊥) → use_of s x ≡ Closed
others_closed s d nop only x l ne = closed_of (use_of s x) (λ e. ne (only x l e)) (nop x)

-- and of two blocks one is
pub some_closed : (s : State) (d : ℕ) → 2 ≤ length s.uses → NoOpen s → ((x : ℕ) → x < length s.uses → use_of s x ≡ Free → x ≡ d) → NoneIn Closed s → ⊥
some_closed s d two nop only none =
    let c = others_closed s d nop only in
    grind (arith, none 0, none 1, c 0, c 1)

-- what making room gives
pub record Opened (t : State) : Type 0 where
  pub one : OneOpen t
  pub has : HasOpen t
  pub holding : Holding t

opened_move : (g : Settings) (v d : ℕ) (s : State) → use_of s v ≡ Closed → d < length s.uses → use_of s d ≡ Free → NoOpen s → Holding s → Opened (move g v d Open s)
opened_move g v d s hv l hd nop h =
    let lv = busy_below s v (ap busy hv) in
    record {
      one = one_moved g v d Open s lv (λ _ x hx. absurd (nop x hx)) (λ x y hx hy. absurd (nop x hx));
      has = (d, omega (arith, move_long g v d Open s), moved_use (λ u. u ≡ Open) g v d Open s d lv l (λ _. refl) (λ n _. absurd (n refl)) (λ n _. absurd (n refl)));
      holding = holding_move g v d Open s (busy_not_free s v d (ap busy hv) hd) l h;
    }

opened_put : (d : ℕ) (s : State) → d < length s.uses → NoOpen s → Holding s → Opened (use_block d Open s)
unfolding use_block
opened_put d s l nop h = record {
  one = λ x y hx hy. is_d x hx ∙ sym (is_d y hy);
  has = (d, omega (arith, length-set s.uses d Open), get_or-set_same s.uses d Open Free l);
  holding = holding_put d Open s h;
}
  where
    is_d : (x : ℕ) → get_or (set s.uses d Open) x Free ≡ Open → x ≡ d
    is_d x h = set_by (λ v. v ≡ Open → x ≡ d) s.uses d x Open Free (λ e _. e) (λ k. absurd (nop x k)) h

holding_close : (s : State) → Holding s → Holding (close_open s)
holding_close s h = close_open_by Holding s (λ _. h) (λ b l e. holding_put b Closed s h)

pub close_long : (s : State) → length (close_open s).uses ≡ length s.uses
close_long s = close_open_by (λ t. length t.uses ≡ length s.uses) s (λ _. refl) (λ b l e. unfold use_block in length-set s.uses b Closed)

pub room_opened : (g : Settings) (r : BlockOrder) (s : State) → 2 ≤ length s.uses → SomeFree (close_open s) → OneOpen s → Holding s → Opened (make_room g r s)
room_opened g r s two sf o h =
    let t = close_open s in
    let nop = closes_open s o in
    let k = holding_close s h in
    make_room_by Opened s g r (λ b l e m. record { one = o; has = (b, l, e); holding = h }) (open_next_by Opened t g r
    (λ none. absurd (none sf.0 sf.1 sf.2))
    (λ d l f only. clean_by Opened t g r d (λ none. absurd (some_closed t d (omega (arith, close_long s)) nop only none)) (λ v lv e _. opened_move g v.number d t e l f nop k))
    (λ d c l f lc fc ne. opened_put d t l nop k))

stored : (q : Page) (s : State) → q.tag < length s.places → Opened s → OneOpen (store q s) × Holding (store q s)
stored q s tl op = store_by (λ t. OneOpen t × Holding t) s q (λ none. absurd (none op.has.0 op.has.2)) (λ b l e. (
  unfold program_page in op.one,
  record {
    valid = valid_program b q s (omega (arith, op.holding.long)) tl op.holding.valid;
    long = program_blocks b q s ∙ (unfold program_page in op.holding.long);
  },
))

pub held_write : (g : Settings) (n m turns : ℕ) (r : BlockOrder) (q : Page) (s : State) → 2 ≤ n → q.tag < length (make_room g r s).places → Ready g n m s → OneOpen s → Holding s
    → OneOpen (level_in turns g (store q (make_room g r s))) × Holding (level_in turns g (store q (make_room g r s)))
held_write g n m turns r q s two tl rd one h =
    let op = room_opened g r s (omega (arith, rd.sized.tables)) (closes g n m s rd).0.some one h in
    let st = stored q (make_room g r s) tl op in
    (one_level g turns _ st.0, holding_level g turns _ st.1)
