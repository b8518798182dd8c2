-- What one of two chips answers, or becomes, is what their pair answers, or becomes. Assumes nothing.
use Rattle.std.proofs.Common.{◌≡◌, ℕ, suc, ◌+◌, ◌-◌, ◌<◌, ◌≤◌, Bool, true, false, cond, ltb, [], ◌∷◌, ◌++◌, length, get_or, Ok, Err, Result, sym, refl, ap, ◌∙◌, subst, arith, length-append, length-set}
use Rattle.std.proofs.lemmas.List.{get_or_append_left, get_or-append_right, set-append_left, set-append_right}
use Rattle.std.proofs.lemmas.Bool.Decides.{nat_tests}
use Rattle.flash.specs.declared.Refusal.{Refusal}
use Rattle.flash.specs.declared.Refusal.TheVariants.{Outside, OutOfTurn, WrongLength, WornOut}
use Rattle.flash.specs.Meaning.{Flash, Block, Page, no_block, no_page, no_chip, geometry_of, block, with_block, programmed, erased}
use Rattle.flash.specs.Calls.{below, equal, in_block, after, tag_answer, program_answer, program_chip, erase_answer, erase_chip}
use Rattle.pair.specs.declared.Half.{Half}
use Rattle.pair.specs.declared.Half.TheVariants.{First, Second}
use Rattle.pair.specs.Joined.{joins, both, joined, half_of}
use Rattle.pair.specs.Laws.{alike}

-- block b of the chip `whole h` is block j of h, which is a part of it
pub record Part (whole : Flash → Flash) (h : Flash) (j b : ℕ) : Type 0 where
  pub p : h.p ≡ (whole h).p
  pub d : h.d ≡ (whole h).d
  pub e : h.e ≡ (whole h).e
  pub test : ltb j (length h.blocks) ≡ ltb b (length (whole h).blocks)
  pub held : block h j ≡ block (whole h) b
  pub put : (x : Block) → whole (with_block h j x) ≡ with_block (whole h) b x

-- what the half that has a block shows
pub record Found (f g : Flash) (b : ℕ) (half : Half) : Type 0 where
  pub join : joins (geometry_of f) (geometry_of g) ≡ true
  pub is : half ≡ cond (ltb b (length f.blocks)) (First b) (Second (b - length f.blocks))

pub found : (f g : Flash) (b : ℕ) (half : Half) → Ok half ≡ half_of (geometry_of f) (geometry_of g) b → Found f g b half
found f g b half e = go (joins (geometry_of f) (geometry_of g)) refl e
  where
    go : (t : Bool) → joins (geometry_of f) (geometry_of g) ≡ t
        → Ok half ≡ cond t (Ok (cond (ltb b (length f.blocks)) (First b) (Second (b - length f.blocks)))) (Err Outside) → Found f g b half
    go true q k = record { join = q; is = cc }
    go false q k = cc

below_first : (n b j : ℕ) → First j ≡ cond (ltb b n) (First b) (Second (b - n)) → (b < n) × (j ≡ b)
below_first n b j q = grind (arith, nat_tests)

from_second : (n b j : ℕ) → Second j ≡ cond (ltb b n) (First b) (Second (b - n)) → (n ≤ b) × (j ≡ b - n)
from_second n b j q = grind (arith, nat_tests)

module _ (f g : Flash) (join : joins (geometry_of f) (geometry_of g) ≡ true) where
  pub joined_is : both f g ≡ joined f g
  joined_is = ap (λ t. cond t (both f g) no_chip) (sym join)

  long : length (joined f g).blocks ≡ length f.blocks + length g.blocks
  long = ap (λ (h : Flash). length h.blocks) (sym joined_is) ∙ length-append f.blocks g.blocks

  pub part_below : (b : ℕ) → b < length f.blocks → Part (λ z. joined z g) f b b
  part_below b l = record {
    p = ap (λ (h : Flash). h.p) joined_is;
    d = ap (λ (h : Flash). h.d) joined_is;
    e = ap (λ (h : Flash). h.e) joined_is;
    test = let n = long in grind (arith, nat_tests);
    held = sym (get_or_append_left f.blocks g.blocks no_block b l) ∙ ap (λ h. block h b) joined_is;
    put = λ x.
        let still : joins (geometry_of (with_block f b x)) (geometry_of g) ≡ true = simp length-set join in
        ap (λ t. cond t (both (with_block f b x) g) no_chip) still
        ∙ ap (λ bs. record { p = f.p; d = f.d; e = f.e; blocks = bs }) (sym (set-append_left f.blocks g.blocks b x l))
        ∙ ap (λ h. with_block h b x) joined_is;
  }

  pub part_from : (b : ℕ) → length f.blocks ≤ b → Part (joined f) g (b - length f.blocks) b
  part_from b l = record {
    p = sym (alike f g join).p ∙ ap (λ (h : Flash). h.p) joined_is;
    d = sym (alike f g join).d ∙ ap (λ (h : Flash). h.d) joined_is;
    e = sym (alike f g join).e ∙ ap (λ (h : Flash). h.e) joined_is;
    test = let n = long in grind (arith, nat_tests);
    held = sym (get_or-append_right f.blocks g.blocks (length f.blocks) b no_block refl l) ∙ ap (λ h. block h b) joined_is;
    put = λ x.
        let still : joins (geometry_of f) (geometry_of (with_block g (b - length f.blocks) x)) ≡ true = simp length-set join in
        ap (λ t. cond t (both f (with_block g (b - length f.blocks) x)) no_chip) still
        ∙ ap (λ bs. record { p = f.p; d = f.d; e = f.e; blocks = bs }) (sym (set-append_right f.blocks g.blocks (length f.blocks) b x refl l))
        ∙ ap (λ h. with_block h b x) joined_is;
  }

pub first_part : (f g : Flash) (b j : ℕ) (half : Half) → Ok half ≡ half_of (geometry_of f) (geometry_of g) b → half ≡ First j → Part (λ z. joined z g) f j b
first_part f g b j half e is =
    let h = found f g b (First j) (ap (λ (x : Half). Ok x) (sym is) ∙ e) in
    let at = below_first (length f.blocks) b j h.is in
    subst (λ k. Part (λ z. joined z g) f k b) (sym at.1) (part_below f g h.join b at.0)

pub second_part : (f g : Flash) (b j : ℕ) (half : Half) → Ok half ≡ half_of (geometry_of f) (geometry_of g) b → half ≡ Second j → Part (joined f) g j b
second_part f g b j half e is =
    let h = found f g b (Second j) (ap (λ (x : Half). Ok x) (sym is) ∙ e) in
    let at = from_second (length f.blocks) b j h.is in
    subst (λ k. Part (joined f) g k b) (sym at.1) (part_from f g h.join b at.0)

-- a change that is made only where the call is obeyed
pub after_part : {T X Y : Type 0} (whole : X → Y) (a : Result T Refusal) (new old : X) (next : Y) → whole new ≡ next → whole (after a new old) ≡ after a next (whole old)
after_part whole (Ok x) new old next made = made
after_part whole (Err e) new old next made = refl

module _ {whole : Flash → Flash} {h : Flash} {j b : ℕ} (m : Part whole h j b) where
  -- an answer that rests on P, D, E and the named block alone, as all of them do
  pub answer_part : {T : Type 0} (F : ℕ → ℕ → ℕ → Block → Result T Refusal)
      → in_block h j (F h.p h.d h.e (block h j)) ≡ in_block (whole h) b (F (whole h).p (whole h).d (whole h).e (block (whole h) b))
  answer_part F =
      ap (λ t. cond t (F h.p h.d h.e (block h j)) (Err Outside)) m.test
      ∙ ap (λ p. in_block (whole h) b (F p h.d h.e (block h j))) m.p
      ∙ ap (λ d. in_block (whole h) b (F (whole h).p d h.e (block h j))) m.d
      ∙ ap (λ e. in_block (whole h) b (F (whole h).p (whole h).d e (block h j))) m.e
      ∙ ap (λ x. in_block (whole h) b (F (whole h).p (whole h).d (whole h).e x)) m.held

  pub tag_part : (i : ℕ) → tag_answer h j i ≡ tag_answer (whole h) b i
  tag_part i = answer_part (λ p d e x. below i p Outside (below i (length x.pages) OutOfTurn (Ok (get_or x.pages i no_page).tag)))

  program_part : (i n : ℕ) → program_answer h j i n ≡ program_answer (whole h) b i n
  program_part i n = answer_part (λ p d e x. below i p Outside (equal i (length x.pages) OutOfTurn (equal n d WrongLength (Ok tt))))

  erase_part : erase_answer h j ≡ erase_answer (whole h) b
  erase_part = answer_part (λ p d e x. below x.count e WornOut (Ok tt))

  pub erased_part : whole (erased h j) ≡ erased (whole h) b
  erased_part = m.put _ ∙ ap (λ (x : Block). with_block (whole h) b (record { count = suc x.count; pages = [] })) m.held

  pub programmed_part : (x : Page) → whole (programmed h j x) ≡ programmed (whole h) b x
  programmed_part x = m.put _ ∙ ap (λ (y : Block). with_block (whole h) b (record { count = y.count; pages = y.pages ++ (x ∷ []) })) m.held

  pub erase_chip_part : (left : Flash) → left ≡ erase_chip h j → whole left ≡ erase_chip (whole h) b
  erase_chip_part left q =
      ap whole q ∙ after_part whole (erase_answer h j) (erased h j) h (erased (whole h) b) erased_part
      ∙ ap (λ a. after a (erased (whole h) b) (whole h)) erase_part

  pub program_chip_part : (left : Flash) (i : ℕ) (x : Page) → left ≡ program_chip h j i x → whole left ≡ program_chip (whole h) b i x
  program_chip_part left i x q =
      ap whole q ∙ after_part whole (program_answer h j i (length x.bytes)) (programmed h j x) h (programmed (whole h) b x) (programmed_part x)
      ∙ ap (λ a. after a (programmed (whole h) b x) (whole h)) (program_part i (length x.bytes))
