-- What a row of copies leaves of a chip, and that a relocation that was let begin is never refused on its way. Assumes nothing.
use Rattle.std.proofs.Common.{◌≡◌, ℕ, ◌+◌, ◌<◌, ◌≢◌, List, [], ◌∷◌, ◌++◌, length, get_or, take, Ok, sym, refl, ap, ◌∙◌, inl, inr, arith, length-append, length-set, length-take, get_or-set_other, get_or-set_same}
use Rattle.std.proofs.lemmas.List.{take_more, map-append, nil_from_length}
use Rattle.std.proofs.lemmas.Bool.{cases_lt}
use Rattle.std.proofs.lemmas.Bool.Decides.{nat_tests}
use Rattle.flash.specs.Meaning.{Flash, Page, Block, WellFormed, program, block, page, no_page, no_block, programmed, applies}
use Rattle.flash.specs.Calls.{erase_answer}
use Rattle.flash.specs.Tools.{copy_answer, copies, relocation, last_read}

-- a row of copies leaves N, P, D and E
pub record Alike (f h : Flash) : Type 0 where
  pub n : length h.blocks ≡ length f.blocks
  pub p : h.p ≡ f.p
  pub d : h.d ≡ f.d
  pub e : h.e ≡ f.e

pub copies_alike : (xs : List Page) (f : Flash) (to : ℕ) → Alike f (applies (copies to xs) f)
copies_alike [] f to = record { n = refl; p = refl; d = refl; e = refl }
copies_alike (x ∷ xs) f to =
    let k = copies_alike xs (programmed f to x) to in
    record { n = k.n ∙ length-set f.blocks to _; p = k.p; d = k.d; e = k.e }

-- it leaves the other blocks
pub copies_apart : (xs : List Page) (f : Flash) (b to : ℕ) → b ≢ to → block (applies (copies to xs) f) b ≡ block f b
copies_apart [] f b to ne = refl
copies_apart (x ∷ xs) f b to ne = copies_apart xs (programmed f to x) b to ne ∙ get_or-set_other f.blocks to b _ no_block ne

-- and it adds its pages to the block `to`
pub copies_grow : (xs : List Page) (f : Flash) (to : ℕ) → to < length f.blocks → length (block (applies (copies to xs) f) to).pages ≡ length (block f to).pages + length xs
copies_grow [] f to l = omega arith
copies_grow (x ∷ xs) f to l =
    let l' : to < length (programmed f to x).blocks = simp length-set l in
    let here = get_or-set_same f.blocks to (record { count = (block f to).count; pages = (block f to).pages ++ (x ∷ []) }) no_block l in
    copies_grow xs (programmed f to x) to l'
    ∙ ap (λ (y : Block). length y.pages + length xs) here
    ∙ (let s = length-append (block f to).pages (x ∷ []) in omega arith)

-- one copy more
pub copies_more : (xs : List Page) (i to : ℕ) → i < length xs → copies to (take i xs) ++ (program to (get_or xs i no_page) ∷ []) ≡ copies to (take (i + 1) xs)
copies_more xs i to h = sym (ap (copies to) (take_more xs i no_page h) ∙ map-append (program to) (take i xs) (get_or xs i no_page ∷ []))

last_push : (xs : List Page) (x : Page) (old : List ℕ) → last_read (xs ++ (x ∷ [])) old ≡ x.bytes
last_push [] x old = refl
last_push (y ∷ ys) x old = last_push ys x y.bytes

pub last_more : (xs : List Page) (i : ℕ) (old : List ℕ) → i < length xs → last_read (take (i + 1) xs) old ≡ (get_or xs i no_page).bytes
last_more xs i old h = ap (λ ys. last_read ys old) (take_more xs i no_page h) ∙ last_push (take i xs) (get_or xs i no_page) old

-- what the tests before a relocation have shown
pub record Movable (f : Flash) (b to n k : ℕ) : Type 0 where
  pub from : b < length f.blocks
  pub into : to < length f.blocks
  pub blank : length (block f to).pages ≡ 0
  pub sized : n ≡ f.d
  pub young : (block f b).count < f.e
  pub all : k ≡ length (block f b).pages

pub movable : (f : Flash) (b to n k : ℕ) → Ok k ≡ relocation f b to n → Movable f b to n k
movable f b to n k ok = record { from = grind arith; into = grind arith; blank = grind arith; sized = grind arith; young = grind arith; all = grind arith }

module _ (f : Flash) (formed : WellFormed f) (b to n k : ℕ) (m : Movable f b to n k) where
  -- a block with a page is not the blank one
  apart : 0 < length (block f b).pages → b ≢ to
  apart pos q = let z : length (block f b).pages ≡ 0 = ap (λ j. length (block f j).pages) q ∙ m.blank in omega arith

  -- the block stays as it was while its pages are copied
  stays : (i : ℕ) → block (applies (copies to (take i (block f b).pages)) f) b ≡ block f b
  stays i = elim (cases_lt 0 (length (block f b).pages)) [
    | inl pos ↦ copies_apart (take i (block f b).pages) f b to (apart pos)
    | inr z ↦ let none : length (take i (block f b).pages) ≡ 0 = simp length-take (omega arith) in
        ap (λ xs. block (applies (copies to xs) f) b) (nil_from_length (take i (block f b).pages) none)
  ]

  -- so its next page can be copied
  pub copy_goes : (i : ℕ) → i < length (block f b).pages → copy_answer (applies (copies to (take i (block f b).pages)) f) b i to n ≡ Ok tt
  copy_goes i lt =
      let xs = take i (block f b).pages in
      let h = applies (copies to xs) f in
      let a = copies_alike xs f to in
      let s = ap (λ (x : Block). length x.pages) (stays i) in
      let long : length xs ≡ i = simp length-take (omega arith) in
      let room = (formed.each b m.from).filled in
      let into : to < length h.blocks = omega (arith, a.n, m.into) in
      let more : length (block h to).pages < h.p = omega (arith, copies_grow xs f to m.into, m.blank, a.p) in
      let from : b < length h.blocks = omega (arith, a.n, m.from) in
      let within : i < h.p = omega (arith, a.p) in
      let there : i < length (block h b).pages = omega arith in
      let sized : n ≡ h.d = m.sized ∙ sym a.d in
      grind (arith, nat_tests)

  -- what is copied is the page as it was at the start
  pub page_stays : (i : ℕ) → page (applies (copies to (take i (block f b).pages)) f) b i ≡ page f b i
  page_stays i = ap (λ (x : Block). get_or x.pages i no_page) (stays i)

  -- and at the end the block can be erased
  pub erase_goes : (i : ℕ) → erase_answer (applies (copies to (take i (block f b).pages)) f) b ≡ Ok tt
  erase_goes i =
      let xs = take i (block f b).pages in
      let h = applies (copies to xs) f in
      let a = copies_alike xs f to in
      let s = ap (λ (x : Block). x.count) (stays i) in
      let from : b < length h.blocks = omega (arith, a.n, m.from) in
      let young : (block h b).count < h.e = omega (arith, a.e, m.young) in
      grind (arith, nat_tests)
