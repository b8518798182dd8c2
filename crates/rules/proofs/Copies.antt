-- Copying the live pages of a block leaves none of them named there, and all named pages written.
use Rattle.std.proofs.Common.{◌≡◌, ℕ, suc, ◌+◌, ◌<◌, ◌≤◌, true, false, List, [], ◌∷◌, ◌++◌, length, drop, get_or, Some, None, Option, ⊎_elim, sym, refl, ap, ◌∙◌, subst, arith}
use Rattle.std.proofs.lemmas.List.{length-set, length-drop, get_or-drop, drop-drop, get_or-set_same, get_or-set_other, length_push, get_or_push, get_or_append_left, get_or_past}
use Rattle.std.proofs.lemmas.Bool.{true≢false, cases_eq, cond_both}
use Rattle.std.proofs.lemmas.Option.{same_Some}
use Rattle.std.proofs.lemmas.Bool.Decides.{nat_tests}
use Rattle.flash.specs.Meaning.{Page, Block, no_block, no_page}
use Rattle.rules.specs.declared.Place.{Place}
use Rattle.rules.specs.Tables.{State}
use Rattle.rules.specs.Blocks.{names, live_from, live_pages}
use Rattle.rules.specs.Steps.{program_page, copy}
use Rattle.rules.proofs.StateFacts.{held}
use Rattle.rules.proofs.AfterSet.{set_by}
use Rattle.rules.proofs.Frame.{program_blocks}

abbrev pub at : ℕ → ℕ → Place
at b i = record { block = b; page = i }

abbrev pub page_at : State → ℕ → ℕ → Page
page_at s b i = get_or (held s b).pages i no_page

abbrev pub Named : State → ℕ → ℕ → ℕ → Type 0
Named s t b i = ◌≡◌ {A = Option Place} (get_or s.places t None) (Some (at b i))

abbrev pub Valid : State → Type 0
Valid s = (t b i : ℕ) → Named s t b i → (i < length (held s b).pages) × ((page_at s b i).tag ≡ t)

place_below : (m : List (Option Place)) (t : ℕ) (q : Place) → get_or m t None ≡ Some q → t < length m
place_below m t q h = grind (arith, get_or_past)

same_place : (b i b' i' : ℕ) → ◌≡◌ {A = Option Place} (Some (at b i)) (Some (at b' i')) → (b ≡ b') × (i ≡ i')
same_place b i b' i' e = let p = same_Some (at b i) (at b' i') e in (ap (λ (q : Place). q.block) p, ap (λ (q : Place). q.page) p)

pub names_is : (o : Option Place) (b i : ℕ) → names o b i ≡ true → o ≡ Some (at b i)
names_is None b i h = cc
names_is (Some q) b i h =
    let e₀ : q.block ≡ b = grind (arith, nat_tests) in
    let e₁ : q.page ≡ i = grind (arith, nat_tests) in
    λ k. Some (at (e₀ k) (e₁ k))

pub names_not : (o : Option Place) (b i : ℕ) → names o b i ≡ false → o ≡ Some (at b i) → ⊥
names_not o b i h e =
    let own : names (Some (at b i)) b i ≡ true = grind (arith, nat_tests) in
    true≢false (sym own ∙ ap (λ q. names q b i) (sym e) ∙ h)

module _ (d : ℕ) (q : Page) (s : State) (in_chip : d < length s.chip.blocks) where
  pub pages_same : (held (program_page d q s) d).pages ≡ (held s d).pages ++ q ∷ []
  unfolding program_page
  pages_same = ap (λ (c : Block). c.pages) (get_or-set_same s.chip.blocks d _ no_block in_chip)

  pub pages_other : (b : ℕ) → (b ≡ d → ⊥) → (held (program_page d q s) b).pages ≡ (held s b).pages
  unfolding program_page
  pages_other b h = ap (λ (c : Block). c.pages) (get_or-set_other s.chip.blocks d b _ no_block h)

  page_kept : (b i : ℕ) → i < length (held s b).pages → (page_at (program_page d q s) b i ≡ page_at s b i) × (i < length (held (program_page d q s) b).pages)
  unfolding program_page
  page_kept b i l = set_by (λ (c : Block). (get_or c.pages i no_page ≡ page_at s b i) × (i < length c.pages)) s.chip.blocks d b _ no_block
      (λ e. let l' : i < length (held s d).pages = subst (λ x. i < length (held s x).pages) e l in
      (get_or_append_left (held s d).pages (q ∷ []) no_page i l' ∙ ap (λ x. page_at s x i) (sym e), omega (arith, length_push (held s d).pages q)))
      (refl, l)

  place_same : q.tag < length s.places → Named (program_page d q s) q.tag d (length (held s d).pages)
  unfolding program_page
  place_same h = get_or-set_same s.places q.tag _ None h

  place_other : (t : ℕ) → (t ≡ q.tag → ⊥) → get_or (program_page d q s).places t None ≡ get_or s.places t None
  unfolding program_page
  place_other t h = get_or-set_other s.places q.tag t _ None h

  page_new : page_at (program_page d q s) d (length (held s d).pages) ≡ q
  page_new = ap (λ (ps : List Page). get_or ps (length (held s d).pages) no_page) pages_same ∙ get_or_push (held s d).pages q no_page (length (held s d).pages) refl

  pub valid_program : q.tag < length s.places → Valid s → Valid (program_page d q s)
  valid_program h v t b i nm = ⊎_elim
      (λ e. let p = same_place d (length (held s d).pages) b i (sym (place_same h) ∙ ap (λ x. get_or (program_page d q s).places x None) (sym e) ∙ nm) in (
        subst (λ x. i < length (held (program_page d q s) x).pages) p.0 (omega (arith, ap length pages_same, length_push (held s d).pages q, p.1)),
        ap (λ x. (page_at (program_page d q s) x i).tag) (sym p.0) ∙ ap (λ x. (page_at (program_page d q s) d x).tag) (sym p.1) ∙ ap (λ (x : Page). x.tag) page_new ∙ sym e,
      ))
      (λ e. let o = v t b i (sym (place_other t e) ∙ nm) in let k = page_kept b i o.0 in (k.1, ap (λ (x : Page). x.tag) k.0 ∙ o.1))
      (cases_eq t q.tag)

-- while the live pages of b are copied to d, those before page i being done: m is the map as it began
record Copying (m : List (Option Place)) (b d : ℕ) (rest : List Page) (i : ℕ) (s : State) : Type 0 where
  in_chip : d < length s.chip.blocks
  mapped : length s.places ≡ length m
  rest_is : drop i (held s b).pages ≡ rest
  left : (t k : ℕ) → Named s t b k → (i ≤ k) × (get_or m t None ≡ Some (at b k))
  valid : Valid s

pub record Copied (b : ℕ) (t : State) : Type 0 where
  pub valid : Valid t
  pub gone : (u k : ℕ) → Named t u b k → ⊥

pub program_places : (d : ℕ) (q : Page) (s : State) → length (program_page d q s).places ≡ length s.places
unfolding program_page
program_places d q s = length-set s.places q.tag _

module _ (m : List (Option Place)) (b d : ℕ) (ne : b ≡ d → ⊥) where
  module _ (q : Page) (qs : List Page) (i : ℕ) (s : State) (c : Copying m b d (q ∷ qs) i s) where
    q_is : page_at s b i ≡ q
    q_is = ap (page_at s b) (omega arith) ∙ sym (get_or-drop i (held s b).pages 0 no_page) ∙ ap (λ (ps : List Page). get_or ps 0 no_page) c.rest_is

    later : drop (suc i) (held s b).pages ≡ qs
    later = let e : suc i ≡ i + 1 = omega arith in ap (λ k. drop k (held s b).pages) e ∙ sym (drop-drop 1 i (held s b).pages) ∙ ap (drop 1) c.rest_is

    -- the tag of the page at i is q's
    tag_at : (t k : ℕ) → Named s t b k → k ≡ i → t ≡ q.tag
    tag_at t k h z = sym (c.valid t b k h).1 ∙ ap (λ y. (page_at s b y).tag) z ∙ ap (λ (x : Page). x.tag) q_is

    -- the page is live, and copied
    copied : names (get_or m q.tag None) b i ≡ true → Copying m b d qs (suc i) (program_page d q s)
    copied e =
        let s₁ = program_page d q s in
        let tl : q.tag < length s.places = omega (arith, place_below m q.tag (at b i) (names_is (get_or m q.tag None) b i e), c.mapped) in
        let same = pages_other d q s c.in_chip b ne in
        let other : (t k : ℕ) → Named s₁ t b k → t ≡ q.tag → ⊥ = λ t k h e'.
        ne (sym (same_place d _ b k (sym (place_same d q s c.in_chip tl) ∙ ap (λ x. get_or s₁.places x None) (sym e') ∙ h)).0) in
        record {
          in_chip = omega (arith, c.in_chip, program_blocks d q s);
          mapped = program_places d q s ∙ c.mapped;
          rest_is = ap (drop (suc i)) same ∙ later;
          left = λ t k h.
              (let h₀ : Named s t b k = sym (place_other d q s c.in_chip t (other t k h)) ∙ h in
              let w = c.left t k h₀ in
              let ki : k ≡ i → ⊥ = λ z. other t k h (tag_at t k h₀ z) in
              (omega (arith, w.0), w.1));
          valid = valid_program d q s c.in_chip tl c.valid;
        }

    -- the page is not live
    passed : names (get_or m q.tag None) b i ≡ false → Copying m b d qs (suc i) s
    passed e = record {
      in_chip = c.in_chip;
      mapped = c.mapped;
      rest_is = later;
      left = λ t k h.
          (let w = c.left t k h in
          let ki : k ≡ i → ⊥ = λ z. names_not (get_or m q.tag None) b i e (ap (λ y. get_or m y None) (sym (tag_at t k h z)) ∙ w.1 ∙ ap (λ y. Some (at b y)) z) in
          (omega (arith, w.0), w.1));
      valid = c.valid;
    }

  copying : (rest : List Page) (i : ℕ) (s : State) → Copying m b d rest i s → Copied b (copy d (live_from m b i rest) s)
  unfolding copy
  copying [] i s c = record { valid = c.valid; gone = λ u k h. omega (arith, (c.left u k h).0, (c.valid u b k h).0, length-drop i (held s b).pages, ap length c.rest_is) }
  copying (q ∷ qs) i s c = cond_both (names (get_or m q.tag None) b i) (q ∷ live_from m b (suc i) qs) (live_from m b (suc i) qs) (λ ps. Copied b (copy d ps s))
      (λ e. copying qs (suc i) (program_page d q s) (copied q qs i s c e)) (λ e. copying qs (suc i) s (passed q qs i s c e))

-- the live pages of b, copied to another block
pub copies : (b d : ℕ) (s : State) → (b ≡ d → ⊥) → d < length s.chip.blocks → Valid s → Copied b (copy d (live_pages s b) s)
copies b d s ne l v = copying s.places b d ne (held s b).pages 0 s (record {
  in_chip = l;
  mapped = refl;
  rest_is = refl;
  left = λ t k h. (omega arith, h);
  valid = v;
})
