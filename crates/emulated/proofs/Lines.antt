-- The chip of tables, line by line. Assumes nothing.
use Rattle.std.proofs.Common.{◌≡◌, ℕ, ◌<◌, ◌≤◌, ◌≢◌, List, map, length, get_or, set, replicate, Ok, Err, Result, sym, ap, ◌∙◌, inl, inr, arith, length-set, get_or-set_other, get_or-set_same}
use lib.ListN.{length-replicate, get_or-replicate}
use Rattle.std.specs.List.{range_with_len}
use Rattle.std.proofs.lemmas.List.FromFn.{length-map-range_with_len, get_or-map-range_with_len, fill_by_all}
use Rattle.std.proofs.lemmas.Bool.{cases_eq}
use Rattle.std.proofs.lemmas.Bool.Decides.{nat_tests}
use Rattle.flash.specs.declared.Refusal.{Refusal}
use Rattle.flash.specs.declared.Refusal.TheVariants.{Outside}
use Rattle.flash.specs.declared.Geometry.{Geometry}
use Rattle.flash.specs.Meaning.{Flash, Block, geometry_of, blank, no_block, no_page, block, page}
use Rattle.flash.specs.Calls.{in_block, in_page}
use Rattle.emulated.specs.declared.Line.{Line}
use Rattle.emulated.specs.Held.{held, block_at, page_at, line, no_line, line_of, page_in, place}
use Rattle.emulated.specs.Laws.{blocks_are, block_is, written_are, page_is}

-- two functions that agree below m make the same list
pub map_same : {X : Type 0} (f g : ℕ → X) (m : ℕ) (d : X) → ((j : ℕ) → j < m → f j ≡ g j) → map f (range_with_len 0 m) ≡ map g (range_with_len 0 m)
map_same f g m d same = fill_by_all g (map f (range_with_len 0 m)) m d (length-map-range_with_len f 0 m) (λ k h. get_or-map-range_with_len f 0 m k k d h (omega arith) ∙ same k h)

-- a list made from a function, written at one place
pub counted_set : {X : Type 0} (f g : ℕ → X) (n b : ℕ) (x d : X) → b < n → g b ≡ x → ((k : ℕ) → k ≢ b → g k ≡ f k) → map g (range_with_len 0 n) ≡ set (map f (range_with_len 0 n)) b x
counted_set f g n b x d lt here there =
    sym (fill_by_all g (set (map f (range_with_len 0 n)) b x) n d (simp length-set (length-map-range_with_len f 0 n))
    (λ k h. elim (cases_eq k b) [
      | inl q ↦ let l : b < length (map f (range_with_len 0 n)) = omega (arith, length-map-range_with_len f 0 n) in
          ap (λ j. get_or (set (map f (range_with_len 0 n)) b x) j d) q ∙ get_or-set_same (map f (range_with_len 0 n)) b x d l ∙ sym here ∙ ap g (sym q)
      | inr ne ↦ get_or-set_other (map f (range_with_len 0 n)) b k x d ne ∙ get_or-map-range_with_len f 0 n k k d h (omega arith) ∙ sym (there k ne)
    ]))

-- tables of blank lines hold a blank chip
pub held_blank : (g : Geometry) (tags bytes : List ℕ) → g.blocks ≤ 256 → held g (replicate 256 no_line) tags bytes ≡ blank g
held_blank g tags bytes few =
    ap (λ (bs : List Block). record { p = g.pages; d = g.size; e = g.rated; blocks = bs })
    (sym (fill_by_all (block_at g (replicate 256 no_line) tags bytes) (replicate g.blocks no_block) g.blocks no_block (length-replicate g.blocks no_block)
    (λ k h.
    let blank_line : line (replicate 256 no_line) k ≡ no_line = get_or-replicate 256 k no_line no_line (omega arith) in
    get_or-replicate g.blocks k no_block no_block h
    ∙ sym (ap (λ (l : Line). record { count = l.erases; pages = map (page_at g tags bytes k) (range_with_len 0 l.written) }) blank_line))))

pub geometry_is : (g : Geometry) (lines : List Line) (tags bytes : List ℕ) → g ≡ geometry_of (held g lines tags bytes)
geometry_is g lines tags bytes = sym (ap (λ n. record { blocks = n; pages = g.pages; size = g.size; rated = g.rated }) (blocks_are g lines tags bytes))

-- what is answered of a block, or of a page, that is not refused
pub block_ok : {T : Type 0} (f : Flash) (b : ℕ) (x y : T) → Ok x ≡ in_block f b (Ok y) → x ≡ y
block_ok f b x y q = grind (arith, nat_tests)

pub page_ok : {T : Type 0} (f : Flash) (b i : ℕ) (x y : T) → Ok x ≡ in_page f b i (Ok y) → x ≡ y
page_ok f b i x y q = grind (arith, nat_tests)

module _ (g : Geometry) (lines : List Line) (tags bytes : List ℕ) (b : ℕ) where
  -- the line of a block is what the held block has
  pub line_is : b < g.blocks → line lines b ≡ line_of (block (held g lines tags bytes) b)
  line_is h = sym (ap line_of (block_is g lines tags bytes b h) ∙ ap (λ w. record { erases = (line lines b).erases; written = w }) (written_are g lines tags bytes b))

  pub in_is : {T : Type 0} (x y : T) → b < g.blocks → x ≡ y → Ok x ≡ in_block (held g lines tags bytes) b (Ok y)
  in_is x y h q = let n = blocks_are g lines tags bytes in grind (arith, nat_tests)

  pub out_is : {T : Type 0} (r : Result T Refusal) → g.blocks ≤ b → Err Outside ≡ in_block (held g lines tags bytes) b r
  out_is r h = let n = blocks_are g lines tags bytes in grind (arith, nat_tests)

  pub page_found : (i : ℕ) → b < g.blocks → i < (line lines b).written → page (held g lines tags bytes) b i ≡ page_in g.size tags bytes (place g.pages b i)
  page_found i h w = ap (λ (x : Block). get_or x.pages i no_page) (block_is g lines tags bytes b h) ∙ page_is g lines tags bytes b i w
