-- What an erase and a program make of the tables and the memory. Assumes nothing.
use Rattle.std.proofs.Common.{◌≡◌, ℕ, suc, ◌+◌, ◌*◌, ◌<◌, ◌≢◌, List, [], ◌∷◌, ◌++◌, map, length, get_or, take, drop, set, sym, ap, ◌∙◌, inl, inr, mul-le-mul_right, suc-mul, arith, get_or-set_other, get_or-set_same}
use Rattle.std.specs.List.{All, range_with_len}
use Rattle.std.proofs.lemmas.List.FromFn.{map-range_with_len_more}
use Rattle.std.proofs.lemmas.Bool.{cases_lt}
use Rattle.flash.specs.declared.Geometry.{Geometry}
use Rattle.flash.specs.Meaning.{Block, no_block, no_page, page_of, block, erased, programmed}
use Rattle.emulated.specs.declared.Line.{Line}
use Rattle.emulated.specs.Held.{held, block_at, page_at, place, line, no_line, LineFits}
use Rattle.emulated.specs.Laws.{block_is, line_fits}
use Rattle.emulated.proofs.Lines.{counted_set, map_same}

-- a blank line with one erase more
pub erase_makes : (g : Geometry) (lines : List Line) (tags bytes : List ℕ) (b : ℕ) → b < g.blocks → b < length lines
    → held g (set lines b (record { erases = (line lines b).erases + 1; written = 0 })) tags bytes ≡ erased (held g lines tags bytes) b
erase_makes g lines tags bytes b h lb =
    let new : Line = record { erases = (line lines b).erases + 1; written = 0 } in
    ap (λ (bs : List Block). record { p = g.pages; d = g.size; e = g.rated; blocks = bs })
    (counted_set (block_at g lines tags bytes) (block_at g (set lines b new) tags bytes) g.blocks b (record { count = suc (block (held g lines tags bytes) b).count; pages = [] }) no_block h
    (ap (λ (l : Line). record { count = l.erases; pages = map (page_at g tags bytes b) (range_with_len 0 l.written) }) (get_or-set_same lines b new no_line lb)
    ∙ ap (λ k. record { count = k; pages = [] }) (let once : (line lines b).erases + 1 ≡ suc (line lines b).erases = omega arith in once)
    ∙ ap (λ (x : Block). record { count = suc x.count; pages = [] }) (sym (block_is g lines tags bytes b h)))
    (λ k ne. ap (λ (l : Line). record { count = l.erases; pages = map (page_at g tags bytes k) (range_with_len 0 l.written) }) (get_or-set_other lines b k new no_line ne)))

-- pages of two blocks lie apart
places_apart : (p k j b i : ℕ) → j < p → i < p → k ≢ b → place p k j ≢ place p b i
places_apart p k j b i lj li ne q = elim (cases_lt k b) [
  | inl l ↦ omega (arith, mul-le-mul_right {m = suc k} {n = b} p l, suc-mul k p)
  | inr l ↦ let r : b < k = omega arith in omega (arith, mul-le-mul_right {m = suc b} {n = k} p r, suc-mul b p)
]

-- the bytes `after` are `bytes` with xs in the place of page i of block b, which is the block's next one
module _ (g : Geometry) (lines : List Line) (tags bytes after : List ℕ) (b i t : ℕ) (xs : List ℕ)
    (fit : All (LineFits g) lines) (h : b < g.blocks) (li : i < g.pages) (w : i ≡ (line lines b).written)
    (lb : b < length lines) (lt : place g.pages b i < length tags)
    (put : take g.size (drop (place g.pages b i * g.size) after) ≡ xs)
    (others : (q : ℕ) → q ≢ place g.pages b i → take g.size (drop (q * g.size) after) ≡ take g.size (drop (q * g.size) bytes)) where
  page_other : (k j : ℕ) → place g.pages k j ≢ place g.pages b i → page_at g (set tags (place g.pages b i) t) after k j ≡ page_at g tags bytes k j
  page_other k j ne =
      ap (λ x. page_of x (take g.size (drop (place g.pages k j * g.size) after))) (get_or-set_other tags (place g.pages b i) (place g.pages k j) t 0 ne)
      ∙ ap (page_of (get_or tags (place g.pages k j) 0)) (others (place g.pages k j) ne)

  page_here : page_at g (set tags (place g.pages b i) t) after b i ≡ page_of t xs
  page_here =
      ap (λ x. page_of x (take g.size (drop (place g.pages b i * g.size) after))) (get_or-set_same tags (place g.pages b i) t 0 lt)
      ∙ ap (page_of t) put

  abbrev next : Line
  next = record { erases = (line lines b).erases; written = i + 1 }

  block_other : (k : ℕ) → k ≢ b → block_at g (set lines b next) (set tags (place g.pages b i) t) after k ≡ block_at g lines tags bytes k
  block_other k ne =
      ap (λ (l : Line). record { count = l.erases; pages = map (page_at g (set tags (place g.pages b i) t) after k) (range_with_len 0 l.written) }) (get_or-set_other lines b k next no_line ne)
      ∙ ap (λ ps. record { count = (line lines k).erases; pages = ps })
      (map_same (page_at g (set tags (place g.pages b i) t) after k) (page_at g tags bytes k) (line lines k).written no_page
      (λ j lj. let f = line_fits g lines fit k in let l : j < g.pages = omega (arith, f.1) in page_other k j (places_apart g.pages k j b i l li ne)))

  pages_here : map (page_at g (set tags (place g.pages b i) t) after b) (range_with_len 0 (i + 1)) ≡ (block_at g lines tags bytes b).pages ++ (page_of t xs ∷ [])
  pages_here =
      map-range_with_len_more (page_at g (set tags (place g.pages b i) t) after b) 0 i i (omega arith)
      ∙ ap (λ x. map (page_at g (set tags (place g.pages b i) t) after b) (range_with_len 0 i) ++ (x ∷ [])) page_here
      ∙ ap (λ ps. ps ++ (page_of t xs ∷ []))
      (map_same (page_at g (set tags (place g.pages b i) t) after b) (page_at g tags bytes b) i no_page
      (λ j lj. page_other b j (λ q. let z : ⊥ = omega arith in z))
      ∙ ap (λ m. map (page_at g tags bytes b) (range_with_len 0 m)) w)

  pub program_makes : held g (set lines b (record { erases = (line lines b).erases; written = i + 1 })) (set tags (place g.pages b i) t) after ≡ programmed (held g lines tags bytes) b (page_of t xs)
  program_makes =
      ap (λ (bs : List Block). record { p = g.pages; d = g.size; e = g.rated; blocks = bs })
      (counted_set (block_at g lines tags bytes) (block_at g (set lines b next) (set tags (place g.pages b i) t) after) g.blocks b _ no_block h
      (ap (λ (l : Line). record { count = l.erases; pages = map (page_at g (set tags (place g.pages b i) t) after b) (range_with_len 0 l.written) }) (get_or-set_same lines b next no_line lb)
      ∙ ap (λ ps. record { count = (line lines b).erases; pages = ps }) pages_here
      ∙ ap (λ (x : Block). record { count = x.count; pages = x.pages ++ (page_of t xs ∷ []) }) (sym (block_is g lines tags bytes b h)))
      block_other)
