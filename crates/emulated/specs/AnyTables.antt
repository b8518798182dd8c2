-- The chip of any tables and any memory, which is what an `Emulated` means: a count past E reads as E, a number of written pages past P as P, and a tag as its low 16 bits.
-- It is well formed, and tables that keep their bounds are read as they are (`held_as_any`). These are proofs, with nothing in them to believe.
use Rattle.std.specs.Prelude.{◌≡◌, ℕ, ◌*◌, ◌%◌, ◌<◌, ◌≤◌, min, List, map, take, drop, length, slice_index, slice_index_or}
use Rattle.std.specs.List.{range_with_len}
use Rattle.std.proofs.Common.{sym, ap, ◌∙◌, subst, arith, length-take, length-drop}
use Rattle.std.proofs.lemmas.List.FromFn.{length-map-range_with_len, get_or-map-range_with_len}
use Rattle.flash.specs.declared.Geometry.{Geometry}
use Rattle.flash.specs.Meaning.{Flash, Block, Page, WellFormed, BlockFits, PageFits, no_block, no_page, block}
use Rattle.emulated.specs.declared.Line.{Line}
use Rattle.std.specs.List.{All}
use Rattle.std.proofs.lemmas.List.{get_or-map, ext_get_or}
use Rattle.emulated.specs.Held as plain
use Rattle.emulated.specs.Held.{served, place, LineFits, no_line, Room}
use Rattle.emulated.specs.Laws.{place_lt, bytes_in, served_room}

abbrev pub page_at : ℕ → ℕ → List ℕ → List ℕ → ℕ → ℕ → Page
page_at p d tags bytes b i = record { tag = slice_index tags (place p b i) % 65536; bytes = take d (drop (place p b i * d) bytes) }

abbrev pub block_at : ℕ → ℕ → ℕ → List ℕ → List ℕ → List ℕ → List ℕ → ℕ → Block
block_at p d e counts written tags bytes b = record { count = min (slice_index counts b) e; pages = map (page_at p d tags bytes b) (range_with_len 0 (min (slice_index written b) p)) }

abbrev pub chip_of : ℕ → ℕ → ℕ → ℕ → List ℕ → List ℕ → List ℕ → List ℕ → Flash
chip_of n p d e counts written tags bytes = record { p = p; d = d; e = e; blocks = map (block_at p d e counts written tags bytes) (range_with_len 0 n) }

abbrev pub held : Geometry → List ℕ → List ℕ → List ℕ → List ℕ → Flash
held g counts written tags bytes = chip_of g.blocks g.pages g.size g.rated counts written tags bytes

module _ (n p d e : ℕ) (counts written tags bytes : List ℕ) where
  pub blocks_are : length (chip_of n p d e counts written tags bytes).blocks ≡ n
  blocks_are = length-map-range_with_len (block_at p d e counts written tags bytes) 0 n

  pub block_is : (b : ℕ) → b < n → block (chip_of n p d e counts written tags bytes) b ≡ block_at p d e counts written tags bytes b
  block_is b h = get_or-map-range_with_len (block_at p d e counts written tags bytes) 0 n b b no_block h (omega arith)

  pub written_are : (b : ℕ) → length (block_at p d e counts written tags bytes b).pages ≡ min (slice_index written b) p
  written_are b = length-map-range_with_len (page_at p d tags bytes b) 0 (min (slice_index written b) p)

  pub page_is : (b i : ℕ) → i < min (slice_index written b) p → slice_index_or (block_at p d e counts written tags bytes b).pages i no_page ≡ page_at p d tags bytes b i
  page_is b i h = get_or-map-range_with_len (page_at p d tags bytes b) 0 (min (slice_index written b) p) i i no_page h (omega arith)

  pub chip_formed : n ≤ 65535 → (n * p) * d ≤ length bytes → WellFormed (chip_of n p d e counts written tags bytes)
  chip_formed few room = record {
    few = subst (λ m. m ≤ 65535) (sym blocks_are) few;
    each = λ b h.
        let lb : b < n = subst (λ m. b < m) blocks_are h in
        subst (λ x. BlockFits p d e x) (sym (block_is b lb)) (record {
          worn = omega arith;
          filled = omega (arith, written_are b);
          each = λ i hi.
              let li : i < min (slice_index written b) p = subst (λ m. i < m) (written_are b) hi in
              let lp : i < p = omega arith in
              subst (λ (x : Page). PageFits d x) (sym (page_is b i li)) (record {
                tagged = omega arith;
                sized = simp (length-take, length-drop) (omega (arith, bytes_in n p d b i lb lp));
              });
        });
  }

pub held_formed : (g : Geometry) (counts written tags bytes : List ℕ) → WellFormed (held (served g (length tags) (length bytes)) counts written tags bytes)
held_formed g counts written tags bytes =
    let s = served g (length tags) (length bytes) in
    let r = served_room g (length tags) (length bytes) in
    let few : s.blocks ≤ 65535 = omega (arith, r.few) in
    chip_formed s.blocks s.pages s.size s.rated counts written tags bytes few r.room

-- maps of the same numbers that agree on each
map_range_same : {X : Type 0} (d : X) (f h : ℕ → X) (n : ℕ) → ((b : ℕ) → b < n → f b ≡ h b) → map f (range_with_len 0 n) ≡ map h (range_with_len 0 n)
map_range_same d f h n same = ext_get_or d (map f (range_with_len 0 n)) (map h (range_with_len 0 n)) (length-map-range_with_len f 0 n ∙ sym (length-map-range_with_len h 0 n))
    (λ i lt. let l : i < n = omega (arith, lt, length-map-range_with_len f 0 n) in
    get_or-map-range_with_len f 0 n i i d l (omega arith) ∙ same i l ∙ sym (get_or-map-range_with_len h 0 n i i d l (omega arith)))

-- tables and tags that keep their bounds are read as they are: the chip held is the one of any tables
pub held_as_any : (g : Geometry) (lines : List Line) (tags bytes : List ℕ) → g.blocks ≤ length lines → Room g (length tags) (length bytes) → All (LineFits g) lines → All (λ t. t < 65536) tags
    → plain.held g lines tags bytes ≡ held g (map (λ l. l.erases) lines) (map (λ l. l.written) lines) tags bytes
held_as_any g lines tags bytes long has fit tagged = λ i. record {
  p = g.pages;
  d = g.size;
  e = g.rated;
  blocks = map_range_same no_block (plain.block_at g lines tags bytes) (block_at g.pages g.size g.rated (map (λ l. l.erases) lines) (map (λ l. l.written) lines) tags bytes) g.blocks each i;
}
  where
    each : (b : ℕ) → b < g.blocks → plain.block_at g lines tags bytes b ≡ block_at g.pages g.size g.rated (map (λ l. l.erases) lines) (map (λ l. l.written) lines) tags bytes b
    each b h =
        let lb : b < length lines = omega arith in
        let f = fit b no_line lb in
        let count : (plain.line lines b).erases ≡ min (slice_index (map (λ l. l.erases) lines) b) g.rated = omega (arith, f.0, get_or-map (λ (l : Line). l.erases) lines b no_line 0 lb) in
        let few : (plain.line lines b).written ≡ min (slice_index (map (λ l. l.written) lines) b) g.pages = omega (arith, f.1, get_or-map (λ (l : Line). l.written) lines b no_line 0 lb) in
        let pages = map_range_same no_page (plain.page_at g tags bytes b) (page_at g.pages g.size tags bytes b) (plain.line lines b).written (λ i hi.
        let lp : i < g.pages = omega (arith, f.1) in
        let t : slice_index tags (place g.pages b i) < 65536 = tagged (place g.pages b i) 0 (omega (arith, has.tagroom, place_lt g.blocks g.pages b i h lp)) in
        let cut : slice_index tags (place g.pages b i) ≡ slice_index tags (place g.pages b i) % 65536 = omega (arith, t) in
        λ k. record { tag = cut k; bytes = take g.size (drop (place g.pages b i * g.size) bytes) }) in
        λ k. record { count = count k; pages = (pages ∙ ap (λ w. map (page_at g.pages g.size tags bytes b) (range_with_len 0 w)) few) k }
