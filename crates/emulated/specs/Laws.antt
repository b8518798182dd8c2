-- The chip of tables and memory that suffice is well formed. These are proofs, with nothing in them to believe.
use Rattle.std.specs.Prelude.{◌≡◌, ℕ, suc, ◌+◌, ◌*◌, ◌<◌, ◌≤◌, Bool, true, false, cond, ◌&&◌, List, length, nat_le, slice_index_or, refl}
use Rattle.std.specs.List.{All}
use Rattle.std.proofs.Common.{◌⊎◌, sym, subst, ap, inl, inr, arith, mul-le-mul_right, suc-mul, leb-true, length-take, length-drop}
use Rattle.std.proofs.lemmas.List.FromFn.{length-map-range_with_len, get_or-map-range_with_len}
use Rattle.std.proofs.lemmas.Bool.{and_parts, cases_lt}
use Rattle.std.proofs.lemmas.List.{get_or_past}
use Rattle.flash.specs.declared.Geometry.{Geometry}
use Rattle.flash.specs.Limits.{within, between}
use Rattle.flash.specs.Meaning.{Page, WellFormed, BlockFits, PageFits, no_geometry, no_block, no_page, block}
use Rattle.emulated.specs.declared.Line.{Line}
use Rattle.emulated.specs.Held.{served, Room, LineFits, line, held, block_at, page_at, no_line}

pub place_lt : (n p b i : ℕ) → b < n → i < p → b * p + i < n * p
place_lt n p b i lb li = omega (arith, mul-le-mul_right {m = suc b} {n = n} p lb, suc-mul b p)

pub bytes_in : (n p d b i : ℕ) → b < n → i < p → (b * p + i) * d + d ≤ (n * p) * d
bytes_in n p d b i lb li = omega (arith, mul-le-mul_right {m = suc (b * p + i)} {n = n * p} d (place_lt n p b i lb li), suc-mul (b * p + i) d)

-- a geometry that is served has room
pub served_room : (g : Geometry) (tags bytes : ℕ) → Room (served g tags bytes) tags bytes
served_room g tags bytes = go (within g && (nat_le (g.blocks * g.pages) tags && nat_le ((g.blocks * g.pages) * g.size) bytes)) refl
  where
    go : (t : Bool) → (within g && (nat_le (g.blocks * g.pages) tags && nat_le ((g.blocks * g.pages) * g.size) bytes)) ≡ t → Room (cond t g no_geometry) tags bytes
    go false q = record { few = omega arith; tagroom = omega arith; room = omega arith }
    go true q =
        let parts = and_parts (within g) _ q in
        let memory = and_parts (nat_le (g.blocks * g.pages) tags) _ parts.1 in
        let blocks = and_parts (between 2 g.blocks 256) _ parts.0 in
        let most = and_parts (nat_le 2 g.blocks) _ blocks.0 in
        record { few = leb-true _ _ most.1; tagroom = leb-true _ _ memory.0; room = leb-true _ _ memory.1 }

-- what is served is served again
pub served_again : (g : Geometry) (tags bytes : ℕ) → served (served g tags bytes) tags bytes ≡ served g tags bytes
served_again g tags bytes = go (within g && (nat_le (g.blocks * g.pages) tags && nat_le ((g.blocks * g.pages) * g.size) bytes)) refl
  where
    go : (t : Bool) → (within g && (nat_le (g.blocks * g.pages) tags && nat_le ((g.blocks * g.pages) * g.size) bytes)) ≡ t → served (cond t g no_geometry) tags bytes ≡ cond t g no_geometry
    go false q = refl
    go true q = ap (λ t. cond t g no_geometry) q

-- N, P, D and E are within the limits or all 0
pub served_within : (g : Geometry) (tags bytes : ℕ) → (within (served g tags bytes) ≡ true) ⊎ (served g tags bytes ≡ no_geometry)
served_within g tags bytes = go (within g && (nat_le (g.blocks * g.pages) tags && nat_le ((g.blocks * g.pages) * g.size) bytes)) refl
  where
    go : (t : Bool) → (within g && (nat_le (g.blocks * g.pages) tags && nat_le ((g.blocks * g.pages) * g.size) bytes)) ≡ t → (within (cond t g no_geometry) ≡ true) ⊎ (cond t g no_geometry ≡ no_geometry)
    go false q = inr refl
    go true q = inl (and_parts (within g) _ q).0

-- past the end of the tables there is a line that fits as well
pub line_fits : (g : Geometry) (lines : List Line) → All (LineFits g) lines → (b : ℕ) → LineFits g (line lines b)
line_fits g lines fit b = elim (cases_lt b (length lines)) [
  | inl l ↦ fit b no_line l
  | inr l ↦ subst (LineFits g) (sym (get_or_past lines b no_line l)) (omega arith, omega arith)
]

module _ (g : Geometry) (lines : List Line) (tags bytes : List ℕ) where
  pub blocks_are : length (held g lines tags bytes).blocks ≡ g.blocks
  blocks_are = length-map-range_with_len (block_at g lines tags bytes) 0 g.blocks

  pub block_is : (b : ℕ) → b < g.blocks → block (held g lines tags bytes) b ≡ block_at g lines tags bytes b
  block_is b h = get_or-map-range_with_len (block_at g lines tags bytes) 0 g.blocks b b no_block h (omega arith)

  pub written_are : (b : ℕ) → length (block_at g lines tags bytes b).pages ≡ (line lines b).written
  written_are b = length-map-range_with_len (page_at g tags bytes b) 0 (line lines b).written

  pub page_is : (b i : ℕ) → i < (line lines b).written → slice_index_or (block_at g lines tags bytes b).pages i no_page ≡ page_at g tags bytes b i
  page_is b i h = get_or-map-range_with_len (page_at g tags bytes b) 0 (line lines b).written i i no_page h (omega arith)

  pub held_formed : Room g (length tags) (length bytes) → All (LineFits g) lines → All (λ t. t < 65536) tags → WellFormed (held g lines tags bytes)
  held_formed has fit tagged = record {
    few = omega (arith, blocks_are, has.few);
    each = λ b h.
        let lb : b < g.blocks = subst (λ m. b < m) blocks_are h in
        let fits : LineFits g (line lines b) = line_fits g lines fit b in
        subst (λ x. BlockFits g.pages g.size g.rated x) (sym (block_is b lb)) (record {
          worn = fits.0;
          filled = omega (arith, written_are b);
          each = λ i hi.
              let li : i < (line lines b).written = subst (λ m. i < m) (written_are b) hi in
              let lp : i < g.pages = omega arith in
              subst (λ (x : Page). PageFits g.size x) (sym (page_is b i li)) (record {
                tagged = tagged (b * g.pages + i) 0 (omega (arith, has.tagroom, place_lt g.blocks g.pages b i lb lp));
                sized = simp (length-take, length-drop) (omega (arith, has.room, bytes_in g.blocks g.pages g.size b i lb lp));
              });
        });
  }
