-- The chip that lies in tables and lent memory.
--
--   lines         for each block, how often it was erased and how many of its pages are written
--   tags, bytes   the lent memory: page i of block b has the tag at b × P + i, and the D bytes from (b × P + i) × D
use Rattle.std.specs.Prelude.{ℕ, ◌+◌, ◌*◌, ◌≡◌, ◌<◌, ◌≤◌, cond, ◌&&◌, List, map, take, drop, length, nat_le, slice_index, slice_index_or}
use Rattle.std.specs.List.{All, range_with_len}
use Rattle.flash.specs.declared.Geometry.{Geometry}
use Rattle.flash.specs.Limits.{within}
use Rattle.flash.specs.Meaning.{Flash, Block, Page, page_of, no_geometry}
use Rattle.emulated.specs.declared.Line.{Line}

-- The geometry handed in, or all 0 where it is outside the limits or the tags or the bytes are too few.
abbrev pub served : Geometry → ℕ → ℕ → Geometry
served g tags bytes = cond (within g && (nat_le (g.blocks * g.pages) tags && nat_le ((g.blocks * g.pages) * g.size) bytes)) g no_geometry

-- There is a line for each block, and room in the memory for each page.
pub record Room (g : Geometry) (tags bytes : ℕ) : Type 0 where
  pub few : g.blocks ≤ 256
  pub tagroom : g.blocks * g.pages ≤ tags
  pub room : (g.blocks * g.pages) * g.size ≤ bytes

-- What a line of the tables may have.
abbrev pub LineFits : Geometry → Line → Type 0
LineFits g l = (l.erases ≤ g.rated) × (l.written ≤ g.pages)

-- A geometry, a table of lines and the lent memory.
pub record Tables : Type 0 where
  pub geometry : Geometry
  pub lines : List Line
  pub tags : List ℕ
  pub bytes : List ℕ

-- What every chip keeps of them: its geometry is one that is served, each line fits, and the tags have 16 bits.
pub record Kept (t : Tables) : Type 0 where
  pub served_is : served t.geometry (length t.tags) (length t.bytes) ≡ t.geometry
  pub long : length t.lines ≡ 256
  pub lines_fit : All (LineFits t.geometry) t.lines
  pub tags_fit : All (λ tag. tag < 65536) t.tags

-- What stands past the end of the tables; no call looks there.
abbrev pub no_line : Line
no_line = record { erases = 0; written = 0 }

abbrev pub line : List Line → ℕ → Line
line lines b = slice_index_or lines b no_line

abbrev pub place : ℕ → ℕ → ℕ → ℕ
place p b i = b * p + i

-- The page at a place of the memory.
abbrev pub page_in : ℕ → List ℕ → List ℕ → ℕ → Page
page_in d tags bytes at = page_of (slice_index tags at) (take d (drop (at * d) bytes))

abbrev pub page_at : Geometry → List ℕ → List ℕ → ℕ → ℕ → Page
page_at g tags bytes b i = page_in g.size tags bytes (place g.pages b i)

abbrev pub block_at : Geometry → List Line → List ℕ → List ℕ → ℕ → Block
block_at g lines tags bytes b = record { count = (line lines b).erases; pages = map (page_at g tags bytes b) (range_with_len 0 (line lines b).written) }

-- The line of a block that is held.
abbrev pub line_of : Block → Line
line_of x = record { erases = x.count; written = length x.pages }

abbrev pub held : Geometry → List Line → List ℕ → List ℕ → Flash
held g lines tags bytes = record { p = g.pages; d = g.size; e = g.rated; blocks = map (block_at g lines tags bytes) (range_with_len 0 g.blocks) }
