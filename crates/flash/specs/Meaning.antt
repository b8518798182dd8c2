-- What a flash chip is. A chip has N blocks of P pages of D bytes, and a block is rated for E erases.
--
--   Page        one written page: its 16-bit tag and its D bytes
--   Block       how often it was erased, and its written pages from page 0 upward
--   Flash       a whole chip: P, D, E and its blocks, of which there are N
--   Op          what changes a chip: a page programmed into a block, or a block erased
--   WellFormed  the bounds that every chip keeps
--   Lawful      what a type of chips shows of its meaning and of the operations that it ran
use Rattle.std.specs.Prelude.{◌≡◌, ℕ, suc, ◌<◌, ◌≤◌, List, [], ◌∷◌, ◌++◌, length, replicate, slice_index_or, slice_set, refl}
use Rattle.std.proofs.Common.{sym, ap, ◌∙◌}
use Rattle.flash.specs.declared.Geometry.{Geometry}

pub record Page : Type 0 where
  pub tag : ℕ
  pub bytes : List ℕ

pub record Block : Type 0 where
  pub count : ℕ
  pub pages : List Page

pub record Flash : Type 0 where
  pub p : ℕ
  pub d : ℕ
  pub e : ℕ
  pub blocks : List Block

pub data Op : Type 0 where
  program : ℕ → Page → Op
  erase : ℕ → Op

-- The page that programming a tag and bytes writes: the one place that says what a page is made of.
abbrev pub page_of : ℕ → List ℕ → Page
page_of tag bytes = record { tag = tag; bytes = bytes }

-- N, P, D and E together.
abbrev pub geometry_of : Flash → Geometry
geometry_of f = record { blocks = length f.blocks; pages = f.p; size = f.d; rated = f.e }

-- N, P, D and E all 0, and the chip of which that holds.
abbrev pub no_geometry : Geometry
no_geometry = record { blocks = 0; pages = 0; size = 0; rated = 0 }

abbrev pub no_chip : Flash
no_chip = record { p = 0; d = 0; e = 0; blocks = [] }

-- What stands past the end of a list; no call looks there.
abbrev pub no_page : Page
no_page = page_of 0 []

abbrev pub no_block : Block
no_block = record { count = 0; pages = [] }

-- A chip on which nothing is written and nothing was ever erased.
abbrev pub blank : Geometry → Flash
blank g = record { p = g.pages; d = g.size; e = g.rated; blocks = replicate g.blocks (record { count = 0; pages = [] }) }

-- Block b, and page i of block b.
abbrev pub block : Flash → ℕ → Block
block f b = slice_index_or f.blocks b no_block

abbrev pub page : Flash → ℕ → ℕ → Page
page f b i = slice_index_or (block f b).pages i no_page

abbrev pub with_block : Flash → ℕ → Block → Flash
with_block f b x = record { p = f.p; d = f.d; e = f.e; blocks = slice_set f.blocks b x }

-- One more page at the end of block b.
abbrev pub programmed : Flash → ℕ → Page → Flash
programmed f b x = with_block f b (record { count = (block f b).count; pages = (block f b).pages ++ (x ∷ []) })

-- Block b without its pages, erased once more.
abbrev pub erased : Flash → ℕ → Flash
erased f b = with_block f b (record { count = suc (block f b).count; pages = [] })

abbrev pub apply : Op → Flash → Flash
apply (program b x) f = programmed f b x
apply (erase b) f = erased f b

-- Operations one after another, the first of the list first.
abbrev pub applies : List Op → Flash → Flash
applies [] f = f
applies (o ∷ os) f = applies os (apply o f)

pub record PageFits (d : ℕ) (x : Page) : Type 0 where
  pub tagged : x.tag < 65536
  pub sized : length x.bytes ≡ d

pub record BlockFits (p d e : ℕ) (x : Block) : Type 0 where
  pub worn : x.count ≤ e
  pub filled : length x.pages ≤ p
  pub each : (i : ℕ) → i < length x.pages → PageFits d (slice_index_or x.pages i no_page)

pub record WellFormed (f : Flash) : Type 0 where
  pub few : length f.blocks ≤ 65535
  pub each : (b : ℕ) → b < length f.blocks → BlockFits f.p f.d f.e (block f b)

-- `ran s os t`: the operations os, in this order and no others, led from s to t. Code over any chip learns of
-- one operation from the call that did it and joins lists by `further`; it has no other way to show `ran`, so
-- a contract that names the list fixes which operations were done, and in which order.
pub record Lawful {S : Type 0} (meaning : S → Flash) (ran : S → List Op → S → Type 0) : Type 0 where
  pub still : (s : S) → ran s [] s
  pub further : (s t u : S) (xs ys : List Op) → ran s xs t → ran t ys u → ran s (xs ++ ys) u
  pub told : (s t : S) (xs : List Op) → ran s xs t → meaning t ≡ applies xs (meaning s)
  pub formed : (s : S) → WellFormed (meaning s)

-- The run of a chip that holds nothing beside its meaning: the operations lead from one meaning to the other.
abbrev pub ByMeaning : {S : Type 0} → (S → Flash) → S → List Op → S → Type 0
ByMeaning meaning s xs t = meaning t ≡ applies xs (meaning s)

pub applies_append : (xs ys : List Op) (f : Flash) → applies (xs ++ ys) f ≡ applies ys (applies xs f)
applies_append [] ys f = refl
applies_append (x ∷ xs) ys f = applies_append xs ys (apply x f)

-- It is lawful as soon as its meaning is well formed.
pub lawful_by_meaning : {S : Type 0} (meaning : S → Flash) → ((s : S) → WellFormed (meaning s)) → Lawful meaning (ByMeaning meaning)
lawful_by_meaning meaning formed = record {
  still = λ s. refl;
  further = λ s t u xs ys p q. q ∙ ap (applies ys) p ∙ sym (applies_append xs ys (meaning s));
  told = λ s t xs p. p;
  formed = formed;
}
