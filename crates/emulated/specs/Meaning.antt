-- The chip that an `Emulated` stands for, whatever its tables hold: N, P, D and E are within the limits or all 0, a count past E reads as E, a number of
-- written pages past P as P, and a tag as its low 16 bits. An `Emulated` keeps these bounds, so it is the chip of its tables as they are (`emulated_is`).
use Rattle.std.specs.Prelude.{◌≡◌, true, map, length}
use Rattle.std.proofs.Common.{◌⊎◌, sym, ap, ◌∙◌, subst, arith}
use Rattle.flash.specs.declared.Geometry.{Geometry}
use Rattle.flash.specs.Limits.{within}
use Rattle.flash.specs.Meaning.{Flash, Lawful, ByMeaning, lawful_by_meaning, geometry_of, no_geometry}
use Rattle.emulated.specs.Held.{served, held, Kept, Room}
use Rattle.emulated.specs.Laws.{served_room, served_within}
use Rattle.emulated.specs.AnyTables as any
use Rattle.emulated.specs.AnyTables.{held_as_any}
use Rattle.emulated.specs.declared.Line.{Line}
use Rattle.emulated.specs.declared.Emulated.{Emulated}

abbrev pub emulated : Emulated → Flash
emulated s = any.held (served s.geometry (length s.tags) (length s.bytes)) (map (λ (l : Line). l.erases) s.lines) (map (λ (l : Line). l.written) s.lines) s.tags s.bytes

pub emulated_laws : Lawful emulated (ByMeaning emulated)
emulated_laws = lawful_by_meaning emulated (λ s. any.held_formed s.geometry (map (λ (l : Line). l.erases) s.lines) (map (λ (l : Line). l.written) s.lines) s.tags s.bytes)

-- N, P, D and E of every chip are within the limits or all 0
pub emulated_within : (s : Emulated) → (within (geometry_of (emulated s)) ≡ true) ⊎ (geometry_of (emulated s) ≡ no_geometry)
emulated_within s =
    let g = served s.geometry (length s.tags) (length s.bytes) in
    let blocks = any.blocks_are g.blocks g.pages g.size g.rated (map (λ (l : Line). l.erases) s.lines) (map (λ (l : Line). l.written) s.lines) s.tags s.bytes in
    let is : g ≡ geometry_of (emulated s) = sym (ap (λ n. record { blocks = n; pages = g.pages; size = g.size; rated = g.rated }) blocks) in
    subst (λ (h : Geometry). (within h ≡ true) ⊎ (h ≡ no_geometry)) is (served_within s.geometry (length s.tags) (length s.bytes))

-- what is served has room in the memory
pub kept_room : (s : Emulated) → Kept s → Room s.geometry (length s.tags) (length s.bytes)
kept_room s k = subst (λ g. Room g (length s.tags) (length s.bytes)) k.served_is (served_room s.geometry (length s.tags) (length s.bytes))

pub emulated_is : (s : Emulated) → Kept s → emulated s ≡ held s.geometry s.lines s.tags s.bytes
emulated_is s k =
    let has = kept_room s k in
    ap (λ g. any.held g (map (λ (l : Line). l.erases) s.lines) (map (λ (l : Line). l.written) s.lines) s.tags s.bytes) k.served_is
    ∙ sym (held_as_any s.geometry s.lines s.tags s.bytes (omega (arith, k.long, has.few)) has k.lines_fit k.tags_fit)
