-- Two chips as one: the blocks of the first, then those of the second, with their common P, D and E.
use Rattle.std.specs.Prelude.{ℕ, ◌+◌, ◌-◌, Bool, cond, ◌&&◌, ◌++◌, Ok, Err, Result, ◌==◌, nat_le, nat_lt}
use Rattle.flash.specs.declared.Geometry.{Geometry}
use Rattle.flash.specs.declared.Refusal.{Refusal}
use Rattle.flash.specs.declared.Refusal.TheVariants.{Outside}
use Rattle.flash.specs.Meaning.{Flash, no_chip, geometry_of}
use Rattle.pair.specs.declared.Half.{Half}
use Rattle.pair.specs.declared.Half.TheVariants.{First, Second}

-- The two have the same P, D and E, and no more than 65,535 blocks together.
abbrev pub joins : Geometry → Geometry → Bool
joins a b = a.pages == b.pages && (a.size == b.size && (a.rated == b.rated && nat_le (a.blocks + b.blocks) 65535))

abbrev pub both : Flash → Flash → Flash
both f g = record { p = f.p; d = f.d; e = f.e; blocks = f.blocks ++ g.blocks }

-- Their pair; where they do not join, its N, P, D and E are all 0.
abbrev pub joined : Flash → Flash → Flash
joined f g = cond (joins (geometry_of f) (geometry_of g)) (both f g) no_chip

-- Which of the two has block i, and its number there. Where the two do not join, every block is outside.
abbrev pub half_of : Geometry → Geometry → ℕ → Result Half Refusal
half_of a b i = cond (joins a b) (Ok (cond (nat_lt i a.blocks) (First i) (Second (i - a.blocks)))) (Err Outside)
