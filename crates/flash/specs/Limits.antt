-- The sizes of chip that are served: N from 2 to 256, P from 1 to 64, D from 1 to 512, E from 1 to 1,000,000.
use Rattle.std.specs.Prelude.{ℕ, Bool, ◌&&◌, nat_le}
use Rattle.flash.specs.declared.Geometry.{Geometry}

abbrev pub between : ℕ → ℕ → ℕ → Bool
between low n high = nat_le low n && nat_le n high

abbrev pub within : Geometry → Bool
within g = between 2 g.blocks 256 && (between 1 g.pages 64 && (between 1 g.size 512 && between 1 g.rated 1000000))
