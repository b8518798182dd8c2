-- The product by which the code compares two figures. Assumes nothing.
use Rattle.std.specs.Prelude.{ℕ, ◌-◌, ◌*◌}
use Rattle.orders.specs.declared.block.BlockRecord.{BlockRecord}

-- the numerator of a's figure times the denominator of b's
abbrev pub gained : BlockRecord → BlockRecord → ℕ
gained a b = a.age * (a.pages - a.live) * (2 * b.live)
