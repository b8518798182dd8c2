-- What the choice of a victim rests on. Assumes nothing.
use Rattle.std.specs.Prelude.{◌≡◌, ℕ, ◌<◌, Some, Option}
use Rattle.orders.specs.declared.block.BlockRecord.{BlockRecord}

-- where a block with as many pages as x is not all live, neither is x
abbrev pub Frees : (ℕ → Option BlockRecord) → BlockRecord → Type 0
Frees closed x = (m : ℕ) (y : BlockRecord) → closed m ≡ Some y → y.pages ≡ x.pages → y.live < y.pages → x.live < x.pages
