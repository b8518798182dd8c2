-- What a victim order keeps beside the laws of an order. Assumes nothing.
use Rattle.std.specs.Prelude.{◌≡◌, ◌<◌, Bool, true}
use Rattle.orders.specs.declared.block.BlockRecord.{BlockRecord}

-- of two blocks with as many pages, one that is not all live goes before one that is
abbrev pub FullLast : (BlockRecord → BlockRecord → Bool) → Type 0
FullLast before = (a b : BlockRecord) → a.pages ≡ b.pages → a.live < a.pages → b.live ≡ b.pages → before a b ≡ true
