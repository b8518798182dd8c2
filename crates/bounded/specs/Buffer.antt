-- What a bounded buffer keeps.
use Rattle.std.specs.Prelude.{ℕ, List, take}
use Rattle.bounded.specs.declared.bytes.Bytes.{Bytes}

-- the bytes that a buffer keeps, in the order in which they came
abbrev pub held : {n : ℕ} → Bytes n → List ℕ
held b = take b.len b.items
