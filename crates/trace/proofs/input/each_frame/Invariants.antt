use Rattle.std.proofs.Common.{◌≡◌, ℕ, List, Some, Ok, length}
use Rattle.trace.specs.Steps.{view}
use Rattle.trace.proofs.Inputs.{Left}
use Rattle.trace.proofs.input.each_frame.Given as goal

abbrev pub invariant-loop : goal.invariant-loop
invariant-loop g l =
    (length l.piece ≡ 65536)
    × goal.F-IsAlwaysCallable g l.on_frame
    × ((all : List ℕ) → g.R.Read.remaining l.initial.input ≡ Some all →
    Left (λ p x q. goal.F-step g p x (Ok tt) q) l.initial.on_frame all l.on_frame (view l.reader) (g.R.Read.remaining l.input))
