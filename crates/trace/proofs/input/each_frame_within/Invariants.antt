use Rattle.std.proofs.Common.{Ok, take}
use Rattle.trace.specs.Steps.{view}
use Rattle.trace.proofs.Inputs.{Come}
use Rattle.trace.proofs.input.each_frame_within.Given as goal

abbrev pub invariant-loop-byte : goal.invariant-loop-byte
invariant-loop-byte g l =
    goal.F-IsAlwaysCallable g l.on_frame
    × Come (λ p x q. goal.F-step g p x (Ok tt) q) l.initial.on_frame (view l.initial.reader) l.on_frame (view l.reader) (take l.byte-index l.piece)
