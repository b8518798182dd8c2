-- What is done with the frames of a whole input.
use Rattle.std.specs.Prelude.{List, Ok, Result}
use Rattle.std.specs.List.{FoldsTo}
use Rattle.trace.specs.declared.frame.Frame.{Frame}

-- A closure was called with these frames, in order, and each time answered Ok: so it came from its first state to its last.
-- `step f x r f'` says that the call of f with x may answer r and leave f'.
abbrev pub Called : {F E : Type 0} → (F → Frame → Result (Unit {0}) E → F → Type 0) → F → List Frame → F → Type 0
Called step first frames last = FoldsTo (λ p x q. step p x (Ok tt) q) first frames last
