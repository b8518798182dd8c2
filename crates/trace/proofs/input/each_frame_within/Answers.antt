use Rattle.std.proofs.Common.{of_calls, rules, ◌+◌, ◌≤◌, None, Some, Ok, length, get_or, take, drop, suc, refl, arith, take_all}
use Rattle.std.proofs.lemmas.List.{take_more}
use Rattle.trace.specs.Steps.{view}
use Rattle.trace.proofs.Inputs.{parted, comes_on, comes_to_fault, comes_to_end}
use Rattle.trace.proofs.input.each_frame_within.Goals as goal

pub loop-byte-preserved-in-Ok-None : goal.loop-byte-preserved-in-Ok-None
loop-byte-preserved-in-Ok-None g c =
    let i = c.loop-byte.byte-index in
    let xs = c.args.piece.now in (
      c.loop-byte.invariant.0,
      comes_on _ c.args.on_frame.now (view c.args.reader.now) c.loop-byte.on_frame c.loop-byte.on_frame (view c.loop-byte.reader) (view c.push.new.self) (get_or xs i 0) (Ok None) (take i xs) (take (i + 1) xs)
          c.loop-byte.invariant.1 (take_more xs i 0 c.loop-byte-test.true) c.push.ensures.after (search rules) refl,
    )

pub loop-byte-preserved : goal.loop-byte-preserved
loop-byte-preserved g c =
    let i = c.loop-byte.byte-index in
    let xs = c.args.piece.now in
    let after = c.on_frame.new.self in (
      search of_calls,
      comes_on _ c.args.on_frame.now (view c.args.reader.now) c.loop-byte.on_frame after (view c.loop-byte.reader) (view c.push.new.self) (get_or xs i 0) (Ok (Some c.in-Ok-Some.frame)) (take i xs) (take (i + 1) xs)
          c.loop-byte.invariant.1 (take_more xs i 0 c.loop-byte-test.true) c.push.ensures.after (search rules) (after, search rules, refl),
    )

pub returns-in-Err-clause-frames : goal.returns-in-Err-clause-frames
returns-in-Err-clause-frames g c =
    let i = c.loop-byte.byte-index in
    let xs = c.args.piece.now in
    (comes_to_fault _ c.args.on_frame.now (view c.args.reader.now) c.loop-byte.on_frame (view c.loop-byte.reader) (get_or xs i 0) c.in-Err.fault (take i xs) (drop (suc i) xs) xs c.loop-byte.invariant.1 (parted xs i c.loop-byte-test.true) (search rules)).0

pub returns-in-Err-clause-fault : goal.returns-in-Err-clause-fault
returns-in-Err-clause-fault g c =
    let i = c.loop-byte.byte-index in
    let xs = c.args.piece.now in
    (comes_to_fault _ c.args.on_frame.now (view c.args.reader.now) c.loop-byte.on_frame (view c.loop-byte.reader) (get_or xs i 0) c.in-Err.fault (take i xs) (drop (suc i) xs) xs c.loop-byte.invariant.1 (parted xs i c.loop-byte-test.true) (search rules)).1

pub returns-clause-frames : goal.returns-clause-frames
returns-clause-frames g c =
    let xs = c.args.piece.now in
    let done : length xs ≤ c.loop-byte.byte-index = omega arith in
    (comes_to_end _ c.args.on_frame.now (view c.args.reader.now) c.loop-byte.on_frame (view c.loop-byte.reader) (take c.loop-byte.byte-index xs) xs c.loop-byte.invariant.1 (take_all c.loop-byte.byte-index xs done)).0

pub returns-clause-after : goal.returns-clause-after
returns-clause-after g c =
    let xs = c.args.piece.now in
    let done : length xs ≤ c.loop-byte.byte-index = omega arith in
    λ _. (comes_to_end _ c.args.on_frame.now (view c.args.reader.now) c.loop-byte.on_frame (view c.loop-byte.reader) (take c.loop-byte.byte-index xs) xs c.loop-byte.invariant.1 (take_all c.loop-byte.byte-index xs done)).1
