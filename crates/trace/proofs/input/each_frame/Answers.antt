use Rattle.std.proofs.Common.{of_calls, rules, [], take}
use Rattle.std.proofs.lemmas.Result.{on_ok_weaker}
use Rattle.std.specs.Io.KnownBytes.{Consumes, IsAtEnd}
use Rattle.trace.specs.Steps.{view}
use Rattle.trace.proofs.Inputs.{where_known, at_first, goes_on, stops, ends}
use Rattle.trace.proofs.input.each_frame.Goals as goal

pub loop-init : goal.loop-init
loop-init g c = (search rules, search rules, λ all known. at_first _ c.args.on_frame.now all (view c.new-reader.result) _ c.new-reader.ensures known)

pub loop-preserved : goal.loop-preserved
loop-preserved g c = (
  search rules,
  search of_calls,
  λ all known.
      goes_on _ c.args.on_frame.now all c.loop.on_frame c.each_frame_within.new.on_frame (view c.loop.reader) (view c.each_frame_within.new.reader) (take c.in_ok-n.n c.read.new.buf) (g.R.Read.remaining c.loop.input) (g.R.Read.remaining c.read.new.self)
      (c.loop.invariant.2 all known) (search rules) (search rules) (search rules),
)

pub returns-then-n-eq0-clause-frames : goal.returns-then-n-eq0-clause-frames
returns-then-n-eq0-clause-frames g c = on_ok_weaker c.last_frame.result (λ calls. where_known _ _ (λ all known.
    let left = c.loop.invariant.2 all known in
    let none : Consumes (g.R.Read.remaining c.loop.input) (g.R.Read.remaining c.read.new.self) [] = search rules in
    let at_end : IsAtEnd (g.R.Read.remaining c.read.new.self) = search rules in
    let told = ends _ c.args.on_frame.now all c.loop.on_frame c.last_frame.new.on_frame (view c.loop.reader) (g.R.Read.remaining c.loop.input) (g.R.Read.remaining c.read.new.self) left none at_end calls in
    told.1)) c.last_frame.ensures.frames

pub returns-in-Some-clause-fault : goal.returns-in-Some-clause-fault
returns-in-Some-clause-fault g c = where_known _ _ (λ all known.
    let left = c.loop.invariant.2 all known in
    let told = stops _ c.args.on_frame.now all c.loop.on_frame c.each_frame_within.new.on_frame (view c.loop.reader) c.in-Some.fault (take c.in_ok-n.n c.read.new.buf) (g.R.Read.remaining c.loop.input) (g.R.Read.remaining c.read.new.self) left (search rules) (search rules) (search rules) in
    told.0)

pub returns-in-Some-clause-frames : goal.returns-in-Some-clause-frames
returns-in-Some-clause-frames g c = where_known _ _ (λ all known.
    let left = c.loop.invariant.2 all known in
    let told = stops _ c.args.on_frame.now all c.loop.on_frame c.each_frame_within.new.on_frame (view c.loop.reader) c.in-Some.fault (take c.in_ok-n.n c.read.new.buf) (g.R.Read.remaining c.loop.input) (g.R.Read.remaining c.read.new.self) left (search rules) (search rules) (search rules) in
    told.1)
