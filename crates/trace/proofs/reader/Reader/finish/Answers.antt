use Rattle.std.proofs.Common.{None, Ok, Err, rules}
use Rattle.trace.specs.Steps.{view}
use Rattle.trace.proofs.Whole.{whole_from}
use Rattle.trace.proofs.reader.Reader.finish.Goals as goal

pub returns-in-Some-clause-whole : goal.returns-in-Some-clause-whole
returns-in-Some-clause-whole c = whole_from (view c.args.self) (Err c.in-Some.fault) (search rules)

pub returns-then-self-clause-whole : goal.returns-then-self-clause-whole
returns-then-self-clause-whole c = whole_from (view c.args.self) (Ok None) (search rules)

pub returns-else-self-clause-whole : goal.returns-else-self-clause-whole
returns-else-self-clause-whole c = whole_from (view c.args.self) (Err c.stop.result) (search rules)
