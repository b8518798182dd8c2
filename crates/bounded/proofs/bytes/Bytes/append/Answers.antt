use Rattle.std.proofs.Common.{arith}
use Rattle.bounded.proofs.Fronts.{appended}
use Rattle.bounded.proofs.bytes.Bytes.append.Goals as goal

pub returns : goal.returns
returns g c = appended g.row.N c.args.self.now.len c.min-count.result c.args.self.now.items c.args.more.now c.copy_from_slice.new.self (omega arith) (omega arith) c.min-count.ensures c.copy_from_slice.ensures.after
