use Rattle.std.proofs.Common.{map, sym, arith}
use Rattle.std.proofs.lemmas.List.{get_or-map, get_or_past}
use Rattle.heap.proofs.Nodes.{names_long}
use Rattle.heap.proofs.rows.name_at.Goals as goal

pub returns-then-i-nodes : goal.returns-then-i-nodes
returns-then-i-nodes g c = let e = names_long c.args.nodes.now in sym (get_or_past (map (λ x. x.named) c.args.nodes.now) c.args.i 0 (omega arith))

pub returns : goal.returns
returns g c = sym (get_or-map (λ x. x.named) c.args.nodes.now c.args.i c.index-nodes-i.result 0 c.if-i-nodes.false)
