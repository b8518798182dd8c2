use Rattle.std.proofs.Common.{map, sym, arith}
use Rattle.std.proofs.lemmas.List.{get_or-map, get_or_past}
use Rattle.heap.proofs.Nodes.{places_long}
use Rattle.heap.proofs.rows.place_of.Goals as goal

pub returns-then-m-nodes : goal.returns-then-m-nodes
returns-then-m-nodes g c = let e = places_long c.args.nodes.now in sym (get_or_past (map (λ x. x.place) c.args.nodes.now) c.args.m 0 (omega arith))

pub returns : goal.returns
returns g c = sym (get_or-map (λ x. x.place) c.args.nodes.now c.args.m c.index-nodes-m.result 0 c.if-m-nodes.false)
