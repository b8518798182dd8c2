use Rattle.std.proofs.Common.{map, sym, refl, arith}
use lib.Seq.{map-set, map-set_same}
use Rattle.std.proofs.lemmas.List.{set_past}
use Rattle.heap.proofs.Nodes.{names_long}
use Rattle.heap.proofs.rows.set_name.Goals as goal

pub returns-then-i-nodes : goal.returns-then-i-nodes
returns-then-i-nodes g c =
    let s = c.args.nodes.now in
    let e = names_long s in
    record { named = sym (set_past (map (λ x. x.named) s) c.args.i c.args.n (omega arith)); placed = refl; same = refl }

pub returns : goal.returns
returns g c =
    let s = c.args.nodes.now in
    let d = c.index-nodes-i.result in
    record { named = map-set (λ x. x.named) s c.args.i _; placed = map-set_same (λ x. x.place) s c.args.i _ d refl; same = map-set_same (λ x. x.record) s c.args.i _ d refl }
