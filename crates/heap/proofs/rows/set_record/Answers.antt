use Rattle.std.proofs.Common.{map, sym, refl, arith}
use lib.Seq.{map-set, map-set_same}
use Rattle.std.proofs.lemmas.List.{set_past}
use Rattle.heap.proofs.Nodes.{records_long}
use Rattle.heap.proofs.rows.set_record.Goals as goal

pub returns-then-m-nodes : goal.returns-then-m-nodes
returns-then-m-nodes g c =
    let s = c.args.nodes.now in
    let e = records_long s in
    record { named = refl; placed = refl; put = sym (set_past (map (λ x. x.record) s) c.args.m c.args.item (omega arith)) }

pub returns : goal.returns
returns g c =
    let s = c.args.nodes.now in
    let d = c.index-nodes-m.result in
    record { named = map-set_same (λ x. x.named) s c.args.m _ d refl; placed = map-set_same (λ x. x.place) s c.args.m _ d refl; put = map-set (λ x. x.record) s c.args.m _ }
