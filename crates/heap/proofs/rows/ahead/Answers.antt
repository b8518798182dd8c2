use Rattle.std.proofs.Common.{◌≡◌, ◌<◌, length, get_or, sym, ap, ◌∙◌, inl, inr, arith}
use Rattle.std.proofs.lemmas.List.{get_or-map}
use Rattle.heap.specs.Rows.{records, key}
use Rattle.heap.proofs.rows.ahead.Goals as goal

pub returns : goal.returns
returns g c = λ n short sits li lj d.
    let xs = c.args.nodes.now in
    let a : c.name_at-a.result < length xs = omega (arith, sits.there c.args.i li) in
    let b : c.name_at-b.result < length xs = omega (arith, sits.there c.args.j lj) in
    let p : (get_or xs c.name_at-a.result c.index-nodes-a.result).record ≡ key xs c.args.i d = sym (get_or-map (λ x. x.record) xs _ _ d a) ∙ ap (λ m. get_or (records xs) m d) c.name_at-a.ensures in
    let q : (get_or xs c.name_at-b.result c.index-nodes-b.result).record ≡ key xs c.args.j d = sym (get_or-map (λ x. x.record) xs _ _ d b) ∙ ap (λ m. get_or (records xs) m d) c.name_at-b.ensures in
    c.goes_before.ensures ∙ (λ k. g.O.Order.before (p k) (q k))

pub returns-then-a-nodes : goal.returns-then-a-nodes
returns-then-a-nodes g c = λ n short sits li lj d.
    let a = sits.there c.args.i li in
    let b = sits.there c.args.j lj in
    let e = c.name_at-a.ensures in
    let f = c.name_at-b.ensures in
    elim c.then-a-nodes.either [ inl x ↦ absurd (omega arith) | inr y ↦ absurd (omega arith) ]
