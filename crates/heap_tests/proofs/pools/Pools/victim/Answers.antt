use Rattle.std.proofs.Common.{◌≡◌, ◌<◌, ◌≤◌, true, not, Some, sym, ap, ◌∙◌, ⊎_elim, arith}
use Rattle.std.proofs.lemmas.Result.{MatchResult-weaker}
use Rattle.std.proofs.lemmas.Bool.{cases_eq, cases_lt, both_ways}
use Rattle.heap.specs.Heaps.{held}
use Rattle.heap.proofs.Maps.{held_number}
use Rattle.heap_tests.proofs.pools.Pools.victim.Goals as goal

pub returns : goal.returns
returns g c = λ ok.
    let h = c.args.self.now.closed in
    let before = g.V.Order.before in
    MatchResult-weaker c.first.result (c.first.ensures ok)
    (λ x f m y e same room. ⊎_elim
    (λ (here : x.live < x.pages). here)
    (λ (full : x.pages ≤ x.live).
    let few = x.live_few in
    let name : y.number ≡ m = held_number (λ b. b.number) before h.nodes.now h.len ok m y e in
    absurd (⊎_elim
    (λ (q : m ≡ x.number).
    let both : Some y ≡ Some x = sym e ∙ ap (held h) q ∙ f.there in
    let is : y ≡ x = cc in
    let live : y.live ≡ x.live = ap (λ b. b.live) is in
    omega arith)
    (λ ne.
    let back : before y x ≡ true = g.met.V.VictimOrder.full_last y x same room (omega arith) in
    let apart : x.number ≡ y.number → ⊥ = λ q. ne (sym (q ∙ name)) in
    both_ways (before y x) (g.met.V.Order.total x y apart ∙ ap not (f.before_all m y e ne)) back)
    (cases_eq m x.number)))
    (cases_lt x.live x.pages))
    (λ e none. none.1)
