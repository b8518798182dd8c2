use Rattle.std.proofs.Common.{ap, ◌∙◌}
use Rattle.std.proofs.lemmas.Result.{MatchResult-weaker}
use Rattle.pair.specs.Joined.{joined}
use Rattle.pair.proofs.Halves.{first_part, second_part, erased_part, erase_chip_part}
use Rattle.pair.proofs.PairChip.erase.Goals as goal

pub returns-in-First-clause-chip : goal.returns-in-First-clause-chip
returns-in-First-clause-chip g c =
    let f = g.A.Chip.meaning c.args.self.now.first in
    let k = g.B.Chip.meaning c.args.self.now.second in
    erase_chip_part (first_part f k c.args.block c.in-First.block _ c.in_ok-block.ensures c.in-First.is) _ c.erase.ensures.chip

pub returns-in-First-clause-order : goal.returns-in-First-clause-order
returns-in-First-clause-order g c =
    let f = g.A.Chip.meaning c.args.self.now.first in
    let k = g.B.Chip.meaning c.args.self.now.second in
    MatchResult-weaker c.erase.result c.erase.ensures.order
    (λ _ r. ap (λ z. joined z k) (g.A.Chip.laws.told _ _ _ r) ∙ erased_part (first_part f k c.args.block c.in-First.block _ c.in_ok-block.ensures c.in-First.is))
    (λ _ e. ap (λ z. record { first = z; second = c.args.self.now.second }) e)

pub returns-in-Second-clause-chip : goal.returns-in-Second-clause-chip
returns-in-Second-clause-chip g c =
    let f = g.A.Chip.meaning c.args.self.now.first in
    let k = g.B.Chip.meaning c.args.self.now.second in
    erase_chip_part (second_part f k c.args.block c.in-Second.block _ c.in_ok-block.ensures c.in-Second.is) _ c.erase-in-Second.ensures.chip

pub returns-in-Second-clause-order : goal.returns-in-Second-clause-order
returns-in-Second-clause-order g c =
    let f = g.A.Chip.meaning c.args.self.now.first in
    let k = g.B.Chip.meaning c.args.self.now.second in
    MatchResult-weaker c.erase-in-Second.result c.erase-in-Second.ensures.order
    (λ _ r. ap (joined f) (g.B.Chip.laws.told _ _ _ r) ∙ erased_part (second_part f k c.args.block c.in-Second.block _ c.in_ok-block.ensures c.in-Second.is))
    (λ _ e. ap (λ z. record { first = c.args.self.now.first; second = z }) e)
