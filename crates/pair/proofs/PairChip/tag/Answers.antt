use Rattle.std.proofs.Common.{◌∙◌}
use Rattle.pair.proofs.Halves.{first_part, second_part, tag_part}
use Rattle.pair.proofs.PairChip.tag.Goals as goal

pub returns-in-First : goal.returns-in-First
returns-in-First g c =
    let f = g.A.Chip.meaning c.args.self.now.first in
    let k = g.B.Chip.meaning c.args.self.now.second in
    c.tag.ensures ∙ tag_part (first_part f k c.args.block c.in-First.block _ c.in_ok-block.ensures c.in-First.is) c.args.page

pub returns-in-Second : goal.returns-in-Second
returns-in-Second g c =
    let f = g.A.Chip.meaning c.args.self.now.first in
    let k = g.B.Chip.meaning c.args.self.now.second in
    c.tag-in-Second.ensures ∙ tag_part (second_part f k c.args.block c.in-Second.block _ c.in_ok-block.ensures c.in-Second.is) c.args.page
