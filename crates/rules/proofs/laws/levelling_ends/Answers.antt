use Rattle.rules.proofs.Kept.{levelling_ends}
use Rattle.rules.proofs.laws.levelling_ends.Goals as goal

pub returns : goal.returns
returns c = levelling_ends
