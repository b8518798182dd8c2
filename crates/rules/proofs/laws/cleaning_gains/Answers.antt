use Rattle.rules.proofs.Kept.{cleaning_gains}
use Rattle.rules.proofs.laws.cleaning_gains.Goals as goal

pub returns : goal.returns
returns c = cleaning_gains
