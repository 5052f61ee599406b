use Rattle.walrus_reasons.proofs.RootLemmas.{roots_listed}
use Rattle.walrus_reasons.proofs.laws.roots_are_listed.Goals as goal

pub returns : goal.returns
returns c = roots_listed
