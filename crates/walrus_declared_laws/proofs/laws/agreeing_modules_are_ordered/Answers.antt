use Rattle.walrus_declared_laws.proofs.Agreed.{agreeing_ordered}
use Rattle.walrus_declared_laws.proofs.laws.agreeing_modules_are_ordered.Goals as goal

pub returns : goal.returns
returns c = agreeing_ordered
