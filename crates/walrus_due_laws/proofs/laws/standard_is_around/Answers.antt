use Rattle.walrus_due_laws.proofs.Standard.{standard_around}
use Rattle.walrus_due_laws.proofs.laws.standard_is_around.Goals as goal

pub returns : goal.returns
returns c = standard_around
