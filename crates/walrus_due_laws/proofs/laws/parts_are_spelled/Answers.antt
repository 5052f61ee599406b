use Rattle.walrus_due_laws.proofs.Standard.{parts_spelled}
use Rattle.walrus_due_laws.proofs.laws.parts_are_spelled.Goals as goal

pub returns : goal.returns
returns c = parts_spelled
