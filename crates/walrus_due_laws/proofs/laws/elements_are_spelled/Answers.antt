use Rattle.walrus_due_laws.proofs.Elements.{elements_spelled}
use Rattle.walrus_due_laws.proofs.laws.elements_are_spelled.Goals as goal

pub returns : goal.returns
returns c = elements_spelled
