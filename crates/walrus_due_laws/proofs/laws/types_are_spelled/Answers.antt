use Rattle.walrus_due_laws.proofs.Types.{types_spelled}
use Rattle.walrus_due_laws.proofs.laws.types_are_spelled.Goals as goal

pub returns : goal.returns
returns c = types_spelled
