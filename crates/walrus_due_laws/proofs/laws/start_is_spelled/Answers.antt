use Rattle.walrus_due_laws.proofs.Starts.{start_spelled}
use Rattle.walrus_due_laws.proofs.laws.start_is_spelled.Goals as goal

pub returns : goal.returns
returns c = start_spelled
