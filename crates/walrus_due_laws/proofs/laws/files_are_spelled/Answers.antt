use Rattle.walrus_due_laws.proofs.Plain.{files_spelled}
use Rattle.walrus_due_laws.proofs.laws.files_are_spelled.Goals as goal

pub returns : goal.returns
returns c = files_spelled
