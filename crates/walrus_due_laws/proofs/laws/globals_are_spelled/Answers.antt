use Rattle.walrus_due_laws.proofs.Globals.{globals_spelled}
use Rattle.walrus_due_laws.proofs.laws.globals_are_spelled.Goals as goal

pub returns : goal.returns
returns c = globals_spelled
