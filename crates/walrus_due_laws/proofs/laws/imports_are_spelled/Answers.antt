use Rattle.walrus_due_laws.proofs.Imports.{imports_spelled}
use Rattle.walrus_due_laws.proofs.laws.imports_are_spelled.Goals as goal

pub returns : goal.returns
returns c = imports_spelled
