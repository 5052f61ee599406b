use Rattle.walrus_due_laws.proofs.Tables.{tables_spelled}
use Rattle.walrus_due_laws.proofs.laws.tables_are_spelled.Goals as goal

pub returns : goal.returns
returns c = tables_spelled
