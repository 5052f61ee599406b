use Rattle.walrus_due_laws.proofs.Exports.{exports_spelled}
use Rattle.walrus_due_laws.proofs.laws.exports_are_spelled.Goals as goal

pub returns : goal.returns
returns c = exports_spelled
