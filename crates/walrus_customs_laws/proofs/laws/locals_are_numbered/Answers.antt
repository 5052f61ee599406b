use Rattle.walrus_customs_laws.proofs.Numbering.{locals_numbered}
use Rattle.walrus_customs_laws.proofs.laws.locals_are_numbered.Goals as goal

pub returns : goal.returns
returns c = locals_numbered
