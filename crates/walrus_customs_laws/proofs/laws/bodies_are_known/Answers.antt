use Rattle.walrus_customs_laws.proofs.Known.{bodies_known}
use Rattle.walrus_customs_laws.proofs.laws.bodies_are_known.Goals as goal

pub returns : goal.returns
returns c = bodies_known c.used_locals_are_meant.ensures c.locals_are_numbered.ensures
