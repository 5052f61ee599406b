use Rattle.walrus_declared_laws.proofs.Marks.{undeclared_declared}
use Rattle.walrus_declared_laws.proofs.laws.undeclared_are_declared.Goals as goal

pub returns : goal.returns
returns g c = undeclared_declared c.wants_are_told.ensures
