use Rattle.walrus_walks.proofs.Plain.{changes_are_plain}
use Rattle.walrus_walks.proofs.laws.changes_are_plain.Goals as goal

pub returns : goal.returns
returns g c = changes_are_plain g.V.VisitorMut.step
