use Rattle.walrus_customs_laws.proofs.Sections.{read_customs_spelled}
use Rattle.walrus_customs_laws.proofs.laws.read_customs_are_spelled.Goals as goal

pub returns : goal.returns
returns g c = read_customs_spelled _ c.customs_are_spelled.ensures
