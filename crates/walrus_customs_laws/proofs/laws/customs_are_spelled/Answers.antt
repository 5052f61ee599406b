use Rattle.walrus_customs_laws.proofs.Sections.{customs_spelled}
use Rattle.walrus_customs_laws.proofs.laws.customs_are_spelled.Goals as goal

pub returns : goal.returns
returns g c = customs_spelled _
