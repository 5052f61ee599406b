use Rattle.walrus_customs_laws.proofs.Parted.{customs_parted}
use Rattle.walrus_customs_laws.proofs.laws.customs_are_parted.Goals as goal

pub returns : goal.returns
returns c = customs_parted
