use Rattle.walrus_customs_laws.proofs.Parted.{payloads_spelled}
use Rattle.walrus_customs_laws.proofs.laws.payloads_are_spelled.Goals as goal

pub returns : goal.returns
returns g c = payloads_spelled _ c.names_are_spelled.ensures c.producers_are_spelled.ensures
