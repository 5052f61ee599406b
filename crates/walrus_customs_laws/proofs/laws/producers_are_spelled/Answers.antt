use Rattle.walrus_customs_laws.proofs.Payloads.{producers_spelled}
use Rattle.walrus_customs_laws.proofs.laws.producers_are_spelled.Goals as goal

pub returns : goal.returns
returns c = producers_spelled
