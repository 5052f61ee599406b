use Rattle.walrus_customs_laws.proofs.Payloads.{names_spelled}
use Rattle.walrus_customs_laws.proofs.laws.names_are_spelled.Goals as goal

pub returns : goal.returns
returns c = names_spelled
