use Rattle.walrus_customs_laws.proofs.Stays.{declaring_keeps}
use Rattle.walrus_customs_laws.proofs.laws.declaring_keeps_names.Goals as goal

pub returns : goal.returns
returns c = declaring_keeps
