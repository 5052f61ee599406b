use Rattle.walrus_customs_laws.proofs.Stays.{parts_keep}
use Rattle.walrus_customs_laws.proofs.laws.parts_keep_names.Goals as goal

pub returns : goal.returns
returns c = parts_keep
