use Rattle.walrus_customs_laws.proofs.Locals.{local_names_listed}
use Rattle.walrus_customs_laws.proofs.laws.local_names_are_listed.Goals as goal

pub returns : goal.returns
returns c = local_names_listed
