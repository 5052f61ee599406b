use Rattle.walrus_customs_laws.proofs.Locals.{used_listed}
use Rattle.walrus_customs_laws.proofs.laws.used_names_are_listed.Goals as goal

pub returns : goal.returns
returns c = used_listed
