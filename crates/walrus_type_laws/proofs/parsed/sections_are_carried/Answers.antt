use Rattle.walrus_type_laws.proofs.CarriedLemmas.{carried-law}
use Rattle.walrus_type_laws.proofs.parsed.sections_are_carried.Goals as goal

pub returns : goal.returns
returns c = carried-law
