use Rattle.walrus_declared_laws.proofs.Emitted.{emissions_declare}
use Rattle.walrus_declared_laws.proofs.laws.emissions_declare.Goals as goal

pub returns : goal.returns
returns c = emissions_declare
