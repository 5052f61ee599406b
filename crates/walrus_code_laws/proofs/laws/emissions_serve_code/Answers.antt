use Rattle.walrus_code_laws.proofs.Emissions.{emissions_serve}
use Rattle.walrus_code_laws.proofs.laws.emissions_serve_code.Goals as goal

pub returns : goal.returns
returns g c = emissions_serve _
