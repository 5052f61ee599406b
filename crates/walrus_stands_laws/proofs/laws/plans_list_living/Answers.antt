use Rattle.walrus_stands_laws.proofs.Listed.{plans_living}
use Rattle.walrus_stands_laws.proofs.laws.plans_list_living.Goals as goal

pub returns : goal.returns
returns g c = plans_living
