use Rattle.walrus_stands_laws.proofs.Listed.{declaring_living}
use Rattle.walrus_stands_laws.proofs.laws.declaring_plans_list_living.Goals as goal

pub returns : goal.returns
returns c = declaring_living
