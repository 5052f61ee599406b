use Rattle.walrus_plan_laws.proofs.Plans.{emissions_have_plans}
use Rattle.walrus_plan_laws.proofs.laws.emissions_have_plans.Goals as goal

pub returns : goal.returns
returns g c = emissions_have_plans
