use Rattle.walrus_rewritten_laws.proofs.Planned.{modules_planned}
use Rattle.walrus_rewritten_laws.proofs.laws.written_modules_are_planned.Goals as goal

pub returns : goal.returns
returns g c = modules_planned c.written_modules_are_ready.ensures c.emissions_have_plans.ensures c.emissions_serve_code.ensures c.facts_stand_in_order.ensures
