use Rattle.walrus_plan_laws.proofs.Behind.{segments_name_no_locals}
use Rattle.walrus_plan_laws.proofs.laws.segments_name_no_locals.Goals as goal

pub returns : goal.returns
returns g c = segments_name_no_locals
