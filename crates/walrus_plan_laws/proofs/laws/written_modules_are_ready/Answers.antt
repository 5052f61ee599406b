use Rattle.walrus_plan_laws.proofs.Written.{written_modules_are_ready}
use Rattle.walrus_plan_laws.proofs.laws.written_modules_are_ready.Goals as goal

pub returns : goal.returns
returns g c = written_modules_are_ready
