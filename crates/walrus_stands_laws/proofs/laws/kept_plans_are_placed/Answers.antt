use Rattle.walrus_stands_laws.proofs.Placed.{plans_placed}
use Rattle.walrus_stands_laws.proofs.laws.kept_plans_are_placed.Goals as goal

pub returns : goal.returns
returns c = plans_placed c.read_files_are_orderly.ensures
