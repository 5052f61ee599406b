use Rattle.walrus_stands_laws.proofs.Types.{types_listed}
use Rattle.walrus_stands_laws.proofs.laws.left_types_are_listed.Goals as goal

pub returns : goal.returns
returns c = types_listed
