use Rattle.walrus_operators.proofs.Again.{shortest}
use Rattle.walrus_operators.proofs.laws.written_operators_are_shortest.Goals as goal

pub returns : goal.returns
returns c = shortest
