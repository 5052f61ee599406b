use Rattle.walrus_operators.proofs.Moves.{operators_move}
use Rattle.walrus_operators.proofs.laws.offsets_of_operators_move.Goals as goal

pub returns : goal.returns
returns c = operators_move
