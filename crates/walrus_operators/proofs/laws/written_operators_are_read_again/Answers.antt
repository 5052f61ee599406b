use Rattle.walrus_operators.proofs.Again.{read_again}
use Rattle.walrus_operators.proofs.laws.written_operators_are_read_again.Goals as goal

pub returns : goal.returns
returns c = read_again
