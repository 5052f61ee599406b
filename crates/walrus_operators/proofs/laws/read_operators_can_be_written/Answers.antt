use Rattle.walrus_operators.proofs.Again.{writable}
use Rattle.walrus_operators.proofs.laws.read_operators_can_be_written.Goals as goal

pub returns : goal.returns
returns c = writable
