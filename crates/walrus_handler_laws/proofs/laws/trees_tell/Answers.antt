use Rattle.walrus_handler_laws.proofs.Counting.{trees_tell}
use Rattle.walrus_handler_laws.proofs.laws.trees_tell.Goals as goal

pub returns : goal.returns
returns c = trees_tell
