use Rattle.walrus_handler_types.proofs.Growing as growing
use Rattle.walrus_handler_types.proofs.laws.trees_are_typed.Goals as goal

pub returns : goal.returns
returns c = growing.trees_are_typed
