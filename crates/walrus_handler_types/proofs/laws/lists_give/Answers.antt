use Rattle.walrus_handler_types.proofs.Growing as growing
use Rattle.walrus_handler_types.proofs.laws.lists_give.Goals as goal

pub returns : goal.returns
returns c = growing.lists_give
