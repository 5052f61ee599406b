use Rattle.walrus_walks.proofs.Plain.{held_are_nested}
use Rattle.walrus_walks.proofs.laws.held_are_nested.Goals as goal

pub returns : goal.returns
returns c = held_are_nested
