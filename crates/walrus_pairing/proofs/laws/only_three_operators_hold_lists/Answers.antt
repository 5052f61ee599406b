use Rattle.walrus_pairing.proofs.ListRows.{lists_are_three}
use Rattle.walrus_pairing.proofs.laws.only_three_operators_hold_lists.Goals as goal

pub returns : goal.returns
returns c = lists_are_three
