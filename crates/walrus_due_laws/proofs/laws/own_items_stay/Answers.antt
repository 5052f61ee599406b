use Rattle.walrus_due_laws.proofs.Listed.{own_items_stay}
use Rattle.walrus_due_laws.proofs.laws.own_items_stay.Goals as goal

pub returns : goal.returns
returns c = own_items_stay
