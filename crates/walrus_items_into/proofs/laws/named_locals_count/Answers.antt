use Rattle.walrus_items_into.proofs.CountLemmas.{locals_count}
use Rattle.walrus_items_into.proofs.laws.named_locals_count.Goals as goal

pub returns : goal.returns
returns g c = locals_count c.read_bodies_are_paired.ensures
