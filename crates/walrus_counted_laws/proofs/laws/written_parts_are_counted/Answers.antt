use Rattle.walrus_counted_laws.proofs.Counted.{parts_counted}
use Rattle.walrus_counted_laws.proofs.laws.written_parts_are_counted.Goals as goal

pub returns : goal.returns
returns g c = parts_counted c.plans_list_living.ensures
