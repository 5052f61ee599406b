use Rattle.walrus_items_into.proofs.FiledLemmas.{modules_are_numbered}
use Rattle.walrus_items_into.proofs.laws.filled_modules_are_numbered.Goals as goal

pub returns : goal.returns
returns g c = modules_are_numbered c.types_name_below.ensures c.new_types_stand.ensures
