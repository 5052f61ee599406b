use Rattle.walrus_items_into.proofs.FiledLemmas.{modules_are_filed}
use Rattle.walrus_items_into.proofs.laws.filled_modules_are_filed.Goals as goal

pub returns : goal.returns
returns g c = modules_are_filed c.types_name_below.ensures c.read_types_are_filed.ensures
