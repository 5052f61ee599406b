use Rattle.walrus_items_into.proofs.FunctionLemmas.{functions_stand}
use Rattle.walrus_items_into.proofs.laws.filled_functions_stand.Goals as goal

pub returns : goal.returns
returns g c = functions_stand c.types_name_below.ensures c.new_types_stand.ensures c.read_functions_stand.ensures c.read_bodies_are_paired.ensures
