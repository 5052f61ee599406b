use Rattle.walrus_parse_laws.proofs.WalkedLemmas.{walks_inside}
use Rattle.walrus_parse_laws.proofs.linked.walks_of_read_bodies_name_locals.Goals as goal

pub returns : goal.returns
returns g c = walks_inside c.bodies_of_read_modules_have_their_locals.ensures c.functions_of_read_modules_are_whole.ensures c.walks_name_used_locals.ensures
