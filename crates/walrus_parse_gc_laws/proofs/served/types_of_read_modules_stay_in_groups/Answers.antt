use Rattle.walrus_parse_gc_laws.proofs.StayLemmas.{types_stay}
use Rattle.walrus_parse_gc_laws.proofs.served.types_of_read_modules_stay_in_groups.Goals as goal

pub returns : goal.returns
returns g c = types_stay c.read_modules_have_handlers.ensures c.bodies_read_files.ensures
