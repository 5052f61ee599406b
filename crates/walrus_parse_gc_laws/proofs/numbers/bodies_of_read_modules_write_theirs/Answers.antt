use Rattle.walrus_parse_gc_laws.proofs.NumbersTextLemmas.{bodies_write}
use Rattle.walrus_parse_gc_laws.proofs.numbers.bodies_of_read_modules_write_theirs.Goals as goal

pub returns : goal.returns
returns g c = bodies_write c.bodies_of_read_modules_have_their_numbers.ensures c.bodies_of_read_modules_mean_theirs.ensures c.bodies_are_meant.ensures c.renamings_compose.ensures
