use Rattle.walrus_parse_gc_laws.proofs.NumberLemmas.{bodies_have}
use Rattle.walrus_parse_gc_laws.proofs.numbers.bodies_of_read_modules_have_their_numbers.Goals as goal

pub returns : goal.returns
returns g c =
    bodies_have c.bodies_of_read_modules_have_their_locals.ensures c.functions_of_read_modules_are_whole.ensures c.used_locals_are_meant.ensures c.numbers_follow.ensures.arguments c.numbers_follow.ensures.others
