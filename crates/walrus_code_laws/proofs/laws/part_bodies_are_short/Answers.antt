use Rattle.walrus_code_laws.proofs.Short.{part_short}
use Rattle.walrus_code_laws.proofs.laws.part_bodies_are_short.Goals as goal

pub returns : goal.returns
returns c = part_short c.bodies_are_spelled.ensures c.numbers_follow.ensures.arguments c.numbers_follow.ensures.others c.locals_are_meant.ensures
