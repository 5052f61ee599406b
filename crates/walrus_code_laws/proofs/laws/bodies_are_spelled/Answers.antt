use Rattle.walrus_code_laws.proofs.Bodies.{bodies_spelled}
use Rattle.walrus_code_laws.proofs.laws.bodies_are_spelled.Goals as goal

pub returns : goal.returns
returns c = bodies_spelled c.numbers_follow.ensures.arguments c.numbers_follow.ensures.others c.text_is_operators.ensures.bytes c.bodies_are_meant.ensures c.locals_are_meant.ensures
