use Rattle.walrus_places_laws.proofs.Bodies.{body_pairs}
use Rattle.walrus_places_laws.proofs.laws.body_places_are_pairs.Goals as goal

pub returns : goal.returns
returns c = body_pairs c.numbers_follow.ensures.arguments c.numbers_follow.ensures.others c.text_is_operators.ensures.bytes c.text_is_operators.ensures.places c.bodies_are_meant.ensures c.locals_are_meant.ensures
