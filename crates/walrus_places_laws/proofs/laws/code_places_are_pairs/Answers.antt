use Rattle.walrus_places_laws.proofs.Sections.{code_pairs}
use Rattle.walrus_places_laws.proofs.laws.code_places_are_pairs.Goals as goal

pub returns : goal.returns
returns c = code_pairs c.bodies_are_spelled.ensures c.body_places_are_pairs.ensures c.numbers_follow.ensures.arguments c.numbers_follow.ensures.others c.locals_are_meant.ensures
