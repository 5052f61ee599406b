use Rattle.walrus_code_laws.proofs.Spellings.{code_spelled}
use Rattle.walrus_code_laws.proofs.laws.code_is_spelled.Goals as goal

pub returns : goal.returns
returns c = code_spelled c.bodies_are_spelled.ensures c.numbers_follow.ensures.arguments c.numbers_follow.ensures.others c.locals_are_meant.ensures
