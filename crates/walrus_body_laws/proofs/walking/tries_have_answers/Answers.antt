use Rattle.walrus_body_laws.proofs.Answers.{tries_have}
use Rattle.walrus_body_laws.proofs.walking.tries_have_answers.Goals as goal

pub returns : goal.returns
returns c = tries_have c.operators_come_back.ensures c.names_are_told.ensures c.names_are_renamed.ensures c.operators_in_range_are_spelled.ensures
