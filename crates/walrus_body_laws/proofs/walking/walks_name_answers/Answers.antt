use Rattle.walrus_body_laws.proofs.Answers.{walks_name}
use Rattle.walrus_body_laws.proofs.walking.walks_name_answers.Goals as goal

pub returns : goal.returns
returns c = walks_name c.operators_come_back.ensures c.names_are_told.ensures c.names_are_renamed.ensures c.operators_in_range_are_spelled.ensures
