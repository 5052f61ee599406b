use Rattle.walrus_tree.proofs.Texts.{text_is_plain, plain_text_is_one}
use Rattle.walrus_tree.proofs.laws.text_is_plain.Goals as goal

pub returns-clause-plain : goal.returns-clause-plain
returns-clause-plain c = text_is_plain c.ranks_fit.ensures

pub returns-clause-one : goal.returns-clause-one
returns-clause-one c = plain_text_is_one c.ranks_fit.ensures
