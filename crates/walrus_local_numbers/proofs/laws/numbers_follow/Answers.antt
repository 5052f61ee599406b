use Rattle.walrus_local_numbers.proofs.Following.{arguments_first, others_follow}
use Rattle.walrus_local_numbers.proofs.laws.numbers_follow.Goals as goal

pub returns-clause-arguments : goal.returns-clause-arguments
returns-clause-arguments c = arguments_first

pub returns-clause-others : goal.returns-clause-others
returns-clause-others c = others_follow
