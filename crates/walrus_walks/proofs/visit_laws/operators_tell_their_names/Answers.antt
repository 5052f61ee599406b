use Rattle.walrus_walks.proofs.ConstTells.{tells_renamed, tells_all_names}
use Rattle.walrus_walks.proofs.visit_laws.operators_tell_their_names.Goals as goal

pub returns-clause-renamed : goal.returns-clause-renamed
returns-clause-renamed c = tells_renamed

pub returns-clause-all : goal.returns-clause-all
returns-clause-all c = tells_all_names
