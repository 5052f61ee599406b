use Rattle.walrus_walks.proofs.ConstTells.{refs_tell_names, values_tell_names}
use Rattle.walrus_walks.proofs.visit_laws.types_tell_their_names.Goals as goal

pub returns-clause-references : goal.returns-clause-references
returns-clause-references c = refs_tell_names

pub returns-clause-values : goal.returns-clause-values
returns-clause-values c = values_tell_names
