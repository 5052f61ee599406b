use Rattle.walrus_builder.specs.OwnIds.{new_have_own_ids, edits_keep_own_ids, added_have_own_ids}
use Rattle.walrus_builder.proofs.laws.sequences_have_their_own_ids.Goals as goal

pub returns-clause-new : goal.returns-clause-new
returns-clause-new c = new_have_own_ids

pub returns-clause-edited : goal.returns-clause-edited
returns-clause-edited c = edits_keep_own_ids

pub returns-clause-added : goal.returns-clause-added
returns-clause-added c = added_have_own_ids
