use Rattle.walrus_pass_laws.proofs.ServedLemmas.{are_served}
use Rattle.walrus_pass_laws.proofs.passes.linked_are_served.Goals as goal

pub returns : goal.returns
returns c = are_served c.walk_is_plain.ensures.plain c.held_are_nested.ensures c.trees_are_nested.ensures
