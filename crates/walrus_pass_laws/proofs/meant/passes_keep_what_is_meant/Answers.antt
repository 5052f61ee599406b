use Rattle.walrus_pass_laws.proofs.Kept.{passes_meant}
use Rattle.walrus_pass_laws.proofs.meant.passes_keep_what_is_meant.Goals as goal

pub returns : goal.returns
returns c = passes_meant c.walk_is_plain.ensures.plain c.held_are_nested.ensures c.trees_are_nested.ensures c.expressions_tell_their_operators.ensures c.bodies_name_what_is_told.ensures
