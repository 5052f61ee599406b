use Rattle.walrus_pass_laws.proofs.Kept.{references_meant}
use Rattle.walrus_pass_laws.proofs.meant.references_are_meant.Goals as goal

pub returns : goal.returns
returns c = references_meant c.walk_is_plain.ensures.plain c.held_are_nested.ensures c.trees_are_nested.ensures c.expressions_tell_their_operators.ensures c.bodies_name_what_is_told.ensures
