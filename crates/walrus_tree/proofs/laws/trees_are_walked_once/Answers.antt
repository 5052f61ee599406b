use Rattle.walrus_tree.proofs.Walked.{trees_are_walked_once}
use Rattle.walrus_tree.proofs.laws.trees_are_walked_once.Goals as goal

pub returns : goal.returns
returns c = trees_are_walked_once c.walk_is_plain.ensures.plain c.held_are_nested.ensures
