use Rattle.walrus_tree.proofs.Nests.{trees_are_nested}
use Rattle.walrus_tree.proofs.laws.trees_are_nested.Goals as goal

pub returns : goal.returns
returns c = trees_are_nested
