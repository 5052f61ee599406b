use Rattle.walrus_refusals.proofs.TreeLemmas.{tree_decided}
use Rattle.walrus_refusals.proofs.trees.has_tree.Goals as goal

pub returns-in-Local : goal.returns-in-Local
returns-in-Local c = tree_decided c.check_tree.result c.builder.result.now c.entry_block.result c.in-Local.local c.args.kind.now c.builder.ensures c.entry_block.ensures c.in-Local.is c.check_tree.ensures
