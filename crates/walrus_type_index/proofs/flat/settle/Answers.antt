use Rattle.walrus_type_index.specs.Flat.{slots}
use Rattle.walrus_type_index.proofs.FlatLemmas.{linked}
use Rattle.walrus_type_index.proofs.flat.settle.Goals as goal

pub returns-then-is_as_high : goal.returns-then-is_as_high
returns-then-is_as_high c = linked (slots c.args.nodes.now) (slots c.set.new.nodes) c.args.left c.args.top c.args.right c.set.ensures
