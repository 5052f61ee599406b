use Rattle.walrus_type_index.specs.Flat.{slots}
use Rattle.walrus_type_index.proofs.FlatLemmas.{linked}
use Rattle.walrus_type_index.proofs.flat.link.Goals as goal

pub returns : goal.returns
returns c = linked (slots c.args.nodes.now) (slots c.set.new.nodes) c.args.left c.args.top c.args.right c.set.ensures
