use Rattle.walrus_type_index.specs.Flat.{slots}
use Rattle.walrus_type_index.proofs.FlatLemmas.{linked}
use Rattle.walrus_type_index.proofs.FlatJoins.{over_left, over_right}
use Rattle.walrus_type_index.proofs.flat.over.Goals as goal

pub returns-then-first-saturating_add : goal.returns-then-first-saturating_add
returns-then-first-saturating_add c =
    over_left (slots c.args.nodes.now) (slots c.lean_left-side.new.nodes) (slots c.turn_right.new.nodes) c.args.left c.args.top c.args.right c.lean_left-side.result c.turn_right.result
    c.lean_left-side.ensures c.turn_right.ensures

pub returns-then-second-saturating_add : goal.returns-then-second-saturating_add
returns-then-second-saturating_add c =
    over_right (slots c.args.nodes.now) (slots c.lean_right-side.new.nodes) (slots c.turn_left.new.nodes) c.args.left c.args.top c.args.right c.lean_right-side.result c.turn_left.result
    c.lean_right-side.ensures c.turn_left.ensures

pub returns : goal.returns
returns c = linked (slots c.args.nodes.now) (slots c.set.new.nodes) c.args.left c.args.top c.args.right c.set.ensures
