use Rattle.std.proofs.Common.{sym}
use Rattle.walrus_type_index.specs.Flat.{slots, link_of}
use Rattle.walrus_type_index.proofs.FlatJoins.{hung_right}
use Rattle.walrus_type_index.proofs.flat.turn_right.Goals as goal

pub returns-in-Some : goal.returns-in-Some
returns-in-Some c =
    hung_right (slots c.args.nodes.now) (slots c.link-in-Some.new.nodes) (slots c.link-in-Some-2.new.nodes) (link_of c.in-Some.side) c.args.left c.args.top c.args.right c.args.top c.args.left
    (sym c.in-Some.ensures) c.link-in-Some.ensures c.link-in-Some-2.ensures
