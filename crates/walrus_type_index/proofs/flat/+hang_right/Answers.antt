use Rattle.std.proofs.Common.{sym}
use Rattle.walrus_type_index.specs.Flat.{slots, link_of}
use Rattle.walrus_type_index.proofs.FlatJoins.{hung_right}
use Rattle.walrus_type_index.proofs.flat.+hang_right.Goals as goal

pub returns-in-Some : goal.returns-in-Some
returns-in-Some t c =
    hung_right (slots c.args.nodes.now) (slots c.hang_right-side.new.nodes) (slots c.over-in-Some.new.nodes) (link_of c.in-Some.node) c.args.left c.args.top c.args.right c.hang_right-side.result
    c.over-in-Some.result (sym c.in-Some.ensures) c.hang_right-side.ensures c.over-in-Some.ensures
