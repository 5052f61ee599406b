use Rattle.std.proofs.Common.{sym}
use Rattle.walrus_type_index.specs.Flat.{slots, link_of}
use Rattle.walrus_type_index.proofs.FlatJoins.{hung_left}
use Rattle.walrus_type_index.proofs.flat.+hang_left.Goals as goal

pub returns-in-Some : goal.returns-in-Some
returns-in-Some t c =
    hung_left (slots c.args.nodes.now) (slots c.hang_left-side.new.nodes) (slots c.over-in-Some.new.nodes) (link_of c.in-Some.node) c.args.left c.args.top c.args.right c.hang_left-side.result
    c.over-in-Some.result (sym c.in-Some.ensures) c.hang_left-side.ensures c.over-in-Some.ensures
