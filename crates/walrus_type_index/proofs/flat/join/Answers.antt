use Rattle.std.proofs.Common.{sym}
use Rattle.walrus_type_index.specs.Flat.{slots, link_of}
use Rattle.walrus_type_index.proofs.FlatEdits.{merged}
use Rattle.walrus_type_index.proofs.flat.join.Goals as goal

pub returns-in-Some : goal.returns-in-Some
returns-in-Some c =
    merged (slots c.args.nodes.now) (slots c.split_first-first.new.nodes) (slots c.between.new.nodes) c.args.left c.args.right c.args.fuel (link_of c.in-Some.field-0)
    c.split_first-first.result.0 c.split_first-first.result.1 c.between.result (sym c.in-Some.ensures) c.split_first-first.ensures c.between.ensures
