use Rattle.std.proofs.Common.{sym, arith, ◌-◌}
use Rattle.walrus_type_index.specs.Flat.{slots, link_of}
use Rattle.walrus_type_index.proofs.FlatEdits.{first_under}
use Rattle.walrus_type_index.proofs.flat.+split_first.Goals as goal

pub returns-in-Some-node_at : goal.returns-in-Some-node_at
returns-in-Some-node_at t c =
    first_under (slots c.args.nodes.now) (slots c.split_first-first.new.nodes) (slots c.over.new.nodes) c.args.top (c.args.fuel - 1) c.args.fuel (link_of c.in-Some.node) (link_of c.in-Some-node_at.field-0)
    c.split_first-first.result.0 c.split_first-first.result.1 c.over.result (sym c.in-Some.ensures) (sym c.in-Some-node_at.ensures) (omega (arith, c.if-fuel-eq0.false)) c.split_first-first.ensures c.over.ensures
