use Rattle.std.proofs.Common.{◌∙◌, arith, map}
use Rattle.std.specs.Option.{option_map, option_and_then}
use Rattle.std.proofs.lemmas.List.{length-map}
use Rattle.walrus_type_index.specs.walrus_items.Items.{group_of}
use Rattle.walrus_type_arenas.specs.Table.{without_marked}
use Rattle.walrus_type_arenas.proofs.SweepLemmas.{swept-step, swept-all}
use Rattle.walrus_type_arenas.proofs.delete.sweep.Goals as goal

pub loop-index-preserved : goal.loop-index-preserved
loop-index-preserved c =
    swept-step (option_and_then (without_marked c.args.marks.now)) c.args.groups.now.slots c.loop-index.groups.slots c.sweep_at.new.groups.slots c.loop-index.index c.from_index.result c.from_index.ensures
    c.loop-index.invariant c.sweep_at.ensures

pub returns : goal.returns
returns c =
    c.loop-index.invariant
    ∙ swept-all (option_and_then (without_marked c.args.marks.now)) c.loop-index.index (map (option_map group_of) c.args.groups.now.slots)
    (omega (arith, c.loop-index-test.false, c.loop-index.auto.index-end, c.index-index-end.ensures, c.next_id.ensures, length-map c.args.groups.now.slots (option_map group_of)))
