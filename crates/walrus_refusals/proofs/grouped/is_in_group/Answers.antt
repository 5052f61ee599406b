use Rattle.walrus_items.specs.Items.{group_of}
use Rattle.walrus_refusals.proofs.GroupedLemmas.{decided}
use Rattle.walrus_refusals.proofs.grouped.is_in_group.Goals as goal

pub returns : goal.returns
returns c =
    decided c.args.types.now c.types_are_grouped.ensures c.args.id c.args.name (λ g. group_of g.now) c.rec_group_for_type.result c.rec_group_for_type-2.result c.rec_group_for_type.ensures c.rec_group_for_type-2.ensures c.are_one.result c.are_one.ensures
