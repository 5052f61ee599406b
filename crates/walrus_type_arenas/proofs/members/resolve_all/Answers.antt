use Rattle.std.proofs.Common.{length, subst, sym}
use Rattle.walrus_type_index.proofs.walrus_forms.ListLemmas.{All-of_map}
use Rattle.walrus_type_index.specs.walrus_items.walrus_forms.Records.{record_kind}
use Rattle.walrus_type_index.specs.walrus_items.walrus_forms.Renaming.{KindBelow}
use Rattle.walrus_type_arenas.proofs.members.resolve_all.Goals as goal

pub resolve-requires : goal.resolve-requires
resolve-requires c = subst (λ ty. KindBelow (length c.args.ids.now) (record_kind ty)) (sym c.ty-item.is)
    (All-of_map (KindBelow (length c.args.ids.now)) record_kind c.args.types.now c.loop-ty.ty-index c.ty-item.result c.loop-ty-test.true c.requires)
