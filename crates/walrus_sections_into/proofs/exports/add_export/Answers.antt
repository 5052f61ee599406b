use Rattle.std.proofs.Common.{sym, ◌∙◌, subst}
use Rattle.walrus_index_maps.specs.Views.{ids}
use Rattle.walrus_sections_into.specs.Becomes.{look_of}
use Rattle.walrus_sections_into.specs.Exports.{ItemBecomes}
use Rattle.walrus_sections_into.proofs.exports.add_export.Goals as goal

pub returns-clause-added : goal.returns-clause-added
returns-clause-added c =
    let all = c.in_ok-add.ensures.added in
    let it = all.2 in (
      it.0,
      record { id = it.1.id_is; name = it.1.name_is; item = subst (ItemBecomes (look_of (ids c.args.maps.now)) c.args.export.now.space c.args.export.now.index) (sym (it.1.item_is ∙ all.1)) c.in_ok-item.ensures.becomes },
      it.2,
    )
