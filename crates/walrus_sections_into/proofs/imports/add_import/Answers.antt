use Rattle.std.proofs.Common.{sym, ◌∙◌, subst}
use Rattle.walrus_index_maps.specs.Views.{ids}
use Rattle.walrus_sections_into.specs.Becomes.{look_of}
use Rattle.walrus_sections_into.specs.Imports.{KindBecomes}
use Rattle.walrus_sections_into.proofs.imports.add_import.Goals as goal

pub returns-clause-added : goal.returns-clause-added
returns-clause-added c =
    let all = c.in_ok-add.ensures.added in
    let it = all.2 in
    let look = look_of (ids c.args.maps.now) in
    let kind = subst (λ n. KindBecomes look c.args.import.now.space n c.in_ok-kind.kind) c.in_ok-number.ensures.found c.in_ok-kind.ensures.becomes in (
      it.0,
      record { id = it.1.id_is; space_name = it.1.module_is; name = it.1.name_is; kind = subst (KindBecomes look c.args.import.now.space c.args.import.now.index) (sym (it.1.kind_is ∙ all.1)) kind },
      it.2,
    )
