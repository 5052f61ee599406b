use Rattle.std.proofs.Common.{subst}
use Rattle.walrus_index_maps.specs.Views.{indices}
use Rattle.walrus_sections.specs.Answers.{Gives}
use Rattle.walrus_sections.proofs.boxed.BoxDynCustomSectionCustomSection.data.Goals as goal

pub returns : goal.returns
returns g c =
    subst (λ o. Gives ((goal.CustomSection-dyn g o).contents o.1 (indices c.args.ids_to_indices.now)) c.data.result) c.deref_box-1.ensures.1 c.data.ensures
