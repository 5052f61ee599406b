use Rattle.std.proofs.Common.{◌≡◌, subst}
use Rattle.walrus_sections.proofs.boxed.BoxDynCustomSectionCustomSection.name.Goals as goal

pub returns : goal.returns
returns g c =
    subst (λ o. c.name.result.now ≡ (goal.CustomSection-dyn g o).own_name o.1) c.deref_box-1.ensures.1 c.name.ensures
