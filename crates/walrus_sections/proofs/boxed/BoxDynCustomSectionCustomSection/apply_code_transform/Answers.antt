use Rattle.std.proofs.Common.{◌≡◌, subst, ap}
use Rattle.std.specs.DynBox.{dyn_box_with}
use Rattle.walrus_sections.proofs.boxed.BoxDynCustomSectionCustomSection.apply_code_transform.Goals as goal

pub returns : goal.returns
returns g c =
    subst (λ o. dyn_box_with c.args.self.now c.deref_box_mut-1.result.now.0 c.apply_code_transform.new.self ≡ dyn_box_with c.args.self.now o.0 ((goal.CustomSection-dyn g o).transformed o.1 c.args.transform.now))
    c.deref_box_mut-1.ensures.value.1
    (ap (dyn_box_with c.args.self.now c.deref_box_mut-1.result.now.0) c.apply_code_transform.ensures)
