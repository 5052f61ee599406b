use Rattle.std.proofs.Common.{subst}
use Rattle.walrus_sections.specs.Answers.{Pushes}
use Rattle.walrus_sections.proofs.boxed.BoxDynCustomSectionCustomSection.add_gc_roots.Goals as goal

pub returns : goal.returns
returns g c =
    subst (λ o. Pushes ((goal.CustomSection-dyn g o).gc_roots o.1) c.args.roots.now c.add_gc_roots.new.roots c.add_gc_roots.result) c.deref_box-1.ensures.1 c.add_gc_roots.ensures
