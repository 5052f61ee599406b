use Rattle.std.proofs.Common.{rules, ◌≡◌, []}
use Rattle.std.specs.declared.result.Result.TheVariants.{Ok}
use Rattle.walrus_sections.proofs.PushLemmas.{pushes-none}
use Rattle.walrus_sections.proofs.sections.Sections.add_gc_roots.Goals as goal

pub returns : goal.returns
returns g c =
    let none : c.loop-section.section-iterator ≡ [] = search rules in
    c.loop-section.invariant.rest _ (Ok tt) (rw none (pushes-none _))
