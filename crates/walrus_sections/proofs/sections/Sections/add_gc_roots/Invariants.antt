use Rattle.std.proofs.Common.{List}
use Rattle.std.specs.declared.result.Result.{Result}
use Rattle.walrus_arena.specs.Arena.{entries}
use Rattle.walrus_roots.specs.declared.item.Item.{Item}
use Rattle.walrus_sections.specs.Answers.{Pushes}
use Rattle.walrus_sections.specs.Sections.{pushed}
use Rattle.walrus_sections.specs.declared.fault.SectionFault.{SectionFault}
use Rattle.walrus_sections.proofs.sections.Sections.add_gc_roots.Given as goal

-- what those that are left answer is what all answer
abbrev pub invariant-loop-section : goal.invariant-loop-section
invariant-loop-section g l = record {
  can : (goal.iterator-loop-section g).can_next l.section-iterator;
  ends : (goal.iterator-loop-section g).is_finite l.section-iterator;
  rest : (new : List Item) (r : Result (Unit {0}) SectionFault) → Pushes (pushed g.B.CustomSection.gc_roots l.section-iterator) l.roots new r
      → Pushes (pushed g.B.CustomSection.gc_roots (entries l.self)) l.fn.roots new r;
}
