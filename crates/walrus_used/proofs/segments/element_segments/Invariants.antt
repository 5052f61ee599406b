use Rattle.walrus_marks.specs.Marks.{lists_of}
use Rattle.walrus_references.specs.walrus_module.Parts.{parts}
use Rattle.walrus_used.proofs.SegmentLemmas.{ListedBelow, RootedBelow}
use Rattle.walrus_used.proofs.segments.element_segments.Given as goal

abbrev pub invariant-loop-index : goal.invariant-loop-index
invariant-loop-index g l = ListedBelow (parts l.input) l.index (lists_of l.active.items) × RootedBelow (parts l.input) l.index l.rooted.items
