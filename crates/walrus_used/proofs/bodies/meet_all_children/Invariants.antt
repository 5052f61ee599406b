use Rattle.std.proofs.Common.{◌≡◌, map, take}
use Rattle.std.specs.List.{fold, flat_map}
use Rattle.wasm_formats.specs.declared.fault.Space.TheVariants as spaces
use Rattle.walrus_walks.specs.Tree.{children}
use Rattle.walrus_roots.specs.Items.{item}
use Rattle.walrus_marks.specs.Marks.{meet}
use Rattle.walrus_used.proofs.bodies.meet_all_children.Given as goal

abbrev pub invariant-loop-entry : goal.invariant-loop-entry
invariant-loop-entry l = l.marks ≡ fold meet l.fn.marks (flat_map (λ i. map (item spaces.Label) (children i.0)) (take l.entry-index l.instrs))
