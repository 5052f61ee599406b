use Rattle.std.proofs.Common.{◌≡◌, map, take}
use Rattle.std.specs.List.{fold, flat_map}
use Rattle.wasm_formats.specs.declared.fault.Space.TheVariants as spaces
use Rattle.walrus_walks.specs.Tree.{handler}
use Rattle.walrus_roots.specs.Items.{item}
use Rattle.walrus_marks.specs.Marks.{meet}
use Rattle.walrus_used.proofs.bodies.meet_handlers.Given as goal

abbrev pub invariant-loop-catch : goal.invariant-loop-catch
invariant-loop-catch l = l.marks ≡ fold meet l.fn.marks (flat_map (λ c. map (item spaces.Label) (handler c)) (take l.catch-index l.catches))
