use Rattle.std.proofs.Common.{◌≡◌, map, take}
use Rattle.std.specs.List.{fold}
use Rattle.wasm_formats.specs.declared.fault.Space.TheVariants as spaces
use Rattle.walrus_roots.specs.Items.{item}
use Rattle.walrus_marks.specs.Marks.{meet}
use Rattle.walrus_used.proofs.names.meet_types.Given as goal

abbrev pub invariant-loop-ty : goal.invariant-loop-ty
invariant-loop-ty l = l.marks ≡ fold meet l.fn.marks (map (item spaces.Type) (take l.ty-index l.types))
