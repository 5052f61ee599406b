-- The functions that a plan declares are kept: a body or a global that is kept refers to each.
use Rattle.std.specs.Prelude.{Bool, List, []}
use Rattle.wasm_grammar.specs.Modules.{Item}
use Rattle.wasm_references.specs.References.{Numbered}
use Rattle.wasm_part.specs.Kept.{HasKept}
use Rattle.wasm_part.specs.Order.{HasDeclared}
use Rattle.wasm_part.specs.Part.{Plan}

-- so a plan that has just what is kept without them has it with them
abbrev pub DeclaredAreKept : Type 0
DeclaredAreKept = (v : Numbered) (keep : Bool) (pushed : List Item) (p : Plan) → HasKept v keep pushed (record p { declared = [] }) → HasDeclared v.filled p p.declared → HasKept v keep pushed p
