use Rattle.wasm_canonical.proofs.Spelled.{modules_spelled}
use Rattle.wasm_canonical.proofs.laws.due_modules_are_spelled.Goals as goal

pub returns : goal.returns
returns c = modules_spelled c.due_sections_fill.ensures c.own_functions_have_bodies.ensures c.due_bodies_are_spelled.ensures c.due_sections_are_formed.ensures
