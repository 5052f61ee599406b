use Rattle.wasm_operators.specs.Renamed.{renames_twice}
use Rattle.wasm_operators.proofs.laws.renamings_compose.Goals as goal

pub returns : goal.returns
returns c = renames_twice
