use Rattle.wasm_spelled_modules.proofs.Kept.{read_sections_are_spelled}
use Rattle.wasm_spelled_modules.proofs.laws.read_sections_are_spelled.Goals as goal

pub returns : goal.returns
returns c = read_sections_are_spelled
