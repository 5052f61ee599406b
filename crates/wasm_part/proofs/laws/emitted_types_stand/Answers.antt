use Rattle.wasm_part.proofs.Emitted.{emitted_stand}
use Rattle.wasm_part.proofs.laws.emitted_types_stand.Goals as goal

pub returns : goal.returns
returns c = emitted_stand
