use Rattle.wasm_part.proofs.Emitted.{types_lead}
use Rattle.wasm_part.proofs.laws.read_back_types_lead.Goals as goal

pub returns : goal.returns
returns c = types_lead
