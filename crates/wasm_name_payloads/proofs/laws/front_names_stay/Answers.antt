use Rattle.wasm_name_payloads.specs.Kept.{front_names_stay}
use Rattle.wasm_name_payloads.proofs.laws.front_names_stay.Goals as goal

pub returns : goal.returns
returns c = front_names_stay
