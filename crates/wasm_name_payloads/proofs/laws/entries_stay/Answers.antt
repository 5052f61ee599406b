use Rattle.wasm_name_payloads.specs.Kept.{entries_stay}
use Rattle.wasm_name_payloads.proofs.laws.entries_stay.Goals as goal

pub returns : goal.returns
returns c = entries_stay
