use Rattle.wasm_name_payloads.proofs.Computed.{payloads_hold}
use Rattle.wasm_name_payloads.proofs.laws.payloads_hold.Goals as goal

pub returns : goal.returns
returns c = payloads_hold
