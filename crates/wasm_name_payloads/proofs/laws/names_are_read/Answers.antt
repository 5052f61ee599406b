use Rattle.wasm_name_payloads.specs.Kept.{names_are_read}
use Rattle.wasm_name_payloads.proofs.laws.names_are_read.Goals as goal

pub returns : goal.returns
returns c = names_are_read
