use Rattle.wasm_name_payloads.specs.Kept.{producers_are_read}
use Rattle.wasm_name_payloads.proofs.laws.producers_are_read.Goals as goal

pub returns : goal.returns
returns c = producers_are_read
