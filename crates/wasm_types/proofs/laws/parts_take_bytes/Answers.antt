use Rattle.wasm_types.proofs.PartLemmas as lemmas
use Rattle.wasm_types.proofs.laws.parts_take_bytes.Goals as goal

pub returns : goal.returns
returns c = lemmas.parts_take_bytes
