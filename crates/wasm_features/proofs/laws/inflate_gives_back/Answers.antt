use Rattle.wasm_features.proofs.Fields.{inflate_gives_back}
use Rattle.wasm_features.proofs.laws.inflate_gives_back.Goals as goal

pub returns : goal.returns
returns c = inflate_gives_back
