use Rattle.std.proofs.Common.{◌∙◌}
use Rattle.wasm_features.proofs.Digits.{has_both}
use Rattle.wasm_features.proofs.WasmFeatures.bulk_memory.Goals as goal

pub returns : goal.returns
returns c = c.contains.ensures.bits ∙ has_both c.args.self.now.bits 32 8388608
