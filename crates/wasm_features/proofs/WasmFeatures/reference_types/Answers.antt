use Rattle.std.proofs.Common.{◌∙◌}
use Rattle.wasm_features.proofs.Digits.{has_both}
use Rattle.wasm_features.proofs.WasmFeatures.reference_types.Goals as goal

pub returns : goal.returns
returns c = c.contains.ensures.bits ∙ has_both c.args.self.now.bits 8 4194304
