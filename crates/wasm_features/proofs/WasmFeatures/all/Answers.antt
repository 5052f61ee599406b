use Rattle.std.proofs.Common.{ℕ, ap}
use Rattle.bitflags.proofs.OnLiterals.{bitflags_on_literals}
use Rattle.wasm_features.proofs.WasmFeatures.all.Goals as goal

pub returns : goal.returns
unfolding bitflags_on_literals
returns c = ap (λ (n : ℕ). record { bits = n }) (c.all.ensures tt)
