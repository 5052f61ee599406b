use Rattle.std.proofs.Common.{ℕ, ◌-◌, ap, ◌∙◌}
use Rattle.std.proofs.lemmas.Nat.{and_comm}
use Rattle.bitflags.proofs.OnLiterals.{bitflags_on_literals}
use Rattle.wasm_features.proofs.WasmFeatures.complement.Goals as goal

pub returns : goal.returns
unfolding bitflags_on_literals
returns c = ap (λ (n : ℕ). record { bits = n }) (c.complement.ensures tt ∙ and_comm (4294967295 - c.args.self.bits) 16777215)
