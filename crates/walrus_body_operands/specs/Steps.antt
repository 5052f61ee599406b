-- What an operator does to the open sequences of a body.
use Rattle.std.specs.Prelude.{◌≡◌, ℕ, List, [], ◌∷◌, Some}
use Rattle.wasm_operators.specs.Items.{Tags, Labels, Names}
use Rattle.wasm_operators.specs.declared.entry.Flow.TheVariants as flows
use Rattle.wasm_operators.specs.Operators.{Seen, flow_of}
use Rattle.walrus_body_steps.specs.wasm_normal_form.Roles.{Passes, Runs, role, cuts}
use Rattle.walrus_body_steps.specs.walrus_body_rules.Sights.{Sight, look}
use Rattle.walrus_body_steps.specs.Meanings.{RunsAs, IsOpener, OpensOf}
use Rattle.walrus_body_operands.specs.declared.steps.Step.{Step}
use Rattle.walrus_body_operands.specs.declared.steps.Step.TheVariants as step

-- it is this operator's, inside these sequences, the innermost first
abbrev pub IsStep : Sight → List ℕ → Seen → Step → Type 0
IsStep s around op step.Pass = role op ≡ Passes
IsStep s around op (step.Run instr cut) = (role op ≡ Runs) × RunsAs s around op.code op.items instr × (cut ≡ cuts op)
IsStep s around op (step.Open opener ty) = IsOpener s around op opener × OpensOf s op ty
IsStep s around op step.Else = flow_of op.code ≡ Some flows.Else
IsStep s around op (step.Catch tag) = (flow_of op.code ≡ Some flows.Catch) × (n : ℕ) × (op.items ≡ Names Tags n ∷ []) × (look s Tags n ≡ Some tag)
IsStep s around op step.CatchAll = flow_of op.code ≡ Some flows.CatchAll
IsStep s around op (step.Delegate n) = (flow_of op.code ≡ Some flows.Delegate) × (op.items ≡ Names Labels n ∷ [])
IsStep s around op step.End = flow_of op.code ≡ Some flows.End
