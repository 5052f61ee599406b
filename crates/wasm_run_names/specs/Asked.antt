-- Operators name what their flow asks for.
use Rattle.std.specs.Prelude.{ℕ, ◌≡◌, List, [], ◌∷◌, ◌++◌, Option, Some, None}
use Rattle.wasm_features.specs.declared.WasmFeatures.{WasmFeatures}
use Rattle.wasm_operators.specs.declared.entry.Flow.{Flow}
use Rattle.wasm_operators.specs.declared.entry.Flow.TheVariants as flows
use Rattle.wasm_operators.specs.Operators.{Seen, flow_of}
use Rattle.wasm_operators.specs.Spellings.{SpellsOperator}
use Rattle.wasm_run_laws.specs.wasm_runs.Programs.{labels_of, functions_of}

abbrev pub OneLabel : Seen → Type 0
OneLabel op = (k : ℕ) × (labels_of op ≡ k ∷ [])

abbrev pub OneFunction : Seen → Type 0
OneFunction op = (f : ℕ) × (functions_of op ≡ f ∷ [])

-- one label, the default among labels, or one function
abbrev pub NamesAsked : Option Flow → Seen → Type 0
NamesAsked None op = ⊥
NamesAsked (Some flows.Branches) op = OneLabel op
NamesAsked (Some flows.Chooses) op = OneLabel op
NamesAsked (Some flows.Delegate) op = OneLabel op
NamesAsked (Some flows.Selects) op = (ks : List ℕ) × (k : ℕ) × (labels_of op ≡ ks ++ k ∷ [])
NamesAsked (Some flows.Calls) op = OneFunction op
NamesAsked (Some flows.TailCalls) op = OneFunction op
NamesAsked _ op = Unit {0}

-- an operator that has a spelling has a flow, and names what that asks for: no branch and no call is a misfit for want of a name
abbrev pub OperatorsNameWhatIsAsked : Type 0
OperatorsNameWhatIsAsked = (features : WasmFeatures) (bytes : List ℕ) (op : Seen) → SpellsOperator features bytes op → NamesAsked (flow_of op.code) op
