-- Operators within the ranges of their immediates have spellings, and stay so where what they name is renamed within its range.
use Rattle.std.specs.Prelude.{ℕ, ◌<◌, ◌^◌, List}
use Rattle.std.specs.List.{AllByRecursion}
use Rattle.wasm_features.specs.declared.WasmFeatures.{WasmFeatures}
use Rattle.wasm_operators.specs.Items.{Space, Types}
use Rattle.wasm_operators.specs.Names.{Name, Renaming, operator_names, renamed_operator}
use Rattle.wasm_operators.specs.Operators.{Seen}
use Rattle.wasm_operators.specs.Ranges.{OperatorFits}
use Rattle.wasm_grammar_bytes.specs.Bodies.{operator_writer}

-- types are numbered below 2^20, and all else below 2^32
abbrev pub most_of : Space → ℕ
most_of Types = 2 ^ 20
most_of space = 2 ^ 32

-- each that is named has its new number in that range
abbrev pub NamesFit : Renaming → List Name → Type 0
NamesFit r = AllByRecursion (λ (n : Name). r n.0 n.1 < most_of n.0)

abbrev pub RenamedOperatorsFit : Type 0
RenamedOperatorsFit = (features : WasmFeatures) (r : Renaming) (op : Seen) → OperatorFits features op → NamesFit r (operator_names op) → OperatorFits features (renamed_operator r op)

-- what an operator names is below 2^32
abbrev pub FittingNamesAreSmall : Type 0
FittingNamesAreSmall = (features : WasmFeatures) (op : Seen) → OperatorFits features op → AllByRecursion (λ (n : Name). n.1 < 2 ^ 32) (operator_names op)

abbrev pub FittingOperatorsAreSpelled : Type 0
FittingOperatorsAreSpelled = (features : WasmFeatures) (op : Seen) → OperatorFits features op → (operator_writer features).fits op
