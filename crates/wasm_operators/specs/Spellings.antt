-- Which bytes spell an operator (Core Specification, binary format: instructions), under which features.
use Rattle.std.specs.Prelude.{ℕ, ◌≡◌, ◌⊎◌, true, false, List, [], ◌∷◌, ◌++◌, Option, Some, None}
use Rattle.wasm_composite_types.specs.wasm_features.declared.WasmFeatures.{WasmFeatures}
use Rattle.wasm_operators.specs.ItemSpellings.{SpellsU32, SpellsForms}
use Rattle.wasm_operators.specs.declared.entry.Kind.{Kind}
use Rattle.wasm_operators.specs.declared.op_code.OpCode.{OpCode}
use Rattle.wasm_operators.specs.Kinds.{forms}
use Rattle.wasm_operators.specs.Operators.{is_prefix, kind_of, Seen}

-- the bytes of a code: a byte that is no prefix, or a prefix and a u32
abbrev pub SpellsCode : List ℕ → OpCode → Type 0
SpellsCode bytes code =
    ((is_prefix code.number ≡ false) × (code.prefix ≡ 0) × (bytes ≡ code.number ∷ []))
    ⊎ ((is_prefix code.prefix ≡ true) × (later : List ℕ) × (bytes ≡ code.prefix ∷ later) × SpellsU32 later code.number)

-- the bytes of an operator: its code, which the table has and the features let pass, and the immediates of its kind
pub record SpellsOperator (features : WasmFeatures) (bytes : List ℕ) (op : Seen) : Type 0 where
  pub kind : Kind
  pub first : List ℕ
  pub later : List ℕ
  pub joined : bytes ≡ first ++ later
  pub code : SpellsCode first op.code
  pub listed : kind_of features op.code ≡ Some kind
  pub items : SpellsForms features (forms kind) later op.items

-- the bytes of a code that is no operator's
abbrev pub SpellsUnknown : WasmFeatures → List ℕ → Type 0
SpellsUnknown features bytes = (code : OpCode) × SpellsCode bytes code × (kind_of features code ≡ None)

-- the bytes of an operator, or of a code that is none's
abbrev pub SpellsEither : WasmFeatures → List ℕ → Option Seen → Type 0
SpellsEither features bytes (Some op) = SpellsOperator features bytes op
SpellsEither features bytes None = SpellsUnknown features bytes
