-- Answers that take memory, or whose numbers have bounds.
use Rattle.std.specs.Prelude.{ℕ, ◌≡◌, [], ◌∷◌, Option, Some, None, Result, Ok, Err}
use Rattle.wasm_ref_types.specs.Heaps.{HasSmallIndex}
use Rattle.wasm_ref_types.specs.declared.value.ValType.{ValType as WrittenValue}
use Rattle.wasm_ref_types.specs.declared.value.ValType.TheVariants as written
use Rattle.walrus_operators.specs.wasm_operators.Items.{Types, ManyValues}
use Rattle.walrus_forms.specs.declared.value.ValType.{ValType}
use Rattle.walrus_codes.specs.walrus_instr.declared.instr.Instr.{Instr}
use Rattle.walrus_codes.specs.walrus_instr.declared.instr.Instr.TheVariants.{Select}
use Rattle.walrus_codes.specs.Runs.{byte}
use Rattle.walrus_operators.specs.declared.operator.Operator.{Operator}
use Rattle.walrus_pairing.specs.declared.error.PairError.{PairError}
use Rattle.walrus_pairing.specs.declared.error.PairError.TheVariants as errors
use Rattle.walrus_pairing.specs.Looks.{Look, ◌>>=◌}
use Rattle.walrus_pairing.specs.Types.{written_value}
use Rattle.walrus_pairing.specs.Seen.{as_seen}
use Rattle.walrus_pairing.specs.Write.{op, plain_at}

-- the index that it names is a number of 20 bits
abbrev pub IsSmallValue : WrittenValue → Type 0
IsSmallValue (written.Ref ty) = HasSmallIndex ty.heap_type
IsSmallValue _ = Unit {0}

-- the value type that is written names a type by a greater number
abbrev pub IsLargeType : (ℕ → Option ℕ) → ValType → Type 0
IsLargeType types ty = (value : WrittenValue) × (written_value types ty ≡ Ok value) × (IsSmallValue value → ⊥)

abbrev pub IsValueAnswer : (ℕ → Option ℕ) → ValType → Result WrittenValue PairError → Type 0
IsValueAnswer types ty (Err errors.TypeIndex) = IsLargeType types ty
IsValueAnswer types ty result = result ≡ written_value types ty

abbrev pub IsSelectAnswer : (ℕ → Option ℕ) → ValType → Result (Option Operator) PairError → Type 0
IsSelectAnswer types ty (Err errors.TypeIndex) = IsLargeType types ty
IsSelectAnswer types ty (Err errors.Memory) = Unit {0}
IsSelectAnswer types ty result = as_seen result ≡ (written_value types ty >>= λ value. op (byte 0x1c) (ManyValues (value ∷ []) ∷ []))

-- the type that a `select` names
abbrev pub selected : Instr → Option ValType
selected (Select ty) = ty
selected _ = None

abbrev pub IsAnswerWith : Option ValType → Look → Instr → Result (Option Operator) PairError → Type 0
IsAnswerWith (Some ty) look i result = IsSelectAnswer (look Types) ty result
IsAnswerWith None look i result = as_seen result ≡ plain_at look i

-- the operator of the instruction, or why there is none: memory is wanted for a `select` with a type alone, which alone can name a
-- type by too great a number
abbrev pub IsAnswer : Look → Instr → Result (Option Operator) PairError → Type 0
IsAnswer look i result = IsAnswerWith (selected i) look i result
