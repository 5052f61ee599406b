-- Operators, and how they are read (Core Specification, binary format: instructions).
use Rattle.std.specs.Prelude.{ℕ, ◌+◌, ◌&&◌, ◌≡◌, nat_le, Bool, true, List, Option, Some, None, Result, Ok, Err, if◌then◌else◌}
use Rattle.wasm_composite_types.specs.wasm_features.declared.WasmFeatures.{WasmFeatures}
use Rattle.wasm_composite_types.specs.wasm_features.Features.{has, LegacyExceptions, WideArithmetic}
use Rattle.wasm_composite_types.specs.wasm_reader.Cursor.{Cursor}
use Rattle.wasm_composite_types.specs.wasm_reader.Reading.{Reading, ◌>>=◌, byte_at}
use Rattle.wasm_composite_types.specs.wasm_reader.Numbers.{unsigned_at}
use Rattle.wasm_operators.specs.Items.{Item}
use Rattle.wasm_operators.specs.Readings.{mapped, items_at}
use Rattle.wasm_operators.specs.declared.entry.Gate.{Gate}
use Rattle.wasm_operators.specs.declared.entry.Gate.TheVariants as gates
use Rattle.wasm_operators.specs.declared.entry.Kind.{Kind}
use Rattle.wasm_operators.specs.declared.entry.Flow.{Flow}
use Rattle.wasm_operators.specs.declared.entry.Entry.{Entry}
use Rattle.wasm_operators.specs.declared.op_code.OpCode.{OpCode}
use Rattle.wasm_operators.specs.Table.{find_code}
use Rattle.wasm_operators.specs.Kinds.{forms}

-- what is gated is on
abbrev pub is_on : WasmFeatures → Gate → Bool
is_on features gates.Always = true
is_on features gates.LegacyExceptions = has features LegacyExceptions
is_on features gates.WideArithmetic = has features WideArithmetic

abbrev pub allowed : WasmFeatures → Option Entry → Option Kind
allowed features None = None
allowed features (Some e) = if is_on features e.gate then Some e.kind else None

-- which immediates follow a code, where it is an operator under these features
unfoldable pub kind_of : WasmFeatures → OpCode → Option Kind
kind_of features code = allowed features (find_code code.prefix code.number)

-- which immediates follow a code that was read here; or, if it is no operator's, where it begins
abbrev pub IsKindOrPlace : Cursor → OpCode → Result Kind ℕ → Type 0
IsKindOrPlace old code (Ok kind) = kind_of old.window.features code ≡ Some kind
IsKindOrPlace old code (Err offset) = (kind_of old.window.features code ≡ None) × (offset ≡ old.window.start + old.position)

-- what it does to a run, where the table knows it
abbrev pub flow_in : Option Entry → Option Flow
flow_in None = None
flow_in (Some e) = Some e.flow

abbrev pub flow_of : OpCode → Option Flow
flow_of code = flow_in (find_code code.prefix code.number)

-- the bytes fb, fc, fd and fe
abbrev pub is_prefix : ℕ → Bool
is_prefix b = nat_le 0xfb b && nat_le b 0xfe

abbrev pub op_code : ℕ → ℕ → OpCode
op_code prefix n = record { prefix = prefix; number = n }

-- a code: a byte, or a prefix and a u32
unfoldable pub code_at : List ℕ → Reading OpCode
code_at bytes = do
  b ← byte_at bytes
  (if is_prefix b.0 then mapped (op_code b.0) (unsigned_at 32 b.1) else Ok (op_code 0 b.0, b.1))

-- an operator as contracts see it: its code and its immediates
pub record Seen : Type 0 where
  pub code : OpCode
  pub items : List Item

abbrev pub seen_as : OpCode → List Item → Option Seen
seen_as code items = Some (record { code = code; items = items })

-- what stands behind a code: the immediates of its kind; behind one that is no operator nothing is looked at
abbrev pub after_code : WasmFeatures → OpCode → Option Kind → List ℕ → Reading (Option Seen)
after_code features code None bytes = Ok (None, bytes)
after_code features code (Some kind) bytes = mapped (seen_as code) (items_at features (forms kind) bytes)

-- an operator, or none where its code is no operator's under these features
unfoldable pub operator_at : WasmFeatures → List ℕ → Reading (Option Seen)
operator_at features bytes = do
  code ← code_at bytes
  after_code features code.0 (kind_of features code.0) code.1
