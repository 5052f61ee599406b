-- The type section, group by group (Core Specification, binary format, modules: type section).
use Rattle.std.specs.Prelude.{ℕ, zero, suc, ◌+◌, ◌≤◌, ◌≡◌, ◌∷◌, [], List, length, All, Option, Some, None, Result, Ok, Err, IfOk}
use Rattle.wasm_features.specs.Features.{GcTypes, constant, features_of}
use Rattle.wasm_reader.specs.declared.error.Error.{Error}
use Rattle.wasm_reader.specs.declared.error.ErrorKind.TheVariants as kinds
use Rattle.wasm_reader.specs.Cursor.{Cursor, rest, end_of}
use Rattle.wasm_reader.specs.Items.{ReadsUnlessMemory}
use Rattle.wasm_composite_types.specs.declared.form.FuncType.{FuncType}
use Rattle.wasm_types.specs.declared.subtype.SubType.{SubType}
use Rattle.wasm_types.specs.Plain.{plain_function_of}
use Rattle.wasm_types.specs.Groups.{Group}
use Rattle.wasm_types.specs.Readings.{group_at}
use Rattle.wasm_types.specs.Placed.{placed_at, placed, listed}

-- a place in the section, and how many groups are to come there: none once the section has ended or a fault was given
pub record Section : Type 0 where
  pub cursor : Cursor
  pub remaining : Option ℕ

-- the offset of the next byte
abbrev pub offset_of : Cursor → ℕ
offset_of c = c.window.start + c.position

-- the most that is still given: the groups, and a fault behind them
abbrev pub most_left : Option ℕ → ℕ
most_left None = 0
most_left (Some count) = count + 1

-- how many groups are to come behind one: none behind a fault
abbrev pub left_behind : Result Group Error → ℕ → Option ℕ
left_behind (Ok group) count = Some count
left_behind (Err e) count = None

-- a group is read, with the places of its types, or its fault is given
pub record ReadsGroup (old new : Cursor) (outcome : Result Group Error) : Type 0 where
  pub reads : ReadsUnlessMemory (group_at old.window.features) listed old new outcome
  pub places : ReadsUnlessMemory (placed_at old.window.features) (placed (end_of old)) old new outcome
  pub within : IfOk outcome (λ group. All (λ offset. offset ≤ end_of old) group.offsets)
  pub paired : IfOk outcome (λ group. length group.offsets ≡ length group.types)

-- bytes that are left over
abbrev pub trailing : ℕ → Error
trailing offset = record { kind = kinds.Trailing; offset = offset }

-- what is given behind the last group: nothing, or the fault of the bytes that are left over
abbrev pub ending : Cursor → List ℕ → Option (Result Group Error)
ending c [] = None
ending c (b ∷ bytes) = Some (Err (trailing (offset_of c)))

-- what is given where so many groups are to come
abbrev pub GivesAt : Cursor → Option ℕ → Option (Result Group Error) → Section → Type 0
GivesAt old None given new = (given ≡ None) × (new ≡ record { cursor = old; remaining = None })
GivesAt old (Some zero) given new = (given ≡ ending old (rest old)) × (new ≡ record { cursor = old; remaining = None })
GivesAt old (Some (suc count)) given new =
    (outcome : Result Group Error) × (given ≡ Some outcome) × ReadsGroup old new.cursor outcome × (new.remaining ≡ left_behind outcome count)

-- what the section gives next
abbrev pub GivesGroup : Section → Option (Result Group Error) → Section → Type 0
GivesGroup old given new = GivesAt old.cursor old.remaining given new

-- the function type of a group of one final function without supertype
abbrev pub plain_function : List SubType → Option FuncType
plain_function [] = None
plain_function (ty ∷ []) = plain_function_of ty
plain_function (ty ∷ another ∷ types) = None

-- a form that only gives way to garbage collection
abbrev pub gc_fault : ℕ → Error
gc_fault offset = record { kind = kinds.Feature (features_of (constant GcTypes)); offset = offset }

abbrev pub function_or : ℕ → Option FuncType → Result FuncType Error
function_or offset (Some ty) = Ok ty
function_or offset None = Err (gc_fault offset)

-- a group as its function type, and any other as a fault where it begins
abbrev pub as_function : ℕ → Option (Result Group Error) → Option (Result FuncType Error)
as_function offset None = None
as_function offset (Some (Ok group)) = Some (function_or offset (plain_function group.types))
as_function offset (Some (Err e)) = Some (Err e)

abbrev pub GivesFunction : Section → Option (Result FuncType Error) → Section → Type 0
GivesFunction old given new = (group : Option (Result Group Error)) × GivesGroup old group new × (given ≡ as_function (offset_of old.cursor) group)
