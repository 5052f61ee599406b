-- Why a body is refused: the number of a fault, its text and its place; what a validator's call answers.
use Rattle.std.specs.Prelude.{◌≡◌, ℕ, List, ◌++◌, codes, Option, Some, None, Result, Ok, Err}
use Rattle.wasm_formats.specs.Texts.{form_text, limited_text, space_text}
use Rattle.walrus_operators.specs.wasm_operators.wasm_reader.Messages.{message_of}
use Rattle.walrus_operators.specs.wasm_operators.wasm_reader.declared.error.Error.{Error}
use Rattle.walrus_operators.specs.wasm_operators.wasm_reader.declared.error.ErrorKind.{ErrorKind}
use Rattle.walrus_operators.specs.wasm_operators.wasm_reader.declared.error.ErrorKind.TheVariants as kinds
use Rattle.walrus_body_env.specs.declared.error.BodyError.{BodyError}
use Rattle.walrus_body_env.specs.declared.error.BodyError.TheVariants.{Read, Index, TypeForm, Nesting, Position, Operator, Unsupported, Bounds, Limit, NoTree, Memory}

abbrev pub number_of : BodyError → ℕ
number_of (Read _) = 1
number_of (Index _ _) = 6
number_of (TypeForm _) = 7
number_of (Nesting _) = 10
number_of (Position _) = 11
number_of (Operator _) = 12
number_of (Unsupported _ _) = 13
number_of (Bounds _) = 15
number_of (Limit _ _) = 16
number_of NoTree = 19
number_of Memory = 21

abbrev pub body_error_text : BodyError → List ℕ
body_error_text (Read e) = message_of e.kind
body_error_text (Index space _) = codes "index of a " ++ space_text space ++ codes " is out of range"
body_error_text (TypeForm _) = codes "a function type is needed"
body_error_text (Nesting _) = codes "blocks do not nest"
body_error_text (Position _) = codes "operator may not stand here"
body_error_text (Operator _) = codes "unknown operator"
body_error_text (Unsupported form _) = codes "not supported: " ++ form_text form
body_error_text (Bounds _) = codes "number out of bounds"
body_error_text (Limit limited _) = codes "limit passed: " ++ limited_text limited
body_error_text NoTree = codes "instructions form no tree"
body_error_text Memory = codes "out of memory"

abbrev pub offset_of : BodyError → Option ℕ
offset_of (Read e) = Some e.offset
offset_of (Index _ offset) = offset
offset_of (TypeForm offset) = offset
offset_of (Nesting offset) = offset
offset_of (Position offset) = offset
offset_of (Operator offset) = offset
offset_of (Unsupported _ offset) = offset
offset_of (Bounds offset) = offset
offset_of (Limit _ offset) = offset
offset_of NoTree = None
offset_of Memory = None

-- a fault of the reader; want of memory has a name of its own
abbrev pub fault_of_kind : ErrorKind → Error → BodyError
fault_of_kind kinds.Memory e = Memory
fault_of_kind _ e = Read e

abbrev pub read_fault : Error → BodyError
read_fault e = fault_of_kind e.kind e

-- the result of a step: accepted where there is no fault; and what is left
abbrev pub result_of : Option BodyError → Result (Unit {0}) BodyError
result_of None = Ok tt
result_of (Some e) = Err e

abbrev pub Answers : {V : Type 0} → Option BodyError × V → Result (Unit {0}) BodyError → V → Type 0
Answers step result left = (result ≡ result_of step.0) × (left ≡ step.1)
