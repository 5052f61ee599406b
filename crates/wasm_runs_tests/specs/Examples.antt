-- Operators, and what stands in traces for them.
use Rattle.std.specs.Prelude.{ℕ, false, List, [], ◌∷◌, map, Option, Some}
use Rattle.wasm_ref_types.specs.declared.value.ValType.{ValType}
use Rattle.wasm_operators.specs.declared.block_type.BlockType.TheVariants as blocks
use Rattle.wasm_operators.specs.declared.clause.Clause.{Clause}
use Rattle.wasm_operators.specs.Items.{Functions, Tags, Labels, Types, Tables, Item, Names, Block, ManyLabels, ManyClauses}
use Rattle.wasm_operators.specs.Operators.{Seen, op_code}
use Rattle.walrus_forms.specs.declared.value.ValType.TheVariants as own
use Rattle.walrus_forms.specs.Kinds.{function_kind}
use Rattle.wasm_grammar.specs.Modules.{Module, Function, Imported, Own, Placed, empty}
use Rattle.wasm_runs.specs.Outcomes.{Outcome, Ending}
use Rattle.wasm_runs.specs.Programs.{Plain, Typed, Executed, Event}
use Rattle.wasm_runs.specs.Modules.{signature_in, program_of}
use Rattle.wasm_runs.specs.Traces.{Trace, BodyTrace}

-- ---- operators by their bytes

abbrev pub op : ℕ → List Item → Seen
op byte items = record { code = op_code 0 byte; items = items }

abbrev pub unreachable_ : Seen
unreachable_ = op 0x00 []

abbrev pub nop_ : Seen
nop_ = op 0x01 []

abbrev pub block_ : Seen
block_ = op 0x02 (Block blocks.Empty ∷ [])

abbrev pub loop_ : Seen
loop_ = op 0x03 (Block blocks.Empty ∷ [])

abbrev pub if_ : Seen
if_ = op 0x04 (Block blocks.Empty ∷ [])

abbrev pub else_ : Seen
else_ = op 0x05 []

abbrev pub try_ : Seen
try_ = op 0x06 (Block blocks.Empty ∷ [])

abbrev pub catch_ : ℕ → Seen
catch_ tag = op 0x07 (Names Tags tag ∷ [])

abbrev pub throw_ : ℕ → Seen
throw_ tag = op 0x08 (Names Tags tag ∷ [])

abbrev pub rethrow_ : ℕ → Seen
rethrow_ label = op 0x09 (Names Labels label ∷ [])

abbrev pub throw_ref_ : Seen
throw_ref_ = op 0x0a []

abbrev pub end_ : Seen
end_ = op 0x0b []

abbrev pub br_ : ℕ → Seen
br_ label = op 0x0c (Names Labels label ∷ [])

abbrev pub br_if_ : ℕ → Seen
br_if_ label = op 0x0d (Names Labels label ∷ [])

abbrev pub br_table_ : List ℕ → ℕ → Seen
br_table_ labels default = op 0x0e (ManyLabels labels ∷ Names Labels default ∷ [])

abbrev pub return_ : Seen
return_ = op 0x0f []

abbrev pub call_ : ℕ → Seen
call_ f = op 0x10 (Names Functions f ∷ [])

abbrev pub call_indirect_ : Seen
call_indirect_ = op 0x11 (Names Types 0 ∷ Names Tables 0 ∷ [])

abbrev pub return_call_ : ℕ → Seen
return_call_ f = op 0x12 (Names Functions f ∷ [])

abbrev pub return_call_ref_ : Seen
return_call_ref_ = op 0x15 (Names Types 0 ∷ [])

abbrev pub delegate_ : ℕ → Seen
delegate_ label = op 0x18 (Names Labels label ∷ [])

abbrev pub catch_all_ : Seen
catch_all_ = op 0x19 []

abbrev pub drop_ : Seen
drop_ = op 0x1a []

abbrev pub try_table_ : List Clause → Seen
try_table_ clauses = op 0x1f (Block blocks.Empty ∷ ManyClauses clauses ∷ [])

abbrev pub add_ : Seen
add_ = op 0x6a []

abbrev pub br_on_null_ : ℕ → Seen
br_on_null_ label = op 0xd5 (Names Labels label ∷ [])

-- ---- what stands in traces

-- an operator without a block type
abbrev pub did : Seen → Executed
did o = record { code = o.code; items = map Plain o.items }

-- one with a block type of these parameters and results, and with these other items
abbrev pub began : ℕ → List ValType → List ValType → List Item → Executed
began byte params results items = record { code = op_code 0 byte; items = Typed (record { params = params; results = results }) ∷ map Plain items }

abbrev pub in_block : Executed
in_block = began 0x02 [] [] []

abbrev pub in_loop : Executed
in_loop = began 0x03 [] [] []

abbrev pub in_if : Executed
in_if = began 0x04 [] [] []

abbrev pub in_try : Executed
in_try = began 0x06 [] [] []

abbrev pub at : ℕ → Executed → Event
at f x = record { function = f; executed = x }

-- ---- bodies and modules

-- the module of the one type from an i64 to an i32 and an f64
abbrev pub typed : Module
typed = record empty { groups = record { marked = false; kinds = function_kind (own.I64 ∷ []) (own.I32 ∷ own.F64 ∷ []) ∷ [] } ∷ [] }

-- a body in it, with these outcomes and this bound, executes these operators and ends so
abbrev pub Runs : List Seen → List Outcome → ℕ → List Executed → Ending → Type 0
Runs ops outcomes bound events ending = BodyTrace (signature_in typed) ops outcomes bound events ending

-- an imported function, and one of these operators
abbrev pub imported : Option Function
imported = Some (record { ty = 0; origin = Imported 0 })

abbrev pub at_place : Seen → Placed
at_place o = record { place = 0; op = o }

abbrev pub own_function : List Seen → Option Function
own_function ops = Some (record { ty = 0; origin = Own (record { locals = []; operators = map at_place ops }) })

abbrev pub with_functions : List (Option Function) → Module
with_functions functions = record empty { functions = functions }

-- function f of a module of these functions does so
abbrev pub RunsIn : List (Option Function) → ℕ → List Outcome → ℕ → List Event → Ending → Type 0
RunsIn functions f outcomes bound events ending = Trace (program_of (with_functions functions)) f outcomes bound events ending
