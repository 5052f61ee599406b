-- What is asked of an operator in a body (Core Specification, valid instructions), in words of its items.
use Rattle.std.specs.Prelude.{ℕ, ◌+◌, ◌^◌, ◌==◌, ◌&&◌, ◌||◌, nat_lt, Bool, true, false, not, List, [], ◌∷◌, length, Option, Some, None, Ok, Err, if◌then◌else◌, slice_get, slice_index_or}
use Rattle.std.specs.List.{list_any, list_all, range_with_len}
use Rattle.std.specs.Option.{is_some, option_map}
use Rattle.wasm_grammar.specs.wasm_formats.wasm_features.declared.WasmFeatures.{WasmFeatures}
use Rattle.wasm_grammar.specs.walrus_forms.declared.value.ValType.{ValType}
use Rattle.wasm_grammar.specs.walrus_forms.Forms.{Form, FunctionForm, StructForm, ArrayForm}
use Rattle.wasm_grammar.specs.walrus_forms.Kinds.{Kind, function_kind}
use Rattle.wasm_grammar.specs.walrus_forms.Renaming.{renamed_kind}
use Rattle.wasm_grammar.specs.walrus_forms.Same.{same_kind}
use Rattle.wasm_operators.specs.declared.block_type.BlockType.{BlockType}
use Rattle.wasm_operators.specs.declared.block_type.BlockType.TheVariants as blocks
use Rattle.wasm_operators.specs.declared.memory_access.MemoryAccess.{MemoryAccess}
use Rattle.wasm_operators.specs.Items as immediates
use Rattle.wasm_operators.specs.Items.{Item, Heap, Block, Access, ManyValues}
use Rattle.wasm_grammar.specs.wasm_operators.Operators.{Seen, flow_of}
use Rattle.wasm_operators.specs.Names.{Name, operator_names}
use Rattle.wasm_grammar.specs.wasm_formats.declared.fault.Space.{Space}
use Rattle.wasm_grammar.specs.wasm_formats.declared.fault.Space.TheVariants as spaces
use Rattle.wasm_grammar.specs.wasm_formats.declared.fault.Form.TheVariants as unsupported
use Rattle.wasm_grammar.specs.wasm_formats.Stops.{Trouble, Index, TypeForm, Position, Unsupported, Bounds}
use Rattle.wasm_grammar.specs.Modules.{Memory, Module}
use Rattle.wasm_grammar.specs.TypeWords.{heap_of, value_of, value_from}
use Rattle.wasm_grammar.specs.Values.{must, first_of}
use Rattle.wasm_grammar.specs.States.{types_of, count_of}
use Rattle.wasm_body_grammar.specs.Frames.{Frame, Turned, turned, label_count}

-- the file around a body: the features that are on, the module, which type each type stands for, and whether there is a data
-- count section
pub record Around : Type 0 where
  pub features : WasmFeatures
  pub filled : Module
  pub same : ℕ → ℕ
  pub counted : Bool

-- ---- the items that are named are there

-- the space of an index, as faults name it
abbrev pub space_of : immediates.Space → Space
space_of immediates.Types = spaces.Type
space_of immediates.Functions = spaces.Function
space_of immediates.Tables = spaces.Table
space_of immediates.Memories = spaces.Memory
space_of immediates.Tags = spaces.Tag
space_of immediates.Globals = spaces.Global
space_of immediates.ElementSegments = spaces.Element
space_of immediates.DataSegments = spaces.Data
space_of immediates.Locals = spaces.Local
space_of immediates.Labels = spaces.Label

-- how many items a space has, in a body of so many locals, where so many labels are known
abbrev pub room : Around → ℕ → ℕ → immediates.Space → ℕ
room a locals labels immediates.Locals = locals
room a locals labels immediates.Labels = labels
room a locals labels space = count_of a.filled (space_of space)

-- the first name that names nothing
abbrev pub names_test : (immediates.Space → ℕ) → List Name → Option Trouble
names_test rooms [] = None
names_test rooms (n ∷ names) = first_of (must (nat_lt n.1 (rooms n.0)) (Index (space_of n.0))) (names_test rooms names)

-- ---- a written block type is a function's, and has a pick

-- a final function type without supertype, of just these parameters and results, types compared by what they stand for
abbrev pub serves : (ℕ → ℕ) → List ValType → List ValType → Kind → Bool
serves same params results kind = same_kind (renamed_kind same kind) (renamed_kind same (function_kind params results))

-- no earlier type stands for the same one
abbrev pub leads : (ℕ → ℕ) → ℕ → Bool
leads same n = not (list_any (λ m. same m == same n) (range_with_len 0 n))

-- the last of these types, numbered from here on, that passes the test, else what was found before
abbrev pub latest_from : (ℕ → Kind → Bool) → ℕ → Option ℕ → List Kind → Option ℕ
latest_from test n found [] = found
latest_from test n found (kind ∷ kinds) = latest_from test (n + 1) (if test n kind then Some n else found) kinds

-- the latest type that serves, of those that stand for themselves
abbrev pub found_in : (ℕ → ℕ) → List ValType → List ValType → List Kind → Option ℕ
found_in same params results kinds = latest_from (λ n kind. leads same n && serves same params results kind) 0 None kinds

-- the pick for parameters and results: the empty or the one-result form for no parameters and at most one result, else the type that is found
abbrev pub pick : Around → List ValType → List ValType → Option BlockType
pick a [] [] = Some blocks.Empty
pick a [] (result ∷ []) = Some (blocks.Value (value_from result))
pick a params results = option_map blocks.Type (found_in a.same params results (types_of a.filled))

abbrev pub form_test : Around → Form → Option Trouble
form_test a (FunctionForm params results) = must (is_some (pick a params results)) TypeForm
form_test a (StructForm fields) = Some TypeForm
form_test a (ArrayForm field) = Some TypeForm

abbrev pub kind_test : Around → Option Kind → Option Trouble
kind_test a None = None
kind_test a (Some kind) = form_test a kind.form

abbrev pub block_test : Around → BlockType → Option Trouble
block_test a (blocks.Type n) = kind_test a (slice_get (types_of a.filled) n)
block_test a _ = None

-- ---- an operator that names a data segment wants a data count section

abbrev pub is_segment : immediates.Space → Bool
is_segment immediates.DataSegments = true
is_segment _ = false

abbrev pub data_test : Around → List Name → Option Trouble
data_test a names = must (a.counted || not (list_any (λ n. is_segment n.0) names)) Position

-- ---- accesses to memory: an alignment below 2^32, an offset within the memory's addresses

abbrev pub has_wide : Option Memory → Bool
has_wide None = false
has_wide (Some m) = m.wide

abbrev pub access_test : Around → MemoryAccess → Option Trouble
access_test a access =
    must (nat_lt access.align 32 && (has_wide (slice_index_or a.filled.memories access.memory None) || nat_lt access.offset (2 ^ 32))) Bounds

-- ---- all of it: what is due at an operator goes by the number of its fault

abbrev pub form_rule : Around → Item → Option Trouble
form_rule a (Block ty) = block_test a ty
form_rule a _ = None

-- `select` names one type
abbrev pub select_rule : Item → Option Trouble
select_rule (ManyValues tys) = must (length tys == 1) (Unsupported unsupported.Select)
select_rule _ = None

-- a type has words in the module
abbrev pub has_words : Item → Bool
has_words (Heap ty) = is_some (heap_of ty)
has_words (Block (blocks.Value ty)) = is_some (value_of ty)
has_words (ManyValues tys) = list_all (λ ty. is_some (value_of ty)) tys
has_words _ = true

abbrev pub words_rule : Item → Option Trouble
words_rule item = must (has_words item) (Unsupported unsupported.SharedType)

abbrev pub access_rule : Around → Item → Option Trouble
access_rule a (Access access) = access_test a access
access_rule a _ = None

-- the first trouble among items
abbrev pub first_in : (Item → Option Trouble) → List Item → Option Trouble
first_in rule [] = None
first_in rule (i ∷ is) = first_of (rule i) (first_in rule is)

abbrev pub turned_test : Turned → Option Trouble
turned_test (Ok frames) = None
turned_test (Err trouble) = Some trouble

-- the first trouble of several tests
abbrev pub first_trouble : List (Option Trouble) → Option Trouble
first_trouble [] = None
first_trouble (test ∷ tests) = first_of test (first_trouble tests)

-- of an operator in a body of so many locals, inside these frames: by rising number of the fault, and then in the order of the bytes
abbrev pub tests : Around → ℕ → List Frame → Seen → List (Option Trouble)
tests a locals frames op =
    names_test (room a locals (label_count (flow_of op.code) frames)) (operator_names op)
    ∷ first_in (form_rule a) op.items
    ∷ turned_test (turned (flow_of op.code) frames)
    ∷ data_test a (operator_names op)
    ∷ first_in select_rule op.items
    ∷ first_in words_rule op.items
    ∷ first_in (access_rule a) op.items
    ∷ []

abbrev pub operator_test : Around → ℕ → List Frame → Seen → Option Trouble
operator_test a locals frames op = first_trouble (tests a locals frames op)
