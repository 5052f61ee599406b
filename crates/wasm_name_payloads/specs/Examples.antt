-- Payloads of `name` and `producers`, and what is kept of them.
use Rattle.std.specs.Prelude.{ℕ, ◌≡◌, false, List, [], ◌∷◌, map, Some, None}
use Rattle.walrus_forms.specs.declared.value.ValType.TheVariants.{I32}
use Rattle.walrus_forms.specs.Kinds.{function_kind}
use Rattle.wasm_formats.specs.declared.fault.Space.{Space}
use Rattle.wasm_formats.specs.declared.fault.Space.TheVariants as spaces
use Rattle.wasm_body_grammar.specs.wasm_grammar.Modules.{Imported, Own, Module, empty}
use Rattle.wasm_name_payloads.specs.Names.{TheModule, ALocal, Given, given, item_in, names_in, last_name}
use Rattle.wasm_name_payloads.specs.Producers.{Value, Field, producers_in, processed, processed_by, walrus, version}
use Rattle.wasm_name_payloads.specs.Written.{NameMap, Names, payload_bytes, producers_bytes}

-- a function with one local, and behind it an imported one: numbers in the order of the examples, not of a file
abbrev pub example : Module
example = record empty {
  groups = record { marked = false; kinds = function_kind [] [] ∷ [] } ∷ [];
  functions = Some (record { ty = 0; origin = Own (record { locals = I32 ∷ []; operators = [] }) }) ∷ Some (record { ty = 0; origin = Imported 0 }) ∷ [];
}

abbrev pub Case : Type 0
Case = List ℕ × List Given

abbrev pub AreKept : List Case → Type 0
AreKept cases = map (λ c. names_in example c.0) cases ≡ map (λ (c : Case). c.1) cases

abbrev pub payloads : List Case
payloads =
    -- the name of a local
    ((0x02 ∷ 0x06 ∷ 0x01 ∷ 0x00 ∷ 0x01 ∷ 0x00 ∷ 0x01 ∷ 0x78 ∷ []), (given (ALocal 0 0) (0x78 ∷ []) ∷ []))
    -- a function's name, and one that is cut
    ∷ ((0x01 ∷ 0x07 ∷ 0x02 ∷ 0x00 ∷ 0x01 ∷ 0x61 ∷ 0x01 ∷ 0x05 ∷ 0x62 ∷ []), (given (item_in spaces.Function 0) (0x61 ∷ []) ∷ []))
    -- nothing, and a size past the end
    ∷ ([], [])
    ∷ ((0x01 ∷ 0x7f ∷ 0x00 ∷ []), [])
    -- the module's name, behind a subsection that is skipped
    ∷ ((0x63 ∷ 0x02 ∷ 0xff ∷ 0xff ∷ 0x00 ∷ 0x02 ∷ 0x01 ∷ 0x6d ∷ []), (given TheModule (0x6d ∷ []) ∷ []))
    -- one that is skipped past the end
    ∷ ((0x63 ∷ 0x02 ∷ 0xff ∷ []), [])
    -- bytes that are left over end the payload
    ∷ ((0x00 ∷ 0x03 ∷ 0x01 ∷ 0x6d ∷ 0x00 ∷ 0x01 ∷ 0x04 ∷ 0x01 ∷ 0x00 ∷ 0x01 ∷ 0x66 ∷ []), (given TheModule (0x6d ∷ []) ∷ []))
    -- an entry whose index has no item is skipped
    ∷ ((0x01 ∷ 0x07 ∷ 0x02 ∷ 0x05 ∷ 0x01 ∷ 0x61 ∷ 0x00 ∷ 0x01 ∷ 0x62 ∷ []), (given (item_in spaces.Function 0) (0x62 ∷ []) ∷ []))
    -- local entries: of a local that isn't there, and of an imported function, whose names are skipped
    ∷ ((0x02 ∷ 0x0e ∷ 0x02 ∷ 0x00 ∷ 0x02 ∷ 0x00 ∷ 0x01 ∷ 0x78 ∷ 0x09 ∷ 0x01 ∷ 0x79 ∷ 0x01 ∷ 0x01 ∷ 0x00 ∷ 0x01 ∷ 0x7a ∷ 0x01 ∷ 0x04 ∷ 0x01 ∷ 0x00 ∷ 0x01 ∷ 0x66 ∷ []), (given (ALocal 0 0) (0x78 ∷ []) ∷ given (item_in spaces.Function 0) (0x66 ∷ []) ∷ []))
    -- a function that isn't there is a fault
    ∷ ((0x02 ∷ 0x09 ∷ 0x02 ∷ 0x00 ∷ 0x01 ∷ 0x00 ∷ 0x01 ∷ 0x78 ∷ 0x05 ∷ 0x00 ∷ 0x01 ∷ 0x04 ∷ 0x01 ∷ 0x00 ∷ 0x01 ∷ 0x66 ∷ []), (given (ALocal 0 0) (0x78 ∷ []) ∷ []))
    -- single names of locals that stand before a fault
    ∷ ((0x02 ∷ 0x09 ∷ 0x01 ∷ 0x00 ∷ 0x03 ∷ 0x00 ∷ 0x01 ∷ 0x78 ∷ 0x00 ∷ 0x05 ∷ 0x79 ∷ []), (given (ALocal 0 0) (0x78 ∷ []) ∷ []))
    -- subsections in any order, and twice
    ∷ ((0x04 ∷ 0x04 ∷ 0x01 ∷ 0x00 ∷ 0x01 ∷ 0x74 ∷ 0x01 ∷ 0x04 ∷ 0x01 ∷ 0x00 ∷ 0x01 ∷ 0x61 ∷ 0x01 ∷ 0x04 ∷ 0x01 ∷ 0x00 ∷ 0x01 ∷ 0x62 ∷ 0x00 ∷ 0x02 ∷ 0x01 ∷ 0x6d ∷ []), (given (item_in spaces.Type 0) (0x74 ∷ []) ∷ given (item_in spaces.Function 0) (0x61 ∷ []) ∷ given (item_in spaces.Function 0) (0x62 ∷ []) ∷ given TheModule (0x6d ∷ []) ∷ []))
    -- text that is not UTF-8
    ∷ ((0x01 ∷ 0x07 ∷ 0x02 ∷ 0x00 ∷ 0x01 ∷ 0x61 ∷ 0x00 ∷ 0x01 ∷ 0xff ∷ []), (given (item_in spaces.Function 0) (0x61 ∷ []) ∷ []))
    -- a count that is too long
    ∷ ((0x01 ∷ 0x06 ∷ 0x80 ∷ 0x80 ∷ 0x80 ∷ 0x80 ∷ 0x80 ∷ 0x00 ∷ 0x00 ∷ 0x02 ∷ 0x01 ∷ 0x6d ∷ []), [])
    ∷ []

-- the names of the first and of the second of these, as they are written
abbrev pub no_items : Space → NameMap
no_items space = []

abbrev pub function_a : Space → NameMap
function_a spaces.Function = (0, 0x61 ∷ []) ∷ []
function_a _ = []

abbrev pub local_x : Names
local_x = record { own = None; items = no_items; locals = (0, (0, 0x78 ∷ []) ∷ []) ∷ [] }

abbrev pub just_a : Names
just_a = record { own = None; items = function_a; locals = [] }

-- one field, and one that is cut
abbrev pub field_a : Field
field_a = record { name = 0x61 ∷ []; values = record { name = 0x62 ∷ []; version = 0x63 ∷ [] } ∷ [] }

abbrev pub by : List Value → Field
by values = record { name = processed_by; values = values }

abbrev pub value : List ℕ → List ℕ → Value
value name version = record { name = name; version = version }

pub record PayloadsHold : Type 0 where
  pub names : AreKept payloads
  pub last : last_name (item_in spaces.Function 0) None (names_in example (0x04 ∷ 0x04 ∷ 0x01 ∷ 0x00 ∷ 0x01 ∷ 0x74 ∷ 0x01 ∷ 0x04 ∷ 0x01 ∷ 0x00 ∷ 0x01 ∷ 0x61 ∷ 0x01 ∷ 0x04 ∷ 0x01 ∷ 0x00 ∷ 0x01 ∷ 0x62 ∷ 0x00 ∷ 0x02 ∷ 0x01 ∷ 0x6d ∷ [])) ≡ Some (0x62 ∷ [])
  pub written_local : payload_bytes local_x ≡ (0x02 ∷ 0x06 ∷ 0x01 ∷ 0x00 ∷ 0x01 ∷ 0x00 ∷ 0x01 ∷ 0x78 ∷ [])
  pub written_a : payload_bytes just_a ≡ (0x01 ∷ 0x04 ∷ 0x01 ∷ 0x00 ∷ 0x01 ∷ 0x61 ∷ [])
  pub whole : producers_in (0x01 ∷ 0x01 ∷ 0x61 ∷ 0x01 ∷ 0x01 ∷ 0x62 ∷ 0x01 ∷ 0x63 ∷ []) ≡ field_a ∷ []
  pub cut : producers_in (0x02 ∷ 0x01 ∷ 0x61 ∷ 0x01 ∷ 0x01 ∷ 0x62 ∷ 0x01 ∷ 0x63 ∷ 0x01 ∷ 0x61 ∷ 0x01 ∷ 0x01 ∷ []) ≡ field_a ∷ []
  -- a new field, an entry of another tool, an old version, and one that stands twice
  pub none : producers_bytes (processed []) ≡ (0x01 ∷ 0x0c ∷ 0x70 ∷ 0x72 ∷ 0x6f ∷ 0x63 ∷ 0x65 ∷ 0x73 ∷ 0x73 ∷ 0x65 ∷ 0x64 ∷ 0x2d ∷ 0x62 ∷ 0x79 ∷ 0x01 ∷ 0x06 ∷ 0x77 ∷ 0x61 ∷ 0x6c ∷ 0x72 ∷ 0x75 ∷ 0x73 ∷ 0x06 ∷ 0x30 ∷ 0x2e ∷ 0x32 ∷ 0x38 ∷ 0x2e ∷ 0x30 ∷ [])
  pub other : processed (field_a ∷ by (value (0x78 ∷ []) (0x31 ∷ []) ∷ []) ∷ []) ≡ field_a ∷ by (value (0x78 ∷ []) (0x31 ∷ []) ∷ value walrus version ∷ []) ∷ []
  pub twice : processed (by (value walrus (0x31 ∷ []) ∷ value walrus (0x32 ∷ []) ∷ []) ∷ []) ≡ by (value walrus version ∷ value walrus (0x32 ∷ []) ∷ []) ∷ []
