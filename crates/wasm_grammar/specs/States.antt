-- What is known at a point of the file: the module as far as it was read.
use Rattle.std.specs.Prelude.{ℕ, nat_lt, Bool, true, false, List, length, Option, Some, None, slice_get}
use Rattle.std.specs.List.{flat_map}
use Rattle.walrus_forms.specs.Kinds.{Kind}
use Rattle.walrus_forms.specs.Forms.{Form, FunctionForm, StructForm, ArrayForm}
use Rattle.walrus_forms.specs.Records.{TypeGroup}
use Rattle.wasm_formats.specs.declared.fault.Space.{Space}
use Rattle.wasm_formats.specs.declared.fault.Space.TheVariants as spaces
use Rattle.wasm_formats.specs.declared.fault.Limited.{Limited}
use Rattle.wasm_formats.specs.declared.fault.Limited.TheVariants as limits
use Rattle.wasm_formats.specs.Stops.{Trouble, Index, TypeForm, Limit}
use Rattle.wasm_formats.specs.Formats.{Format}
use Rattle.wasm_formats.specs.Joined.{checked}
use Rattle.wasm_formats.specs.Wholes.{u32}
use Rattle.wasm_grammar.specs.Modules.{Module, empty}
use Rattle.wasm_grammar.specs.Values.{must}
use Rattle.wasm_grammar.specs.Exprs.{Known}

-- the bytes of a body, and the place at which they begin, from the function count of the code section
pub record Chunk : Type 0 where
  pub place : ℕ
  pub bytes : List ℕ

pub record State : Type 0 where
  pub filled : Module
  -- how many of the functions are imported
  pub imported : ℕ
  -- the place of the last standard section in their order, 0 before the first
  pub last : ℕ
  pub data_count : Option ℕ
  -- the bodies that were read, where there is a code section, and the offset of its function count in the file
  pub bodies : Option (List Chunk)
  pub code_start : ℕ
  -- the offset at which the next section begins
  pub offset : ℕ

abbrev pub nothing_yet : State
nothing_yet = record { filled = empty; imported = 0; last = 0; data_count = None; bodies = None; code_start = 0; offset = 8 }

-- the types of the groups that were read, in their order
abbrev pub types_of : Module → List Kind
types_of m = flat_map (λ (g : TypeGroup). g.kinds) m.groups

abbrev pub type_count : State → ℕ
type_count s = length (types_of s.filled)

-- what constant expressions may name
abbrev pub known : State → Known
known s = record { types = type_count s; functions = length s.filled.functions; globals = s.filled.globals }

-- how many items of a space are known
abbrev pub count_of : Module → Space → ℕ
count_of m spaces.Type = length (types_of m)
count_of m spaces.Function = length m.functions
count_of m spaces.Table = length m.tables
count_of m spaces.Memory = length m.memories
count_of m spaces.Tag = length m.tags
count_of m spaces.Global = length m.globals
count_of m spaces.Element = length m.elements
count_of m spaces.Data = length m.segments
count_of m _ = 0

-- how many there may be, imported ones among them
abbrev pub most : Space → ℕ
most spaces.Table = 100
most spaces.Memory = 100
most spaces.Element = 100000
most spaces.Data = 100000
most _ = 1000000

abbrev pub limited : Space → Limited
limited spaces.Type = limits.Types
limited spaces.Function = limits.Functions
limited spaces.Table = limits.Tables
limited spaces.Memory = limits.Memories
limited spaces.Tag = limits.Tags
limited spaces.Global = limits.Globals
limited spaces.Element = limits.Elements
limited _ = limits.Data

-- one more item of the space is within its limit
abbrev pub has_room : State → Space → Bool
has_room s space = nat_lt (count_of s.filled space) (most space)

abbrev pub room_test : State → Space → Option Trouble
room_test s space = must (has_room s space) (Limit (limited space))

-- ---- types that are functions'

abbrev pub is_function : Form → Bool
is_function (FunctionForm params results) = true
is_function (StructForm fields) = false
is_function (ArrayForm field) = false

abbrev pub form_test : Option Kind → Option Trouble
form_test None = Some (Index spaces.Type)
form_test (Some kind) = must (is_function kind.form) TypeForm

-- the index of a function type
abbrev pub function_type : State → Format ℕ
function_type s = checked u32 (λ n. form_test (slice_get (types_of s.filled) n))
