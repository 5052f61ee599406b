-- What the parser of a body sees of its module: what indices name, and what it is told of types, tags and memories.
use Rattle.std.specs.Prelude.{ℕ, Bool, List, [], ◌∷◌, length, Option, Some, None, Result, Ok, Err}
use Rattle.walrus_pairing.specs.walrus_forms.declared.value.ValType.{ValType}
use Rattle.walrus_pairing.specs.walrus_instr.declared.seq.InstrSeqType.{InstrSeqType}
use Rattle.walrus_pairing.specs.walrus_instr.declared.seq.InstrSeqType.TheVariants.{Simple, MultiValue}
use Rattle.walrus_pairing.specs.walrus_index_maps.Maps.{Ids}
use Rattle.walrus_pairing.specs.declared.error.PairError.{PairError}
use Rattle.walrus_pairing.specs.Looks.{Look, id_of}
use Rattle.walrus_pairing.specs.Types.{read_value}
use Rattle.wasm_body_grammar.specs.wasm_operators.declared.block_type.BlockType.{BlockType}
use Rattle.wasm_body_grammar.specs.wasm_operators.declared.block_type.BlockType.TheVariants as blocks
use Rattle.wasm_body_grammar.specs.wasm_operators.Items.{Space, Types, Functions, Tables, Memories, Tags, Globals, ElementSegments, DataSegments, Locals, Labels}

pub record Sight : Type 0 where
  -- what indices name, and the function that the body is of
  pub ids : Ids
  pub function : ℕ
  -- of a function type its parameters and results
  pub params : ℕ → Option (List ValType)
  pub results : ℕ → Option (List ValType)
  -- the type of a block that is written with these parameters and results, and that of a handler
  pub block_type : List ValType → List ValType → Option InstrSeqType
  pub handler_type : List ValType → List ValType → Option InstrSeqType
  -- the type of a tag
  pub tag_type : ℕ → Option ℕ
  -- whether a memory has 64-bit addresses
  pub is_wide : ℕ → Bool
  pub has_data_count : Bool

abbrev pub look : Sight → Look
look s = id_of s.ids s.function

-- the ids of a space, in the order of their indices
abbrev pub list_of : Sight → Space → List ℕ
list_of s Types = s.ids.types
list_of s Functions = s.ids.functions
list_of s Tables = s.ids.tables
list_of s Memories = s.ids.memories
list_of s Tags = s.ids.tags
list_of s Globals = s.ids.globals
list_of s ElementSegments = s.ids.elements
list_of s DataSegments = s.ids.segments
list_of s Locals = s.ids.locals s.function
list_of s Labels = []

-- how many a space has, where so many labels are known
abbrev pub room : Sight → ℕ → Space → ℕ
room s labels Labels = labels
room s labels space = length (list_of s space)

-- ---- block types

abbrev pub block_of : Sight → Option (List ValType) → Option (List ValType) → Option InstrSeqType
block_of s (Some params) (Some results) = s.block_type params results
block_of s _ _ = None

-- of a function type the block type that it picks, if it is one
abbrev pub function_block : Sight → Option ℕ → Option InstrSeqType
function_block s (Some id) = block_of s (s.params id) (s.results id)
function_block s None = None

abbrev pub value_block : Result ValType PairError → Option InstrSeqType
value_block (Ok ty) = Some (Simple (Some ty))
value_block (Err e) = None

-- the type of a block that is written so
abbrev pub written_block : Sight → BlockType → Option InstrSeqType
written_block s blocks.Empty = Some (Simple None)
written_block s (blocks.Value ty) = value_block (read_value (look s Types) ty)
written_block s (blocks.Type n) = function_block s (look s Types n)

-- ---- handlers of a legacy `try`

abbrev pub value_list : Option ValType → List ValType
value_list None = []
value_list (Some ty) = ty ∷ []

-- the results of a block
abbrev pub results_of : Sight → InstrSeqType → Option (List ValType)
results_of s (Simple ty) = Some (value_list ty)
results_of s (MultiValue id) = s.results id

abbrev pub handler_of : Sight → Option (List ValType) → Option (List ValType) → Option InstrSeqType
handler_of s (Some params) (Some results) = s.handler_type params results
handler_of s _ _ = None

abbrev pub tag_params : Sight → Option ℕ → Option (List ValType)
tag_params s (Some ty) = s.params ty
tag_params s None = None
