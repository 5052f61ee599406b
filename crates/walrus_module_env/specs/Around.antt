-- What is seen of a module from the body of a function, and the file that the module is read from.
use Rattle.std.specs.Prelude.{◌≡◌, ℕ, Option, Some, None, length, slice_get, slice_index_or}
use Rattle.std.specs.Option.{option_map, option_and_then}
use Rattle.walrus_functions_into.specs.walrus_collections.walrus_local_function.walrus_body_locals.walrus_body_nesting.wasm_formats.wasm_features.declared.WasmFeatures.{WasmFeatures}
use Rattle.walrus_arena.specs.Arena.{item_at}
use Rattle.walrus_forms.specs.Renaming.{at}
use Rattle.walrus_index_maps.specs.Maps.{Ids}
use Rattle.walrus_body_env.specs.walrus_instr.BlockTypes.{picked}
use Rattle.walrus_body_env.specs.walrus_instr.declared.seq.InstrSeqType.{InstrSeqType}
use Rattle.walrus_body_env.specs.walrus_instr.declared.seq.InstrSeqType.TheVariants.{Simple, MultiValue}
use Rattle.walrus_functions_into.specs.walrus_collections.walrus_local_function.walrus_body_locals.wasm_operators.declared.block_type.BlockType.{BlockType}
use Rattle.walrus_functions_into.specs.walrus_collections.walrus_local_function.walrus_body_locals.wasm_operators.declared.block_type.BlockType.TheVariants as blocks
use Rattle.walrus_functions_into.specs.walrus_collections.walrus_local_function.walrus_body_locals.wasm_operators.Items.{Types}
use Rattle.walrus_functions_into.specs.walrus_collections.walrus_local_function.walrus_function_parser.walrus_body_rules.walrus_pairing.Types.{read_value}
use Rattle.walrus_functions_into.specs.walrus_collections.walrus_module_items.declared.memory.Memory.{Memory}
use Rattle.walrus_functions_into.specs.walrus_collections.walrus_local_function.walrus_body_locals.wasm_grammar.Modules as grammar
use Rattle.walrus_functions_into.specs.walrus_collections.walrus_local_function.walrus_body_locals.wasm_grammar.States.{types_of}
use Rattle.walrus_functions_into.specs.walrus_collections.walrus_local_function.walrus_body_locals.wasm_body_grammar.Rules.{Around}
use Rattle.walrus_functions_into.specs.walrus_collections.walrus_local_function.walrus_function_parser.walrus_body_rules.Sights.{Sight, look, value_block}
use Rattle.walrus_module_env.specs.declared.env.ModuleEnv.{ModuleEnv}
use Rattle.walrus_module_env.specs.Env.{params_at, results_at, own_pick, tag_type_at, is_wide_at}
use Rattle.walrus_module_env.specs.Filled.{AreFiled}

-- by what indices name
abbrev pub sight_in : ModuleEnv → ℕ → Ids → Sight
sight_in e function i = record {
  ids = i;
  function = function;
  params = params_at e.types.now;
  results = results_at e.types.now;
  block_type = own_pick e.own_types e.types.now;
  handler_type = λ params results. picked params results e.types.now;
  tag_type = tag_type_at e.tags.now;
  is_wide = is_wide_at e.memories.now;
  has_data_count = e.has_data_count;
}

-- a block type of the file as the type of a block, each type by the id that it names
abbrev pub block_named : Sight → BlockType → Option InstrSeqType
block_named s blocks.Empty = Some (Simple None)
block_named s (blocks.Value ty) = value_block (read_value (look s Types) ty)
block_named s (blocks.Type n) = option_map MultiValue (look s Types n)

-- the memory that an index names
abbrev pub memory_named : ModuleEnv → Ids → ℕ → Option Memory
memory_named e i n = option_and_then (item_at e.memories.now) (slice_get i.memories n)

-- a module into which the sections of this file were read, beside a function of so many locals: each type stands for its id, and in each
-- space each index names an item
pub record IsFiled (e : ModuleEnv) (i : Ids) (function locals : ℕ) (features : WasmFeatures) (a : Around) : Type 0 where
  pub features_are : a.features ≡ features
  pub same_is : a.same ≡ at i.types
  pub types_are : AreFiled (types_of a.filled) i.types e.own_types e.types.now
  pub functions_are : length i.functions ≡ length a.filled.functions
  pub tables_are : length i.tables ≡ length a.filled.tables
  pub memories_are : length i.memories ≡ length a.filled.memories
  pub tags_are : length i.tags ≡ length a.filled.tags
  pub globals_are : length i.globals ≡ length a.filled.globals
  pub elements_are : length i.elements ≡ length a.filled.elements
  pub segments_are : length i.segments ≡ length a.filled.segments
  pub locals_are : length (i.locals function) ≡ locals
  pub wide_are : (n : ℕ) → option_map (λ (m : Memory). m.memory64) (memory_named e i n) ≡ option_map (λ (m : grammar.Memory). m.wide) (slice_index_or a.filled.memories n None)
  pub counted_is : e.has_data_count ≡ a.counted
