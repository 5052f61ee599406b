-- Bodies that are read into a module, in words of the grammar of bodies.
use Rattle.std.specs.Prelude.{◌≡◌, ◌⊎◌, ℕ, List, map, Some, Ok}
use Rattle.std.specs.Option.{option_map}
use Rattle.walrus_forms.specs.declared.value.ValType.{ValType}
use Rattle.walrus_forms.specs.Renaming.{at, renamed_value}
use Rattle.walrus_body_env.specs.walrus_instr.declared.seq.InstrSeqType.{InstrSeqType}
use Rattle.walrus_body_env.specs.walrus_instr.declared.seq.InstrSeqType.TheVariants.{MultiValue}
use Rattle.walrus_functions_into.specs.walrus_collections.walrus_local_function.walrus_body_locals.wasm_operators.declared.block_type.BlockType.{BlockType}
use Rattle.walrus_functions_into.specs.walrus_collections.walrus_local_function.walrus_body_locals.wasm_grammar.States.{types_of}
use Rattle.walrus_functions_into.specs.walrus_collections.walrus_local_function.walrus_function_parser.walrus_body_rules.Sights.{written_block}
use Rattle.wasm_reader.specs.Cursor.{Cursor, rest}
use Rattle.walrus_handler_types.specs.walrus_tree.walrus_builder.Built.{Seq}
use Rattle.walrus_index_maps.specs.Maps.{Ids}
use Rattle.walrus_functions_into.specs.walrus_collections.walrus_body_parser.wasm_operators.Operators.{Seen}
use Rattle.walrus_functions_into.specs.walrus_collections.walrus_body_parser.walrus_body_steps.Meanings.{meaning}
use Rattle.walrus_functions_into.specs.walrus_collections.walrus_body_parser.walrus_body_steps.Picks.{ArePicks}
use Rattle.walrus_functions_into.specs.walrus_collections.walrus_body_parser.Points.{place_at, ops_from}
use Rattle.walrus_functions_into.specs.walrus_collections.walrus_local_function.walrus_body_locals.wasm_body_grammar.Rules.{Around, found_in}
use Rattle.walrus_functions_into.specs.walrus_collections.walrus_local_function.walrus_body_locals.wasm_body_grammar.Bodies.{Run, body}
use Rattle.walrus_functions_into.specs.walrus_collections.walrus_local_function.walrus_body_locals.wasm_normal_form.Trees.{tree_of}
use Rattle.walrus_functions_into.specs.walrus_collections.walrus_local_function.walrus_body_locals.wasm_normal_form.Normal.{normal}
use Rattle.walrus_functions_into.specs.walrus_collections.walrus_local_function.walrus_body_locals.walrus_body_env.declared.error.BodyError.{BodyError}
use Rattle.walrus_functions_into.specs.walrus_collections.walrus_local_function.walrus_body_locals.walrus_body_env.declared.error.BodyError.TheVariants.{Memory}
use Rattle.walrus_functions_into.specs.walrus_collections.walrus_local_function.walrus_body_locals.Locals.{Leaves}
use Rattle.walrus_types.specs.walrus_items.declared.local.Local.{Local}
use Rattle.walrus_functions_into.specs.walrus_collections.walrus_local_function.walrus_body_locals.walrus_body_nesting.Stands.{StandsAs}
use Rattle.walrus_functions_into.specs.walrus_collections.walrus_local_function.walrus_function_parser.Parsed.{IsAround, Telling, StopsFor, Bars, Lacks}
use Rattle.walrus_functions_into.specs.walrus_collections.walrus_local_function.walrus_body_locals.walrus_body_nesting.wasm_formats.wasm_features.declared.WasmFeatures.{WasmFeatures}
use Rattle.wasm_run_names.specs.Picks.{block_pick}
use Rattle.walrus_module_env.specs.declared.env.ModuleEnv.{ModuleEnv}
use Rattle.walrus_module_env.specs.Env.{own_found}
use Rattle.walrus_module_env.specs.Around.{sight_in, block_named, IsFiled}

-- the bytes are parsed as a body's runs of locals and its operators, and its sequences stand as the normal form of the operators' tree, in
-- which block types are the grammar's picks
pub record IsRead (e : ModuleEnv) (function params : ℕ) (old : Cursor) (j : Ids) (b : List Seq) (a : Around) : Type 0 where
  pub place : ℕ
  pub runs : List Run
  pub ops : List (ℕ × Seen)
  pub read : (body a params (place_at e.code_start old)).parse (rest old) ≡ Ok ((place, runs), ops)
  pub stands : StandsAs (meaning (sight_in e function j)) b (normal (block_pick a) (tree_of (ops_from place ops)))

module _ {V : Type 0} (e : ModuleEnv) (function : ℕ) (i : Ids) (told : Telling V) (params : ℕ) (old : Cursor) where
  -- of each file whose sections were read into the module this is a body
  abbrev pub IsBodyOfFile : Ids → List Seq → Type 0
  IsBodyOfFile j b = (a : Around) → IsFiled e i function params old.window.features a → IsRead e function params old j b a

  -- in none of them it is one, for this fault, where neither the validator nor a handler is to blame
  abbrev pub IsFaultInFile : Ids → BodyError → Type 0
  IsFaultInFile j fault = (a : Around) → IsFiled e i function params old.window.features a
      → StopsFor (sight_in e function i) told params e.code_start old a fault ⊎ Bars (sight_in e function i) told params e.code_start old fault
      ⊎ Lacks (sight_in e function i) told params e.code_start old j fault

  -- while it was read, the next indices of its function named the locals that were added, all or all but the last: in this map
  pub record IsFaultOfFile (ls ms : List Local) (fault : BodyError) : Type 0 where
    pub met : Ids
    pub left : Leaves function ls ms i met
    pub stops : (fault ≡ Memory) ⊎ IsFaultInFile met fault

-- ---- laws

-- a body sees the file that its module was read from
abbrev pub FilesAreSeen : Type 0
FilesAreSeen = (e : ModuleEnv) (i : Ids) (function locals : ℕ) (features : WasmFeatures) (a : Around) → IsFiled e i function locals features a → IsAround (sight_in e function i) features locals a

-- and the grammar's picks have its picks' types
abbrev pub PicksAreSeen : Type 0
PicksAreSeen = (e : ModuleEnv) (i : Ids) (function locals : ℕ) (features : WasmFeatures) (a : Around) → IsFiled e i function locals features a → ArePicks (sight_in e function i) (block_pick a)

-- what its table finds for parameters and results, among the file's own types, is the type that is found in the file, by its id
abbrev pub PicksAreNamed : Type 0
PicksAreNamed = (e : ModuleEnv) (i : Ids) (function locals : ℕ) (features : WasmFeatures) (a : Around) → IsFiled e i function locals features a → (params results : List ValType)
    → own_found e.own_types e.types.now (map (renamed_value (at i.types)) params) (map (renamed_value (at i.types)) results) ≡ option_map (λ n. MultiValue (at i.types n)) (found_in a.same params results (types_of a.filled))

-- so the type of a block that is written so is the grammar's pick for it, by its id
abbrev pub BlocksAreNamed : Type 0
BlocksAreNamed = (e : ModuleEnv) (i : Ids) (function locals : ℕ) (features : WasmFeatures) (a : Around) → IsFiled e i function locals features a → (w : BlockType) (ty : InstrSeqType)
    → written_block (sight_in e function i) w ≡ Some ty → block_named (sight_in e function i) (block_pick a w) ≡ Some ty
