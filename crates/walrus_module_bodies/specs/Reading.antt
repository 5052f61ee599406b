-- The body of a function that is read into its module, with the types of its handlers.
use Rattle.std.specs.Prelude.{◌≡◌, ◌+◌, ℕ, List, length, map, Some, Ok, Err, slice_get}
use Rattle.wasm_reader.specs.Cursor.{Cursor, end_of, rest}
use Rattle.walrus_arena.specs.Arena.{Arena, item_at}
use Rattle.walrus_function_types.specs.Growth.{Grows}
use Rattle.walrus_index_maps.specs.Maps.{Ids}
use Rattle.walrus_module_env.specs.walrus_handler_types.Giving.{GivesTree}
use Rattle.walrus_module_env.specs.walrus_body_parser.walrus_body_stack.walrus_instr.declared.seq.InstrSeq.{InstrSeq}
use Rattle.walrus_module_env.specs.walrus_body_parser.walrus_body_stack.walrus_instr.walrus_types.walrus_items.declared.local.Local.{Local}
use Rattle.walrus_forms.specs.Renaming.{at, renamed_value}
use Rattle.walrus_module_env.specs.walrus_handler_types.walrus_tree.Trees.{IsTree}
use Rattle.walrus_module_env.specs.Env.{tag_type_at}
use Rattle.walrus_module_env.specs.walrus_collections.walrus_local_function.walrus_body_locals.Locals.{AddsKept}
use Rattle.walrus_module_env.specs.walrus_collections.walrus_local_function.walrus_body_locals.Named.{kept_by}
use Rattle.walrus_module_env.specs.walrus_body_parser.walrus_body_steps.Meanings.{meaning}
use Rattle.walrus_module_env.specs.walrus_body_parser.walrus_body_steps.Picks.{ArePicks}
use Rattle.walrus_module_env.specs.walrus_body_parser.walrus_body_stack.walrus_body_nesting.Stands.{StandsAs}
use Rattle.walrus_module_env.specs.walrus_body_parser.walrus_body_stack.walrus_body_env.declared.error.BodyError.{BodyError}
use Rattle.walrus_module_env.specs.walrus_body_parser.walrus_body_rules.Sights.{Sight}
use Rattle.walrus_module_env.specs.walrus_body_parser.walrus_body_rules.wasm_body_grammar.wasm_formats.Stops.{Stop}
use Rattle.walrus_module_env.specs.walrus_body_parser.walrus_body_rules.wasm_body_grammar.Rules.{Around}
use Rattle.walrus_module_env.specs.walrus_body_parser.walrus_body_rules.wasm_body_grammar.Bodies.{Run, body, declared}
use Rattle.walrus_module_env.specs.walrus_body_parser.wasm_operators.Operators.{Seen}
use Rattle.walrus_module_env.specs.walrus_body_parser.walrus_body_stack.wasm_normal_form.Trees.{tree_of}
use Rattle.walrus_module_env.specs.walrus_body_parser.walrus_body_stack.wasm_normal_form.Normal.{normal}
use Rattle.walrus_module_env.specs.walrus_body_parser.wasm_operators.declared.block_type.BlockType.{BlockType}
use Rattle.walrus_module_env.specs.walrus_body_parser.walrus_body_stack.walrus_builder.Built.{Seq, seq_of}
use Rattle.walrus_module_env.specs.walrus_body_parser.walrus_body_stack.walrus_instr.walrus_types.Table.{IsFunctionType, Table}
use Rattle.walrus_module_env.specs.walrus_body_parser.Points.{place_at, ops_from}
use Rattle.walrus_module_env.specs.walrus_collections.walrus_local_function.walrus_body_locals.Calls.{IsFaultOf}
use Rattle.walrus_module_env.specs.walrus_collections.walrus_module_items.declared.tag.Tag.{Tag}
use Rattle.walrus_module_env.specs.declared.env.ModuleEnv.{ModuleEnv}
use Rattle.walrus_module_env.specs.Around.{IsFiled, sight_in}
use Rattle.walrus_module_env.specs.Parsed.{IsRead}
use Rattle.walrus_module_bodies.specs.declared.file.FileEnv.{FileEnv}
use Rattle.walrus_module_bodies.specs.Envs.{IsEnv}
use Rattle.walrus_module_env.specs.Handled.{SeesAside}

-- of the locals that these runs declare, behind so many parameters, those were added to the module that these operators name, or all, where all are
-- wanted, and the next indices of the function name them
abbrev pub AddsRuns : ℕ → ℕ → List Run → List (ℕ × Seen) → List Local → List Local → Ids → Ids → Type 0
AddsRuns function params runs ops ls ms i j =
    AddsKept function (kept_by i.all_locals params (length (declared runs)) (map (λ x. x.1) ops)) (map (renamed_value (at i.types)) (declared runs)) ls ms i j

-- the bytes are parsed as a body of this file, and its sequences stand as its normal form in the eyes of one who sees the module, types of
-- handlers aside; the function's indices name its parameters and those of the locals that the body declares that are added
pub record IsReadAside (e : ModuleEnv) (function params : ℕ) (old : Cursor) (i j : Ids) (ls ms : List Local) (b : List Seq) (a : Around) : Type 0 where
  pub sight : Sight
  pub aside : SeesAside sight (sight_in e function j)
  pub place : ℕ
  pub runs : List Run
  pub ops : List (ℕ × Seen)
  pub read : (body a params (place_at e.code_start old)).parse (rest old) ≡ Ok ((place, runs), ops)
  pub counted : length (j.locals function) ≡ params + length (declared runs)
  pub adds : AddsRuns function params runs ops ls ms i j
  pub stands : (pick : BlockType → BlockType) → ArePicks (sight_in e function j) pick → StandsAs (meaning sight) b (normal pick (tree_of (ops_from place ops)))

-- of each file whose sections were read into the module
abbrev pub IsBodyAside : ModuleEnv → ℕ → ℕ → Cursor → Ids → Ids → List Local → List Local → List Seq → Type 0
IsBodyAside e function params old i j ls ms b = (a : Around) → IsFiled e i function params old.window.features a → IsReadAside e function params old i j ls ms b a

-- of no such file they are a body: reading stops, for this fault
abbrev pub IsBodyFault : ModuleEnv → ℕ → ℕ → Cursor → Ids → BodyError → Type 0
IsBodyFault e function params old i fault = (a : Around) → IsFiled e i function params old.window.features a
    → (t : Stop) × ((body a params (place_at e.code_start old)).parse (rest old) ≡ Err t) × IsFaultOf (end_of old) t fault

-- each tag that the map numbers is live, and has a live function type
abbrev pub TagsStand : Arena Tag → Table → Ids → Type 0
TagsStand tags t i = (n tag : ℕ) → slice_get i.tags n ≡ Some tag → (item : Tag) × (item_at tags tag ≡ Some item) × IsFunctionType t item.ty

-- of each such file this is a body, beside each later table of the module's types; the function's indices name its parameters and the locals
-- that the body declares
abbrev pub IsHandledBody : FileEnv → Table → Table → ℕ → ℕ → Cursor → Ids → Ids → List Local → List Local → List Seq → Type 0
IsHandledBody file old new function params from i j ls ms b = (e f : ModuleEnv) (later : Table) → IsEnv file old e → Grows new later → IsEnv file later f
    → (a : Around) → IsFiled e i function params from.window.features a
    → (r : IsRead f function params from j b a) × (length (j.locals function) ≡ params + length (declared r.runs)) × AddsRuns function params r.runs r.ops ls ms i j

-- it was read beside some type for each handler, and its sequences formed a tree; then its handlers were given their types, in the order of the
-- text, by the table, which had those added that it lacked
pub record GivesHandlers (file : FileEnv) (old new : Table) (function params : ℕ) (from : Cursor) (i j : Ids) (ls ms : List Local) (b : List Seq) : Type 0 where
  pub env : ModuleEnv
  pub env_is : IsEnv file old env
  pub own : List InstrSeq
  pub tree : IsTree own 0
  pub aside : IsBodyAside env function params from i j ls ms (map seq_of own)
  pub given : GivesTree (tag_type_at env.tags.now) own tree old b new
