-- Bodies of a file that are read one after another into their module.
use Rattle.std.specs.Prelude.{ℕ, ◌≡◌, ◌≢◌, ◌⊎◌, ◌<◌, ◌+◌, List, [], ◌∷◌, length, All, IfSome, Some, None, Err}
use Rattle.wasm_features.specs.declared.WasmFeatures.{WasmFeatures}
use Rattle.wasm_reader.specs.Cursor.{Cursor}
use Rattle.walrus_arena.specs.Arena.{Arena, item_at, with_item}
use Rattle.walrus_forms.specs.declared.value.ValType.{ValType}
use Rattle.walrus_forms.specs.Kinds.{entry_kind}
use Rattle.walrus_module_env.specs.walrus_body_parser.walrus_body_stack.walrus_instr.walrus_types.Table.{IsFunctionType, Merges, Table}
use Rattle.walrus_function_types.specs.FunctionTypes.{params_at, results_at}
use Rattle.walrus_function_types.specs.Growth.{Grows}
use Rattle.walrus_index_maps.specs.Maps.{Ids}
use Rattle.walrus_module_env.specs.walrus_body_parser.walrus_body_stack.walrus_instr.walrus_types.walrus_items.declared.local.Local.{Local}
use Rattle.walrus_module_env.specs.walrus_body_parser.walrus_body_stack.walrus_body_env.declared.error.BodyError.{BodyError}
use Rattle.walrus_module_env.specs.walrus_body_parser.walrus_body_rules.wasm_body_grammar.wasm_formats.Stops.{Stop}
use Rattle.walrus_module_env.specs.walrus_body_parser.walrus_body_rules.wasm_body_grammar.Bodies.{body}
use Rattle.walrus_module_env.specs.walrus_body_parser.walrus_body_rules.wasm_body_grammar.Rules.{Around}
use Rattle.walrus_module_env.specs.walrus_body_parser.walrus_body_stack.walrus_builder.Built.{contents}
use Rattle.walrus_module_env.specs.declared.env.ModuleEnv.{ModuleEnv}
use Rattle.walrus_module_env.specs.Around.{IsFiled}
use Rattle.walrus_module_env.specs.walrus_collections.walrus_local_function.declared.local_function.LocalFunction.{LocalFunction}
use Rattle.walrus_module_env.specs.walrus_collections.walrus_local_function.walrus_body_locals.Calls.{IsFaultOf}
use Rattle.walrus_module_env.specs.walrus_collections.walrus_local_function.walrus_body_locals.Locals.{Adds, Leaves, ids_from}
use Rattle.walrus_module_env.specs.walrus_collections.walrus_module_items.declared.function.Function.{Function}
use Rattle.walrus_module_env.specs.walrus_collections.walrus_module_items.declared.function.FunctionKind.TheVariants as kinds
use Rattle.walrus_module_env.specs.walrus_collections.walrus_module_items.Functions.{type_of}
use Rattle.walrus_module_env.specs.walrus_functions_into.declared.bodies.FunctionBody.{FunctionBody}
use Rattle.walrus_module_bodies.specs.declared.file.FileEnv.{FileEnv}
use Rattle.walrus_module_bodies.specs.Envs.{IsEnv}
use Rattle.walrus_module_bodies.specs.Reading.{GivesHandlers, IsHandledBody}

-- what of a module changes while its bodies are read
pub record State : Type 0 where
  pub types : Table
  pub locals : List Local
  pub ids : Ids
  pub functions : Arena Function

abbrev pub state : Table → List Local → Ids → Arena Function → State
state types locals ids functions = record { types = types; locals = locals; ids = ids; functions = functions }

-- the bytes of a body at their place in the file, of which nothing is read yet
abbrev pub cursor_of : FileEnv → WasmFeatures → FunctionBody → Cursor
cursor_of file features b = record {
  window = record { bytes = b.chunk.bytes.now; start = file.code_start + b.chunk.place; features = features };
  position = 0;
}

-- they lie in a file that may be read
abbrev pub IsPlaced : FileEnv → FunctionBody → Type 0
IsPlaced file b = file.code_start + b.chunk.place + length b.chunk.bytes.now < 4294967295

-- a function that may get a body: it has a live function type, and no locals
pub record IsReady (s : State) (b : FunctionBody) : Type 0 where
  pub item : Function
  pub live : item_at s.functions b.number ≡ Some item
  pub typed : IsFunctionType s.types (type_of item.kind)
  pub no_locals : s.ids.locals b.number ≡ []

-- a local for each parameter was added, and these numbers of the function name them
pub record HasArguments (function : ℕ) (params : List ValType) (old new : List Local) (i j : Ids) (args : List ℕ) : Type 0 where
  pub adds : Adds function params old new i j
  pub args_are : args ≡ ids_from (length old) params

-- whatever types are added, and whatever locals are named, this is the module of that file
abbrev pub IsModuleOf : FileEnv → WasmFeatures → Table → Ids → Around → Type 0
IsModuleOf file features t i a =
    (v : Table) (e : ModuleEnv) (locals : ℕ → List ℕ) (function : ℕ) → Grows t v → IsEnv file v e → IsFiled e (record i { locals = locals }) function (length (locals function)) features a

-- it is the module of a file
abbrev pub IsFiledLater : FileEnv → WasmFeatures → Table → Ids → Type 0
IsFiledLater file features t i = (a : Around) × IsModuleOf file features t i a

-- a body is read for its function: its arguments and the type of its own block come first, then it is read, and its handlers are given
-- their types
pub record IsStep (file : FileEnv) (features : WasmFeatures) (b : FunctionBody) (old new : State) : Type 0 where
  pub item : Function
  pub was : item_at old.functions b.number ≡ Some item
  pub params : List ValType
  pub params_are : params_at old.types (type_of item.kind) ≡ Some params
  pub results : List ValType
  pub results_are : results_at old.types (type_of item.kind) ≡ Some results
  pub named : List Local
  pub numbered : Ids
  pub arguments : Adds b.number params old.locals named old.ids numbered
  pub entry : ℕ
  pub mid : Table
  pub entered : Merges (entry_kind results) entry old.types mid
  pub body : LocalFunction
  pub read : IsHandledBody file mid new.types b.number (length params) (cursor_of file features b) numbered new.ids named new.locals (contents body.builder.builder)
  pub handled : GivesHandlers file mid new.types b.number (length params) (cursor_of file features b) numbered new.ids named new.locals (contents body.builder.builder)
  pub grown : Grows old.types new.types
  pub ty_is : body.builder.ty ≡ type_of item.kind
  pub no_name : body.builder.name ≡ None
  pub args_are : body.args.items ≡ ids_from (length old.locals) params
  pub left : Leaves b.number named new.locals numbered new.ids
  pub given : new.functions ≡ with_item old.functions b.number (record item { kind = kinds.Local body })

-- this is read for its function, in each collection that has the function so: whoever gives it to the function there has made a step
abbrev pub ReadsFor : FileEnv → WasmFeatures → FunctionBody → State → Table → List Local → Ids → LocalFunction → Type 0
ReadsFor file features b old types locals i f = (before given : Arena Function) → item_at before b.number ≡ item_at old.functions b.number
    → IfSome (item_at before b.number) (λ (item : Function). given ≡ with_item before b.number (record item { kind = kinds.Local f }))
    → IsStep file features b (record old { functions = before }) (state types locals i given)

-- so are all of these, in turn
abbrev pub Steps : FileEnv → WasmFeatures → List FunctionBody → State → State → Type 0
Steps file features [] old new = new ≡ old
Steps file features (b ∷ bs) old new = (mid : State) × IsStep file features b old mid × Steps file features bs mid new

-- a body isn't read: in the file its bytes are none of its function, for this fault
pub record Fails (file : FileEnv) (features : WasmFeatures) (b : FunctionBody) (old : State) (fault : BodyError) : Type 0 where
  pub item : Function
  pub was : item_at old.functions b.number ≡ Some item
  pub params : List ValType
  pub params_are : params_at old.types (type_of item.kind) ≡ Some params
  pub stops : (a : Around) → IsModuleOf file features old.types old.ids a → (t : Stop) × ((body a (length params) b.chunk.place).parse b.chunk.bytes.now ≡ Err t)
      × IsFaultOf (file.code_start + b.chunk.place + length b.chunk.bytes.now) t fault

-- the first of these fails so, or it is read and one behind it fails
abbrev pub StopsIn : FileEnv → WasmFeatures → List FunctionBody → State → BodyError → Type 0
StopsIn file features [] old fault = ⊥
StopsIn file features (b ∷ bs) old fault = Fails file features b old fault ⊎ ((mid : State) × IsStep file features b old mid × StopsIn file features bs mid fault)

-- the bodies of different functions
abbrev pub AreApart : List FunctionBody → Type 0
AreApart [] = Unit {0}
AreApart (b ∷ bs) = All (λ (c : FunctionBody). c.number ≢ b.number) bs × AreApart bs
