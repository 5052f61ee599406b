-- A plan that lists what `gc::run` left of a module that was read has just what is kept of the file's module.
use Rattle.std.specs.Prelude.{ℕ, ◌≡◌, ◌<◌, List, [], All, Contains, Option, Some, None, IsSome, slice_get, slice_index_or}
use Rattle.std.specs.List.{AllByRecursion}
use Rattle.wasm_grammar.specs.Modules as grammar
use Rattle.wasm_modules.specs.Modules.{Reads}
use Rattle.wasm_operators.specs.Items.{Space, Types, Functions, Tables, Memories, Tags, Globals, ElementSegments, DataSegments}
use Rattle.wasm_part.specs.Handlers.{handler_groups}
use Rattle.wasm_part.specs.Kept.{HasKept, ListsItems}
use Rattle.wasm_part.specs.Part.{IsIn, Plan}
use Rattle.wasm_part.specs.Seen.{file_seen, seen_as}
use Rattle.walrus_config.specs.declared.config.ModuleConfig.{ModuleConfig}
use Rattle.walrus_index_maps.specs.Maps.{Ids}
use Rattle.walrus_types.specs.TypeLaws.{AreGrouped}
use Rattle.walrus_module.specs.declared.module.Module.{Module as Whole}
use Rattle.walrus_module.specs.Items.{written_type}
use Rattle.walrus_module.specs.Parts.{Module, parts}
use Rattle.walrus_meaning.specs.Meaning.{type_ids}
use Rattle.walrus_passes.specs.Part.{IsKeptPart}
use Rattle.walrus_refusals.specs.Sound.{IsSound}
use Rattle.walrus_named_bodies.specs.Parsed.{IsReadAs, read_features}
use Rattle.walrus_parse_laws.specs.Meant.{place_of}
use Rattle.walrus_parse_laws.specs.Means.{MeansFile}
use Rattle.walrus_pass_laws.specs.Meant.{meant}
use Rattle.walrus_parse_gc_laws.specs.Numbered.{numbered}
use Rattle.walrus_kept_laws.specs.Alike.{KeptAlike}

-- each item of the space that is there is listed, at its new number
abbrev pub AreListed : {A : Type 0} → Plan → Space → List (Option A) → Type 0
AreListed {A} p space xs = (n : ℕ) (x : A) → slice_index_or xs n None ≡ Some x → IsIn p space n

-- so are all that live in the module, and nothing else is; a type by its place among these ids, where it isn't an entry type
pub record ListsJust (ids : List ℕ) (n : Module) (p : Plan) : Type 0 where
  pub items : ListsItems p (numbered n)
  pub imports : (i : ℕ) (x : grammar.Import) → slice_index_or (numbered n).imports i None ≡ Some x → Contains p.imports i
  pub functions : AreListed p Functions (numbered n).functions
  pub tables : AreListed p Tables (numbered n).tables
  pub memories : AreListed p Memories (numbered n).memories
  pub tags : AreListed p Tags (numbered n).tags
  pub globals : AreListed p Globals (numbered n).globals
  pub exports : (i : ℕ) (x : grammar.Export) → slice_index_or (numbered n).exports i None ≡ Some x → Contains p.exports i
  pub elements : AreListed p ElementSegments (numbered n).elements
  pub segments : AreListed p DataSegments (numbered n).segments
  pub types : (place id : ℕ) → slice_get ids place ≡ Some id → IsSome (written_type n.types id) → IsIn p Types place
  pub only_types : (i place : ℕ) → slice_get (p.listed Types) i ≡ Some place → (id : ℕ) × (slice_get ids place ≡ Some id) × IsSome (written_type n.types id)
  pub declared : AllByRecursion (AllByRecursion (λ f. IsSome (slice_index_or (numbered n).functions f None))) p.declared

-- where in a module that was read the same is kept by ids as by places, a plan that lists what is left has what is kept of the file's module: its bodies in normal form,
-- its types merged, with those of handlers behind them
abbrev pub PlansHaveKept : Type 0 → Type 0
PlansHaveKept B = (config : ModuleConfig) (file : grammar.Module) (m : Whole B) (found : Ids) → MeansFile config file m found → AreGrouped m.types → IsSound (parts m) []
    → KeptAlike (type_ids m.types) (meant (parts m)) (seen_as (read_features config) (numbered (parts m))) m.config.keep_segments []
    → (n : Module) → IsKeptPart (parts m) [] n → (p : Plan) → ListsJust (type_ids m.types) n p
    → HasKept (file_seen place_of (read_features config) (handler_groups file) file) m.config.keep_segments [] p

-- so it is of each module that was read
abbrev pub ReadPlansHaveKept : Type 0 → Type 0
ReadPlansHaveKept B = (config : ModuleConfig) (bytes : List ℕ) (file : grammar.Module) (m : Whole B) (found : Ids) → All (λ b. b < 256) bytes → IsReadAs config bytes m found
    → Reads (read_features config) bytes file → MeansFile config file m found → AreGrouped m.types → IsSound (parts m) []
    → (n : Module) → IsKeptPart (parts m) [] n → (p : Plan) → ListsJust (type_ids m.types) n p
    → HasKept (file_seen place_of (read_features config) (handler_groups file) file) m.config.keep_segments [] p
