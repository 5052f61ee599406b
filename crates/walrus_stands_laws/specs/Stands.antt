-- What emission writes of a module that was read, and of which what isn't kept was dropped, stands for its file: the part of the file's merged module that has just
-- what is kept, by a plan, in order, with the functions declared that have to be.
use Rattle.std.specs.Prelude.{ℕ, ◌≡◌, List, []}
use Rattle.std.specs.List.{AllZip}
use Rattle.walrus_arena.specs.Arena.{entries}
use Rattle.walrus_collections.specs.LookUps.{local_entries}
use Rattle.walrus_config.specs.declared.config.ModuleConfig.{ModuleConfig}
use Rattle.walrus_index_maps.specs.Maps.{Ids}
use Rattle.walrus_types.specs.Table.{Table}
use Rattle.walrus_types.specs.TypeLaws.{AreGrouped}
use Rattle.walrus_types.specs.declared.emit.EmittedTypes.{EmittedTypes}
use Rattle.walrus_module.specs.Parts.{Module as Parts, parts}
use Rattle.walrus_module.specs.declared.module.Module.{Module}
use Rattle.walrus_meaning.specs.Meaning.{type_ids}
use Rattle.walrus_passes.specs.Part.{IsKeptPart}
use Rattle.walrus_refusals.specs.Sound.{IsSound}
use Rattle.walrus_named_bodies.specs.Parsed.{IsReadAs, read_features}
use Rattle.walrus_emit.specs.Left.{Declares}
use Rattle.walrus_emit.specs.Settled.{AreEmitted}
use Rattle.walrus_emit_numbers.specs.Facts.{AreFacts}
use Rattle.walrus_emit_numbers.specs.Undeclared.{undeclared_of}
use Rattle.walrus_emit_numbers.specs.declared.facts.BodyFacts.{BodyFacts}
use Rattle.walrus_parse_laws.specs.Means.{MeansFile}
use Rattle.walrus_parse_laws.specs.Meant.{place_of}
use Rattle.walrus_pass_laws.specs.Meant.{meant}
use Rattle.walrus_parse_gc_laws.specs.Numbered.{numbered}
use Rattle.walrus_plan_laws.specs.Emissions.{HasPlan}
use Rattle.walrus_plan_laws.specs.Plans.{plan_of}
use Rattle.walrus_code_laws.specs.Parts as code
use Rattle.walrus_kept_laws.specs.Alike.{KeptAlike}
use Rattle.walrus_kept_types_laws.specs.Placed.{placed_table}
use Rattle.walrus_declared_laws.specs.Standing.{file_plan, merged_file}
use Rattle.wasm_grammar.specs.Modules as grammar
use Rattle.wasm_modules.specs.Modules.{Reads}
use Rattle.wasm_module_bytes.specs.Bytes.{without_places}
use Rattle.wasm_part.specs.Handlers.{handler_groups}
use Rattle.wasm_part.specs.Order.{HasDeclared, InOrder}
use Rattle.wasm_part.specs.Part.{Plan, part}
use Rattle.wasm_part.specs.Seen.{file_seen, seen_as}
use Rattle.wasm_part.specs.Stands.{Stands}
use Rattle.wasm_part.specs.Written.{WritesKept}
use Rattle.wasm_places_laws.specs.Places.{FunctionsAtPlaces}

module _ {B : Type 0} (config : ModuleConfig) (bytes : List ℕ) (file : grammar.Module) (found : Ids) (read kept left : Module B) (facts : List BodyFacts) (order : List ℕ) (emitted : EmittedTypes) where
  -- the module that was read of the file, what is kept of it, and what emission left of that when it wrote it, with these facts and types
  pub record IsLeft : Type 0 where
    pub is_read : IsReadAs config bytes read found
    pub reads : Reads (read_features config) bytes file
    pub means : MeansFile config file read found
    pub grouped : AreGrouped read.types
    -- the same is kept by ids as by places
    pub alike : KeptAlike (type_ids read.types) (meant (parts read)) (seen_as (read_features config) (numbered (parts read))) config.keep_segments []
    pub sound : IsSound (parts read) []
    pub part : IsKeptPart (parts read) [] (parts kept)
    pub still : AreGrouped kept.types
    pub known : AllZip AreFacts (local_entries (entries kept.funcs)) facts
    pub declares : Declares (undeclared_of kept facts) (parts kept) (parts left)
    pub types : AreEmitted left.types emitted
    pub plan : HasPlan left facts order emitted

  -- its plan as one of the file's merged module: types by their places there, and the segment that declares functions as one that is added; and its types, by places
  abbrev pub plan_in_file : Plan
  plan_in_file = file_plan read.types emitted.indices (undeclared_of kept facts) (parts kept) (plan_of left facts order emitted)

  abbrev pub types_in_file : Table
  types_in_file = placed_table (type_ids read.types) kept.types

  -- it writes just what is kept of that, in order, and is the same part
  pub record StandsForFile : Type 0 where
    pub writes : WritesKept (file_seen place_of (read_features config) (handler_groups file) file) config.keep_segments [] types_in_file plan_in_file
    pub ordered : InOrder (merged_file config file) plan_in_file
    pub declared : HasDeclared (merged_file config file) plan_in_file plan_in_file.declared
    pub same : part (plan_of left facts order emitted) (code.numbered (parts left)) ≡ part plan_in_file (merged_file config file)
    pub functions : FunctionsAtPlaces plan_in_file
    -- so what is that part, places aside, with any custom sections, stands for the file
    pub stands : (n : grammar.Module) → without_places n ≡ record (without_places (part (plan_of left facts order emitted) (code.numbered (parts left)))) { customs = n.customs }
        → Stands place_of config.keep_segments (read_features config) file n types_in_file plan_in_file

abbrev pub EmissionsStandForFiles : Type 0 → Type 0
EmissionsStandForFiles B = (config : ModuleConfig) (bytes : List ℕ) (file : grammar.Module) (found : Ids) (read kept left : Module B) (facts : List BodyFacts) (order : List ℕ) (emitted : EmittedTypes)
    → IsLeft config bytes file found read kept left facts order emitted → StandsForFile config bytes file found read kept left facts order emitted

-- locals are numbered the same, whichever way
abbrev pub NumberedIsOne : Type 0
NumberedIsOne = (m : Parts) → code.numbered m ≡ numbered m
