-- What emission writes of a module that was read and of which what isn't kept was deleted: its plan, by which the part of the file's merged module is written, with
-- its types, in order, with the functions that have to be declared.
use Rattle.std.specs.Prelude.{ℕ, ◌≡◌, ◌++◌, true, List, [], length, map, Option}
use Rattle.std.specs.List.{AllZip}
use Rattle.walrus_arena.specs.Arena.{entries}
use Rattle.walrus_collections.specs.LookUps.{local_entries}
use Rattle.walrus_config.specs.declared.config.ModuleConfig.{ModuleConfig}
use Rattle.walrus_due_laws.specs.Listed.{LivingAreListed}
use Rattle.walrus_emit.specs.Left.{Declares}
use Rattle.walrus_emit_numbers.specs.Facts.{AreFacts}
use Rattle.walrus_emit_numbers.specs.Undeclared.{undeclared_of}
use Rattle.walrus_emit_numbers.specs.declared.facts.BodyFacts.{BodyFacts}
use Rattle.walrus_forms.specs.Renaming.{index_at}
use Rattle.walrus_index_maps.specs.Maps.{Ids}
use Rattle.walrus_meaning.specs.Meaning.{means, type_ids}
use Rattle.walrus_module.specs.Parts.{Module as Parts, parts}
use Rattle.walrus_module.specs.declared.module.Module.{Module}
use Rattle.walrus_named_bodies.specs.Parsed.{IsReadAs, read_features}
use Rattle.walrus_parse_gc_laws.specs.Numbered.{numbered}
use Rattle.walrus_parse_laws.specs.Means.{MeansFile}
use Rattle.walrus_parse_laws.specs.Meant.{place_of}
use Rattle.walrus_types.specs.Emission.{IsEmission}
use Rattle.walrus_types.specs.Inverse.{AreInverse}
use Rattle.walrus_types.specs.Table.{Table}
use Rattle.walrus_types.specs.TypeLaws.{AreGrouped}
use Rattle.wasm_grammar.specs.Modules as grammar
use Rattle.wasm_merged_modules.specs.Merged.{merged_module}
use Rattle.wasm_modules.specs.Modules.{Reads}
use Rattle.wasm_normal_modules.specs.Modules.{MeetsRules}
use Rattle.wasm_operators.specs.Items.{ElementSegments, Types}
use Rattle.wasm_part.specs.Agree.{AgreeOn}
use Rattle.wasm_part.specs.Handlers.{handler_groups}
use Rattle.wasm_part.specs.Order.{HasDeclared, InOrder, brought_by}
use Rattle.wasm_part.specs.Part.{Plan, part}
use Rattle.wasm_part.specs.Seen.{file_seen}
use Rattle.walrus_kept_types_laws.specs.Placed.{place_among, placed_indices, placed_table}
use Rattle.walrus_kept_types_laws.specs.Written.{AreLeft, WritesTypes}
use Rattle.walrus_declared_laws.specs.Emitted.{living, plan_with}
use Rattle.walrus_declared_laws.specs.Retyped.{retyped_plan}

-- the file's module in normal form, its types merged, those of handlers behind them
abbrev pub merged_file : ModuleConfig → grammar.Module → grammar.Module
merged_file config file = merged_module place_of (read_features config) true (handler_groups file) file

-- the plan of what is written, as one of that module: types are numbered by their places there, and a segment that was added is one that it adds
abbrev pub file_plan : Table → List (Option ℕ) → List ℕ → Parts → Plan → Plan
file_plan read indices functions left q =
    retyped_plan (index_at (placed_indices (type_ids read) indices)) (map (place_among (type_ids read)) (q.listed Types)) (plan_with functions left q)

module _ {B : Type 0} (config : ModuleConfig) (bytes : List ℕ) (file : grammar.Module) (found : Ids) (read left : Module B) (facts : List BodyFacts) (written : Parts) (q : Plan) (indices : List (Option ℕ)) where
  -- what is known of the module that was read, of what is left of it, and of the one that is written of that, by a plan of all that lives in it
  pub record IsWritten : Type 0 where
    pub is_read : IsReadAs config bytes read found
    pub reads : Reads (read_features config) bytes file
    pub meant : MeansFile config file read found
    pub ruled : MeetsRules (read_features config) true (merged_file config file)
    pub grouped : AreGrouped read.types
    pub still : AreGrouped left.types
    pub types_left : AreLeft read.types left.types
    pub known : AllZip AreFacts (local_entries (entries left.funcs)) facts
    pub declares : Declares (undeclared_of left facts) (parts left) written
    -- the plan of what is written lists what lives there, in order, and types as they are emitted
    pub lists : LivingAreListed q (means written)
    pub ordered : InOrder (means written) q
    pub no_more : q.declared ≡ []
    pub imports : List ℕ
    pub segments : q.listed ElementSegments ≡ brought_by (means written) ElementSegments imports ++ living (means written).elements
    pub emitted : IsEmission left.types q.groups indices
    pub inverse : AreInverse (q.listed Types) indices
    pub numbers : (id : ℕ) → q.renames Types id ≡ index_at indices id
    -- what is left is as it was
    pub agree : AgreeOn (plan_with (undeclared_of left facts) (parts left) q) (merged_file config file) (numbered (parts left))
    pub sized : length (merged_file config file).functions ≡ length (numbered (parts left)).functions

  -- then the part of the file's merged module is written, by the plan
  pub record Stands : Type 0 where
    pub types : WritesTypes (file_seen place_of (read_features config) (handler_groups file) file) (placed_table (type_ids read.types) left.types) q.groups (placed_indices (type_ids read.types) indices)
        ((file_plan read.types indices (undeclared_of left facts) (parts left) q).listed Types)
    pub order : InOrder (merged_file config file) (file_plan read.types indices (undeclared_of left facts) (parts left) q)
    pub declared : HasDeclared (merged_file config file) (file_plan read.types indices (undeclared_of left facts) (parts left) q) (file_plan read.types indices (undeclared_of left facts) (parts left) q).declared
    pub same : part q (numbered written) ≡ part (file_plan read.types indices (undeclared_of left facts) (parts left) q) (merged_file config file)

abbrev pub EmittedPartsStand : Type 0 → Type 0
EmittedPartsStand B = (config : ModuleConfig) (bytes : List ℕ) (file : grammar.Module) (found : Ids) (read left : Module B) (facts : List BodyFacts) (written : Parts) (q : Plan) (indices : List (Option ℕ))
    → IsWritten config bytes file found read left facts written q indices → Stands config bytes file found read left facts written q indices
