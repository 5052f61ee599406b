-- What is written of the types of a module that was read, once what isn't kept is deleted, in words of the file's module.
use Rattle.std.specs.Prelude.{ℕ, ◌≡◌, List, map, Option}
use Rattle.walrus_config.specs.declared.config.ModuleConfig.{ModuleConfig}
use Rattle.walrus_forms.specs.Records.{TypeGroup}
use Rattle.walrus_forms.specs.Renaming.{at, index_at}
use Rattle.walrus_index_maps.specs.Maps.{Ids}
use Rattle.walrus_meaning.specs.Meaning.{type_ids}
use Rattle.walrus_module.specs.declared.module.Module.{Module as Whole}
use Rattle.walrus_types.specs.Emission.{IsEmission}
use Rattle.walrus_types.specs.Inverse.{AreInverse}
use Rattle.walrus_types.specs.Table.{Table}
use Rattle.walrus_types.specs.TypeLaws.{AreGrouped}
use Rattle.walrus_named_bodies.specs.Parsed.{IsReadAs, read_features}
use Rattle.walrus_parse_laws.specs.Means.{MeansFile}
use Rattle.walrus_parse_laws.specs.Meant.{place_of}
use Rattle.wasm_grammar.specs.Modules.{Module}
use Rattle.wasm_merged_modules.specs.Merged.{ids_of}
use Rattle.wasm_modules.specs.Modules.{Reads}
use Rattle.wasm_part.specs.Handlers.{handler_groups}
use Rattle.wasm_part.specs.Seen.{file_seen}
use Rattle.walrus_kept_types_laws.specs.Placed.{place_among, placed_indices, placed_table}
use Rattle.walrus_kept_types_laws.specs.Written.{AreLeft, WritesTypes}

-- where the types that are left are written by these records, in this order: the file's module, its bodies in normal form, numbers a type by its place among those
-- that were read, and by these numbers they are written
abbrev pub ReadTypesAreWritten : Type 0 → Type 0
ReadTypesAreWritten B = (config : ModuleConfig) (bytes : List ℕ) (m : Whole B) (found : Ids) (file : Module) → IsReadAs config bytes m found → Reads (read_features config) bytes file
    → MeansFile config file m found → AreGrouped m.types → (t : Table) → AreGrouped t → AreLeft m.types t
    → (out : List TypeGroup) (indices : List (Option ℕ)) (order : List ℕ) → IsEmission t out indices → AreInverse order indices
    → (let ids = type_ids m.types in
    WritesTypes (file_seen place_of (read_features config) (handler_groups file) file) (placed_table ids t) out (placed_indices ids indices) (map (place_among ids) order))

-- and each type of the file has the number by its number that it has by its id
abbrev pub FileTypesHaveTheirIndices : Type 0 → Type 0
FileTypesHaveTheirIndices B = (config : ModuleConfig) (bytes : List ℕ) (m : Whole B) (found : Ids) (file : Module) → IsReadAs config bytes m found → Reads (read_features config) bytes file
    → MeansFile config file m found → AreGrouped m.types → (t : Table) → AreLeft m.types t → (out : List TypeGroup) (indices : List (Option ℕ)) → IsEmission t out indices
    → (n : ℕ) → index_at (placed_indices (type_ids m.types) indices) (at (ids_of file.groups) n) ≡ index_at indices (at (ids_of file.groups) n)
