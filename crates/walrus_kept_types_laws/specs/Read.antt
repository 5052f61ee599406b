-- The types of a module that was read.
use Rattle.std.specs.Prelude.{ℕ, ◌≡◌, ◌<◌, ◌⊎◌, ◌++◌, false, List, length, map}
use Rattle.walrus_config.specs.declared.config.ModuleConfig.{ModuleConfig}
use Rattle.walrus_forms.specs.Renaming.{at}
use Rattle.walrus_index_maps.specs.Maps.{Ids}
use Rattle.walrus_meaning.specs.Meaning.{own_groups}
use Rattle.walrus_module.specs.declared.module.Module.{Module as Whole}
use Rattle.walrus_types.specs.Emission.{is_written}
use Rattle.walrus_types.specs.Table.{Table}
use Rattle.walrus_types.specs.TypeLaws.{AreGrouped}
use Rattle.walrus_type_laws.specs.Edits.{IsSettled}
use Rattle.walrus_named_bodies.specs.Parsed.{IsReadAs, read_features}
use Rattle.walrus_parse_laws.specs.Means.{MeansFile, handler_kinds}
use Rattle.wasm_grammar.specs.Modules.{Module}
use Rattle.wasm_merged_modules.specs.Merged.{ids_of, kept_of, kinds_of, single}
use Rattle.wasm_modules.specs.Modules.{Reads}
use Rattle.wasm_part.specs.Handlers.{handler_groups}
use Rattle.walrus_kept_types_laws.specs.Written.{AreRead}

-- no single type equals an earlier one, and groups without a mark have one member
abbrev pub ReadTypesAreSettled : Type 0 → Type 0
ReadTypesAreSettled B = (config : ModuleConfig) (bytes : List ℕ) (m : Whole B) (found : Ids) → IsReadAs config bytes m found → IsSettled m.types

-- the types that handlers have and the file lacks, by the file alone
abbrev pub HandlersAreLacking : Type 0
HandlersAreLacking = (file : Module) → map single (handler_kinds file) ≡ handler_groups file

-- those of the file have the ids 0, 1 and on, as many as stand for themselves there
pub record AreReadOf (file : Module) (t : Table) : Type 0 where
  pub are : AreRead t
  pub many : are.count ≡ length (kinds_of (kept_of file.groups))
  -- the groups are those of the file, each type by its id, and behind them those of handlers
  pub groups : own_groups t ≡ kept_of file.groups ++ handler_groups file
  -- each type of the file stands for one of these; without any there are none of handlers either
  pub sent : (n : ℕ) → (at (ids_of file.groups) n < are.count) ⊎ ((id : ℕ) → is_written t id ≡ false)

abbrev pub ReadTypesAreRead : Type 0 → Type 0
ReadTypesAreRead B = (config : ModuleConfig) (bytes : List ℕ) (m : Whole B) (found : Ids) (file : Module) → IsReadAs config bytes m found → Reads (read_features config) bytes file
    → MeansFile config file m found → AreGrouped m.types → AreReadOf file m.types
