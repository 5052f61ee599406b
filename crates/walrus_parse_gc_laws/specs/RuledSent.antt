-- What `on_parse` of `parse_with` is handed: the module that was read, its locations sent through a callback.
use Rattle.std.specs.Prelude.{ℕ, ◌<◌, List, All}
use Rattle.wasm_merged_modules.specs.wasm_normal_modules.wasm_ruled_renamed.wasm_ruled_normal.wasm_ruled_modules.wasm_module_rules.wasm_modules.Modules.{Reads}
use Rattle.wasm_merged_modules.specs.wasm_normal_modules.wasm_ruled_renamed.wasm_ruled_normal.wasm_ruled_modules.wasm_module_rules.wasm_modules.wasm_body_grammar.wasm_grammar.Modules as grammar
use Rattle.walrus_config.specs.declared.config.ModuleConfig.{ModuleConfig}
use Rattle.walrus_parse_laws.specs.walrus_meaning.Meaning.{means}
use Rattle.walrus_parse_laws.specs.walrus_meaning.walrus_body_writer.walrus_pairing.walrus_index_maps.Maps.{Ids}
use Rattle.walrus_parse_laws.specs.walrus_meaning.walrus_linked.Linked.{IsLinked}
use Rattle.walrus_parse_laws.specs.walrus_named_bodies.Parsed.{IsReadAs, read_features}
use Rattle.walrus_parse_laws.specs.walrus_named_bodies.walrus_item_names.walrus_module.Parts.{parts}
use Rattle.walrus_parse_laws.specs.walrus_named_bodies.walrus_item_names.walrus_module.declared.module.Module.{Module as Whole}
use Rattle.walrus_parse_laws.specs.walrus_named_bodies.walrus_item_names.walrus_module.walrus_module_items.declared.function.Function.{Function}
use Rattle.walrus_parse_laws.specs.Means.{HasNames, MeansFile, holder_of, names_in}
use Rattle.walrus_locations.specs.Sent.{FunctionsSent}
use Rattle.walrus_walks.specs.walrus_instr.declared.seq.InstrLocId.{InstrLocId}
use Rattle.walrus_meaning.specs.walrus_linked.walrus_module.walrus_types.walrus_forms.walrus_arena.Arena.{Arena}
use Rattle.walrus_parse_gc_laws.specs.Moved.{ModuleMoved}
use Rattle.walrus_parse_gc_laws.specs.Sent.{IsAnswer}
use Rattle.walrus_parse_gc_laws.specs.Ruled.{MeansRuled}

module _ {F : Type 0} (step : F → ℕ → InstrLocId → F → Type 0) where
  -- what means a ruled module means one when its locations are sent
  abbrev pub SentModulesMeanRuledOnes : Type 0 → Type 0
  SentModulesMeanRuledOnes B = (config : ModuleConfig) (f g : F) (m : Whole B) (functions : Arena Function) → FunctionsSent step f m.funcs g functions
      → MeansRuled (read_features config) m → MeansRuled (read_features config) (record m { funcs = functions })

  -- of the one that was read, and the one that is handed on: this is linked, and means a ruled module; that means the module of the file that
  -- the bytes read as, and what this means is the same, each operator at the answer for its place; it has the names that it was given
  pub record IsHandedOn {B : Type 0} (config : ModuleConfig) (bytes : List ℕ) (found : Ids) (read handed : Whole B) : Type 0 where
    pub linked : IsLinked (parts handed)
    pub ruled : MeansRuled (read_features config) handed
    pub file : grammar.Module
    pub reads : Reads (read_features config) bytes file
    pub meant : MeansFile config file read found
    pub moved : ModuleMoved (IsAnswer step) (means (parts read)) (means (parts handed))
    pub names : HasNames (names_in config file handed found) (holder_of handed)

  abbrev pub ReadModulesAreHandedOn : Type 0 → Type 0
  ReadModulesAreHandedOn B = (config : ModuleConfig) (bytes : List ℕ) (m : Whole B) (found : Ids) (f g : F) (functions : Arena Function) → All (λ b. b < 256) bytes
      → IsReadAs config bytes m found → FunctionsSent step f m.funcs g functions → IsHandedOn config bytes found m (record m { funcs = functions })
