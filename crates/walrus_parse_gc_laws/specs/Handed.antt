-- What `on_parse` of `parse_with` is handed, said of the bytes: a linked module that means their module and meets the rules.
use Rattle.std.specs.Prelude.{ℕ, ◌<◌, List, All, Result}
use Rattle.std.specs.Borrow.{Bor, MutBor}
use Rattle.std.specs.Fn.{Once}
use Rattle.walrus_config.specs.declared.config.ModuleConfig.{ModuleConfig}
use Rattle.walrus_errors.specs.declared.error.ModuleError.{ModuleError}
use Rattle.walrus_parse_laws.specs.walrus_named_bodies.Parsed.{HandsOn, Leaves}
use Rattle.walrus_parse_laws.specs.walrus_named_bodies.walrus_item_names.walrus_module.declared.module.Module.{Module as Whole}
use Rattle.walrus_parse_laws.specs.walrus_pairing.walrus_index_maps.Views.{ids}
use Rattle.walrus_parse_laws.specs.walrus_pairing.walrus_index_maps.declared.indices_to_ids.IndicesToIds.{IndicesToIds}
use Rattle.walrus_walks.specs.walrus_instr.declared.seq.InstrLocId.{InstrLocId}
use Rattle.walrus_parse_gc_laws.specs.RuledSent.{IsHandedOn}

module _ {G : Type 0} (step : G → ℕ → InstrLocId → G → Type 0) {B F : Type 0} (on_parse : Once F (MutBor (Whole B) × (Bor IndicesToIds × Unit {0})) (Result (Unit {0}) ModuleError × (MutBor (Whole B) × Unit {0}))) where
  -- it was handed such a module, with what the file's indices name, before it answered this and left that module
  pub record IsHanded (config : ModuleConfig) (bytes : List ℕ) (f : F) (answer : Result (Unit {0}) ModuleError) (m : Whole B) : Type 0 where
    pub read : Whole B
    pub handed : Whole B
    pub found : IndicesToIds
    pub is : IsHandedOn step config bytes (ids found) read handed
    pub left : Leaves on_parse f handed found answer m

  abbrev pub HandedModulesMeanTheirFiles : Type 0
  HandedModulesMeanTheirFiles = (config : ModuleConfig) (bytes : List ℕ) (places : G) (f : F) (answer : Result (Unit {0}) ModuleError) (m : Whole B) → All (λ b. b < 256) bytes
      → HandsOn step places on_parse f config bytes answer m → IsHanded config bytes f answer m
