-- A module that was read isn't refused.
use Rattle.std.specs.Prelude.{ℕ, ◌≡◌, ◌<◌, List, All}
use Rattle.walrus_config.specs.declared.config.ModuleConfig.{ModuleConfig}
use Rattle.walrus_errors.specs.declared.error.ModuleError.{ModuleError}
use Rattle.walrus_errors.specs.declared.error.ModuleError.TheVariants as refusals
use Rattle.walrus_parse_laws.specs.walrus_named_bodies.walrus_file_bodies.walrus_items_into.walrus_module_env.walrus_handler_types.walrus_body_steps.walrus_body_nesting.wasm_formats.declared.fault.Space.{Space}
use Rattle.walrus_parse_laws.specs.walrus_meaning.walrus_linked.walrus_body_writer.walrus_pairing.walrus_index_maps.Maps.{Ids}
use Rattle.walrus_parse_laws.specs.walrus_meaning.walrus_linked.walrus_module.Parts.{Module, parts}
use Rattle.walrus_parse_laws.specs.walrus_meaning.walrus_linked.walrus_module.declared.module.Module.{Module as Whole}
use Rattle.walrus_parse_laws.specs.walrus_named_bodies.Parsed.{IsReadAs}
use Rattle.walrus_parse_laws.specs.walrus_named_bodies.walrus_file_bodies.walrus_items_into.walrus_tables_into.walrus_sections.walrus_roots.declared.item.Item.{Item}
use Rattle.walrus_pass_laws.specs.Served.{PushesLive}
use Rattle.walrus_pass_laws.specs.walrus_refusals.Sound.{AllReached, IsRefused, IsSound}
use Rattle.walrus_pass_laws.specs.walrus_refusals.Written.{HasNoExact}
use Rattle.walrus_parse_laws.specs.walrus_meaning.walrus_linked.walrus_module_items.declared.function.Function.{Function}
use Rattle.walrus_arena.specs.Arena.{Arena}
use Rattle.walrus_walks.specs.walrus_instr.declared.seq.InstrLocId.{InstrLocId}
use Rattle.walrus_locations.specs.Sent.{FunctionsSent}

-- whatever custom sections push, items and imports name each other and bodies are trees; where it lives, what is reached does, and names
-- none past its own group; and without exact heap types nothing is wrong, and the module is refused for want of memory alone
pub record IsServed (m : Module) (pushed : List Item) : Type 0 where
  pub not_unlinked : IsRefused m pushed refusals.NotLinked → ⊥
  pub not_treeless : IsRefused m pushed refusals.NoTree → ⊥
  pub none_dead : PushesLive m pushed → (space : Space) → IsRefused m pushed (refusals.DeadReference space) → ⊥
  pub sound : PushesLive m pushed → AllReached m pushed (HasNoExact m) → IsSound m pushed
  pub memory_alone : PushesLive m pushed → AllReached m pushed (HasNoExact m) → (fault : ModuleError) → IsRefused m pushed fault → fault ≡ refusals.Memory

abbrev pub ReadModulesAreServed : Type 0 → Type 0
ReadModulesAreServed B = (config : ModuleConfig) (bytes : List ℕ) (m : Whole B) (found : Ids) → All (λ b. b < 256) bytes → IsReadAs config bytes m found → (pushed : List Item) → IsServed (parts m) pushed

-- nor is one that was read and whose locations were sent through a callback
module _ {F : Type 0} (step : F → ℕ → InstrLocId → F → Type 0) where
  abbrev pub SentModulesAreServed : Type 0 → Type 0
  SentModulesAreServed B = (config : ModuleConfig) (bytes : List ℕ) (m : Whole B) (found : Ids) (f g : F) (functions : Arena Function) → All (λ b. b < 256) bytes
      → IsReadAs config bytes m found → FunctionsSent step f m.funcs g functions → (pushed : List Item) → IsServed (parts (record m { funcs = functions })) pushed
