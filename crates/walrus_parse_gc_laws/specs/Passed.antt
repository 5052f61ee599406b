-- No heap type in a module that was read is exact, so that no pass refuses it but for want of memory.
use Rattle.std.specs.Prelude.{All, List, ℕ, ◌<◌, ◌≡◌}
use Rattle.walrus_meaning.specs.walrus_linked.walrus_module.walrus_types.walrus_forms.walrus_arena.Arena.{Arena}
use Rattle.walrus_config.specs.declared.config.ModuleConfig.{ModuleConfig}
use Rattle.walrus_errors.specs.declared.error.ModuleError.TheVariants as refusals
use Rattle.walrus_errors.specs.declared.error.ModuleError.{ModuleError}
use Rattle.walrus_parse_laws.specs.walrus_pairing.walrus_index_maps.Maps.{Ids}
use Rattle.walrus_marks.specs.walrus_instr.declared.seq.InstrLocId.{InstrLocId}
use Rattle.walrus_locations.specs.Sent.{FunctionsSent}
use Rattle.walrus_pass_laws.specs.walrus_references.walrus_module.Parts.{Module, parts}
use Rattle.walrus_pass_laws.specs.walrus_references.walrus_module.declared.module.Module.{Module as Whole}
use Rattle.walrus_parse_laws.specs.walrus_named_bodies.walrus_file_bodies.walrus_items_into.walrus_module_env.walrus_collections.walrus_module_items.declared.function.Function.{Function}
use Rattle.walrus_parse_laws.specs.walrus_named_bodies.Parsed.{IsReadAs}
use Rattle.walrus_pass_laws.specs.Served.{PushesLive}
use Rattle.walrus_pass_laws.specs.walrus_refusals.Sound.{IsRefused, IsSound}
use Rattle.walrus_pass_laws.specs.walrus_refusals.Written.{HasNoExact}
use Rattle.walrus_parse_laws.specs.walrus_named_bodies.walrus_file_bodies.walrus_items_into.walrus_tables_into.walrus_sections.walrus_roots.declared.item.Item.{Item}

-- no heap type in any item is exact
abbrev pub ReadModulesHaveNoExact : Type 0 → Type 0
ReadModulesHaveNoExact B = (config : ModuleConfig) (bytes : List ℕ) (m : Whole B) (found : Ids) → All (λ b. b < 256) bytes → IsReadAs config bytes m found → (x : Item) → HasNoExact (parts m) x

-- whatever custom sections push, items and imports name each other and bodies are trees; where what they push lives, nothing is wrong with what
-- is reached, and the module is refused for want of memory alone
pub record IsPassed (m : Module) (pushed : List Item) : Type 0 where
  pub not_unlinked : IsRefused m pushed refusals.NotLinked → ⊥
  pub not_treeless : IsRefused m pushed refusals.NoTree → ⊥
  pub sound : PushesLive m pushed → IsSound m pushed
  pub memory_alone : PushesLive m pushed → (fault : ModuleError) → IsRefused m pushed fault → fault ≡ refusals.Memory

-- so each module that was read passes
abbrev pub ReadModulesPass : Type 0 → Type 0
ReadModulesPass B = (config : ModuleConfig) (bytes : List ℕ) (m : Whole B) (found : Ids) → All (λ b. b < 256) bytes → IsReadAs config bytes m found → (pushed : List Item) → IsPassed (parts m) pushed

-- and each that was read and whose locations were sent through a callback
module _ {F : Type 0} (step : F → ℕ → InstrLocId → F → Type 0) where
  abbrev pub SentModulesPass : Type 0 → Type 0
  SentModulesPass B = (config : ModuleConfig) (bytes : List ℕ) (m : Whole B) (found : Ids) (f g : F) (functions : Arena Function) → All (λ b. b < 256) bytes
      → IsReadAs config bytes m found → FunctionsSent step f m.funcs g functions → (pushed : List Item) → IsPassed (parts (record m { funcs = functions })) pushed
