-- That each item of a module has the id by which it is found, where the module was read, or is what is kept of such a one.
use Rattle.std.specs.Prelude.{ℕ, List}
use Rattle.walrus_config.specs.declared.config.ModuleConfig.{ModuleConfig}
use Rattle.walrus_linked.specs.OwnIds.{HaveOwnIds}
use Rattle.walrus_module.specs.Parts.{parts, Module as Parts}
use Rattle.walrus_module.specs.declared.module.Module.{Module}
use Rattle.walrus_module_items.specs.declared.function.Function.{Function}
use Rattle.walrus_named_bodies.specs.Parsed.{IsRead}
use Rattle.walrus_passes.specs.Part.{IsKeptPart}
use Rattle.walrus_roots.specs.declared.item.Item.{Item}
use Rattle.walrus_plan_laws.specs.Emissions.{ItemsHaveOwnIds}

abbrev pub ReadItemsHaveOwnIds : Type 0 → Type 0
ReadItemsHaveOwnIds B = (config : ModuleConfig) (bytes : List ℕ) (m : Module B) → IsRead config bytes m → ItemsHaveOwnIds (parts m)

abbrev pub KeptItemsHaveOwnIds : Type 0
KeptItemsHaveOwnIds = (m : Parts) (pushed : List Item) (n : Parts) → IsKeptPart m pushed n → ItemsHaveOwnIds m → ItemsHaveOwnIds n

-- ---- functions

abbrev pub FunctionsHaveOwnIds : Parts → Type 0
FunctionsHaveOwnIds m = HaveOwnIds (λ (f : Function). f.id) m.funcs

abbrev pub ReadFunctionsHaveOwnIds : Type 0 → Type 0
ReadFunctionsHaveOwnIds B = (config : ModuleConfig) (bytes : List ℕ) (m : Module B) → IsRead config bytes m → FunctionsHaveOwnIds (parts m)

abbrev pub KeptFunctionsHaveOwnIds : Type 0
KeptFunctionsHaveOwnIds = (m : Parts) (pushed : List Item) (n : Parts) → IsKeptPart m pushed n → FunctionsHaveOwnIds m → FunctionsHaveOwnIds n
