-- What the types of a file name in the module that was read: types that live.
use Rattle.std.specs.Prelude.{ℕ, ◌<◌, List, All, Contains, length, slice_get}
use Rattle.std.specs.Option.{unwrap_or}
use Rattle.walrus_named_bodies.specs.walrus_file_bodies.walrus_items_into.walrus_module_env.walrus_handler_types.walrus_body_steps.walrus_body_nesting.wasm_formats.declared.fault.Space.TheVariants as spaces
use Rattle.walrus_config.specs.declared.config.ModuleConfig.{ModuleConfig}
use Rattle.walrus_named_bodies.specs.walrus_file_bodies.walrus_items_into.walrus_module_bodies.walrus_body_trees.walrus_meaning.walrus_linked.walrus_body_writer.walrus_pairing.walrus_index_maps.Maps.{Ids}
use Rattle.walrus_named_bodies.specs.walrus_file_bodies.walrus_items_into.walrus_module_bodies.walrus_body_trees.walrus_meaning.walrus_linked.Names.{names}
use Rattle.walrus_named_bodies.specs.walrus_file_bodies.walrus_items_into.walrus_module_bodies.walrus_body_trees.walrus_meaning.walrus_linked.walrus_module.Items.{Lives}
use Rattle.walrus_named_bodies.specs.walrus_file_bodies.walrus_items_into.walrus_module_bodies.walrus_body_trees.walrus_meaning.walrus_linked.walrus_module.Parts.{Module, parts}
use Rattle.walrus_named_bodies.specs.walrus_file_bodies.walrus_items_into.walrus_module_bodies.walrus_body_trees.walrus_meaning.walrus_linked.walrus_module.declared.module.Module.{Module as Whole}
use Rattle.walrus_named_bodies.specs.Parsed.{IsReadAs}
use Rattle.walrus_named_bodies.specs.walrus_file_bodies.walrus_items_into.walrus_tables_into.walrus_sections.walrus_roots.Items.{item}
use Rattle.walrus_named_bodies.specs.walrus_file_bodies.walrus_items_into.walrus_tables_into.walrus_sections.walrus_roots.declared.item.Item.{Item}

-- what the type of each index names lives
abbrev pub TypesNameLiving : Module → Ids → Type 0
TypesNameLiving m found = (n : ℕ) (y : Item) → n < length found.types → Contains (names m (item spaces.«Type» (unwrap_or (slice_get found.types n) n))) y → Lives m y

abbrev pub NamesOfReadTypesLive : Type 0 → Type 0
NamesOfReadTypesLive B = (config : ModuleConfig) (bytes : List ℕ) (m : Whole B) (found : Ids) → All (λ b. b < 256) bytes → IsReadAs config bytes m found → TypesNameLiving (parts m) found
