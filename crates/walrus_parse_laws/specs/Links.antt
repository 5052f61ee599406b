-- What names one another in a module that was read: the clauses of linked modules that don't look into items.
use Rattle.std.specs.Prelude.{ℕ, ◌≡◌, ◌<◌, List, All, Some}
use Rattle.walrus_named_bodies.specs.walrus_file_bodies.walrus_items_into.walrus_module_bodies.walrus_body_trees.walrus_meaning.walrus_local_function.walrus_body_locals.walrus_body_nesting.wasm_formats.declared.fault.Space.TheVariants as spaces
use Rattle.walrus_arena.specs.Arena.{item_at}
use Rattle.walrus_config.specs.declared.config.ModuleConfig.{ModuleConfig}
use Rattle.walrus_named_bodies.specs.walrus_file_bodies.walrus_items_into.walrus_module_bodies.walrus_body_trees.walrus_meaning.walrus_body_writer.walrus_pairing.walrus_index_maps.Maps.{Ids}
use Rattle.walrus_named_bodies.specs.walrus_file_bodies.walrus_items_into.walrus_module_bodies.walrus_body_trees.walrus_meaning.walrus_linked.Linked.{import_of}
use Rattle.walrus_named_bodies.specs.walrus_file_bodies.walrus_items_into.walrus_module_bodies.walrus_body_trees.walrus_meaning.walrus_module.Items.{Lives, brought, given_out}
use Rattle.walrus_named_bodies.specs.walrus_file_bodies.walrus_items_into.walrus_module_bodies.walrus_body_trees.walrus_meaning.walrus_module.Parts.{Module, parts}
use Rattle.walrus_named_bodies.specs.walrus_file_bodies.walrus_items_into.walrus_module_bodies.walrus_body_trees.walrus_meaning.walrus_module.declared.module.Module.{Module as Whole}
use Rattle.walrus_named_bodies.specs.walrus_file_bodies.walrus_items_into.walrus_module_bodies.walrus_body_trees.walrus_meaning.walrus_linked.walrus_module_items.declared.export.Export.{Export}
use Rattle.walrus_named_bodies.specs.walrus_file_bodies.walrus_items_into.walrus_module_bodies.walrus_body_trees.walrus_meaning.walrus_linked.walrus_module_items.declared.import.Import.{Import}
use Rattle.walrus_named_bodies.specs.Parsed.{IsReadAs}
use Rattle.walrus_named_bodies.specs.walrus_file_bodies.walrus_items_into.walrus_tables_into.walrus_sections.walrus_roots.Items.{item}
use Rattle.walrus_named_bodies.specs.walrus_file_bodies.walrus_items_into.walrus_tables_into.walrus_sections.walrus_roots.declared.item.Item.{Item}

-- each import names a live item that names it back, and each imported item a live import that names it; what is exported or started lives
pub record HasLinks (m : Module) : Type 0 where
  pub imports : (i : ℕ) (import : Import) → item_at m.imports i ≡ Some import → import_of m (brought import.kind) ≡ Some i
  pub imported : (x : Item) (i : ℕ) → import_of m x ≡ Some i → (import : Import) × (item_at m.imports i ≡ Some import) × (brought import.kind ≡ x)
  pub exported : (e : ℕ) (export : Export) → item_at m.exports e ≡ Some export → Lives m (given_out export.item)
  pub started : (f : ℕ) → m.start ≡ Some f → Lives m (item spaces.Function f)

abbrev pub ReadModulesHaveLinks : Type 0 → Type 0
ReadModulesHaveLinks B = (config : ModuleConfig) (bytes : List ℕ) (m : Whole B) (found : Ids) → All (λ b. b < 256) bytes → IsReadAs config bytes m found → HasLinks (parts m)
