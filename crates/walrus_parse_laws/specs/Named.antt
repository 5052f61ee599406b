-- What items name in a module that was read lives: the clause of linked modules on names, types and bodies aside.
use Rattle.std.specs.Prelude.{ℕ, ◌≡◌, ◌<◌, List, All, Contains, Some}
use Rattle.walrus_named_bodies.specs.walrus_file_bodies.walrus_items_into.walrus_module_bodies.walrus_body_trees.walrus_meaning.walrus_local_function.walrus_body_locals.walrus_body_nesting.wasm_formats.declared.fault.Space.{Space}
use Rattle.walrus_named_bodies.specs.walrus_file_bodies.walrus_items_into.walrus_module_bodies.walrus_body_trees.walrus_meaning.walrus_local_function.walrus_body_locals.walrus_body_nesting.wasm_formats.declared.fault.Space.TheVariants as spaces
use Rattle.walrus_arena.specs.Arena.{item_at}
use Rattle.walrus_config.specs.declared.config.ModuleConfig.{ModuleConfig}
use Rattle.walrus_named_bodies.specs.walrus_file_bodies.walrus_items_into.walrus_module_bodies.walrus_body_trees.walrus_meaning.walrus_body_writer.walrus_pairing.walrus_index_maps.Maps.{Ids}
use Rattle.walrus_named_bodies.specs.walrus_file_bodies.walrus_items_into.walrus_module_bodies.walrus_body_trees.walrus_meaning.walrus_linked.Names.{names}
use Rattle.walrus_named_bodies.specs.walrus_item_names.walrus_module.Items.{Lives}
use Rattle.walrus_named_bodies.specs.walrus_item_names.walrus_module.Parts.{Module, parts}
use Rattle.walrus_named_bodies.specs.walrus_item_names.walrus_module.declared.module.Module.{Module as Whole}
use Rattle.walrus_named_bodies.specs.walrus_item_names.walrus_module.walrus_module_items.Functions.{type_of}
use Rattle.walrus_named_bodies.specs.walrus_item_names.walrus_module.walrus_module_items.declared.function.Function.{Function}
use Rattle.walrus_named_bodies.specs.Parsed.{IsReadAs}
use Rattle.walrus_named_bodies.specs.walrus_file_bodies.walrus_items_into.walrus_tables_into.walrus_sections.walrus_roots.Items.{item}
use Rattle.walrus_named_bodies.specs.walrus_file_bodies.walrus_items_into.walrus_tables_into.walrus_sections.walrus_roots.declared.item.Item.{Item}

-- the items of the space are no types, and have no bodies
abbrev pub HasNoBodies : Space → Type 0
HasNoBodies spaces.«Type» = ⊥
HasNoBodies spaces.Function = ⊥
HasNoBodies _ = Unit {0}

-- what such items name lives, and the types of functions do
pub record NamesLive (m : Module) : Type 0 where
  pub named : (x y : Item) → HasNoBodies x.space → Contains (names m x) y → Lives m y
  pub typed : (f : ℕ) (function : Function) → item_at m.funcs f ≡ Some function → Lives m (item spaces.«Type» (type_of function.kind))

abbrev pub NamesOfReadItemsLive : Type 0 → Type 0
NamesOfReadItemsLive B = (config : ModuleConfig) (bytes : List ℕ) (m : Whole B) (found : Ids) → All (λ b. b < 256) bytes → IsReadAs config bytes m found → NamesLive (parts m)
