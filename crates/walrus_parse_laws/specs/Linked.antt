-- A module that was read is linked.
use Rattle.std.specs.Prelude.{ℕ, ◌≡◌, ◌<◌, List, All, Contains, Some, length}
use Rattle.walrus_arena.specs.Arena.{item_at}
use Rattle.walrus_body_laws.specs.walrus_marks.Named.{items_of}
use Rattle.walrus_body_laws.specs.walrus_marks.walrus_walks.Walk.{body_walk}
use Rattle.walrus_named_bodies.specs.walrus_file_bodies.walrus_items_into.walrus_module_bodies.walrus_body_trees.walrus_meaning.walrus_linked.walrus_local_function.declared.local_function.LocalFunction.{LocalFunction}
use Rattle.walrus_named_bodies.specs.walrus_file_bodies.walrus_items_into.walrus_module_bodies.walrus_body_trees.walrus_meaning.walrus_linked.walrus_module.walrus_builder.Functions.{seqs_of}
use Rattle.walrus_named_bodies.specs.walrus_file_bodies.walrus_items_into.walrus_module_bodies.walrus_body_trees.walrus_meaning.walrus_linked.walrus_module_items.declared.function.Function.{Function}
use Rattle.walrus_named_bodies.specs.walrus_file_bodies.walrus_items_into.walrus_module_bodies.walrus_body_trees.walrus_meaning.walrus_linked.walrus_module_items.declared.function.FunctionKind.TheVariants as kinds
use Rattle.walrus_named_bodies.specs.walrus_file_bodies.walrus_items_into.walrus_module_env.walrus_handler_types.walrus_body_steps.walrus_body_nesting.wasm_formats.declared.fault.Space.TheVariants as spaces
use Rattle.walrus_named_bodies.specs.walrus_file_bodies.walrus_items_into.walrus_tables_into.walrus_sections.walrus_roots.Items.{item}
use Rattle.walrus_config.specs.declared.config.ModuleConfig.{ModuleConfig}
use Rattle.walrus_named_bodies.specs.walrus_file_bodies.walrus_items_into.walrus_module_bodies.walrus_body_trees.walrus_meaning.walrus_linked.walrus_body_writer.walrus_pairing.walrus_index_maps.Maps.{Ids}
use Rattle.walrus_named_bodies.specs.walrus_file_bodies.walrus_items_into.walrus_module_bodies.walrus_body_trees.walrus_meaning.walrus_linked.Linked.{IsLinked}
use Rattle.walrus_named_bodies.specs.walrus_file_bodies.walrus_items_into.walrus_module_bodies.walrus_body_trees.walrus_meaning.walrus_linked.walrus_module.Parts.{parts}
use Rattle.walrus_named_bodies.specs.walrus_file_bodies.walrus_items_into.walrus_module_bodies.walrus_body_trees.walrus_meaning.walrus_linked.walrus_module.declared.module.Module.{Module as Whole}
use Rattle.walrus_named_bodies.specs.Parsed.{IsReadAs}

-- each import names a live item that names it back, and each imported item a live import; functions are imported or whole; and what is
-- named lives: by an item or its body, by a type with its explicit group, by an export, or as the start function
abbrev pub ReadModulesAreLinked : Type 0 → Type 0
ReadModulesAreLinked B = (config : ModuleConfig) (bytes : List ℕ) (m : Whole B) (found : Ids) → All (λ b. b < 256) bytes → IsReadAs config bytes m found → IsLinked (parts m)

-- the locals that the walk of a body names are locals of the module
abbrev pub WalksOfReadBodiesNameLocals : Type 0 → Type 0
WalksOfReadBodiesNameLocals B = (config : ModuleConfig) (bytes : List ℕ) (m : Whole B) (found : Ids) → All (λ b. b < 256) bytes → IsReadAs config bytes m found
    → (f : ℕ) (function : Function) (local : LocalFunction) → item_at m.funcs f ≡ Some function → function.kind ≡ kinds.Local local
    → (id : ℕ) → Contains (items_of (body_walk (seqs_of local.builder) 0)) (item spaces.Local id) → id < length m.locals
