-- What an index names in a module that was read: an item that lives.
use Rattle.std.specs.Prelude.{ℕ, ◌≡◌, ◌<◌, List, All, Some}
use Rattle.walrus_named_bodies.specs.walrus_file_bodies.walrus_items_into.walrus_module_env.walrus_handler_types.walrus_body_steps.wasm_body_grammar.wasm_operators.Items.{Space}
use Rattle.walrus_config.specs.declared.config.ModuleConfig.{ModuleConfig}
use Rattle.walrus_named_bodies.specs.walrus_file_bodies.walrus_items_into.walrus_module_bodies.walrus_body_trees.walrus_meaning.walrus_linked.walrus_body_writer.walrus_pairing.walrus_index_maps.Maps.{Ids}
use Rattle.walrus_named_bodies.specs.walrus_file_bodies.walrus_items_into.walrus_module_bodies.walrus_body_trees.walrus_meaning.walrus_linked.walrus_module.Parts.{parts}
use Rattle.walrus_named_bodies.specs.walrus_file_bodies.walrus_items_into.walrus_module_bodies.walrus_body_trees.walrus_meaning.walrus_linked.walrus_module.declared.module.Module.{Module as Whole}
use Rattle.walrus_named_bodies.specs.walrus_file_bodies.walrus_items_into.walrus_module_bodies.walrus_body_trees.walrus_meaning.walrus_linked.walrus_body_writer.walrus_pairing.Looks.{id_of}
use Rattle.walrus_named_bodies.specs.Parsed.{IsReadAs}
use Rattle.walrus_parse_laws.specs.Uses.{IsThere}

-- the item of the id that an index has lives; locals and labels are a body's own
abbrev pub IndicesOfReadModulesLive : Type 0 → Type 0
IndicesOfReadModulesLive B = (config : ModuleConfig) (bytes : List ℕ) (m : Whole B) (found : Ids) → All (λ b. b < 256) bytes → IsReadAs config bytes m found
    → (function : ℕ) (space : Space) (n id : ℕ) → id_of found function space n ≡ Some id → IsThere (parts m) space id
