-- The items of a module that was read: those of the file's module.
use Rattle.std.specs.Prelude.{ℕ, ◌≡◌, ◌<◌, List, All, map, Option, Some, None}
use Rattle.std.specs.Option.{option_map}
use Rattle.walrus_named_bodies.specs.walrus_file_bodies.walrus_items_into.walrus_module_bodies.walrus_body_trees.walrus_meaning.walrus_local_function.walrus_body_locals.wasm_grammar.Modules as grammar
use Rattle.walrus_named_bodies.specs.walrus_file_bodies.walrus_items_into.wasm_module_rules.wasm_modules.Modules.{Reads, module_of}
use Rattle.walrus_config.specs.declared.config.ModuleConfig.{ModuleConfig}
use Rattle.walrus_named_bodies.specs.walrus_file_bodies.walrus_items_into.walrus_module_bodies.walrus_body_trees.walrus_meaning.walrus_body_writer.walrus_pairing.walrus_index_maps.Maps.{Ids}
use Rattle.walrus_parse_laws.specs.Meaning.{type_id}
use Rattle.walrus_parse_laws.specs.Renamed.{each, retyped_table, retyped_tag, retyped_global, retyped_element, retyped_segment}
use Rattle.walrus_named_bodies.specs.walrus_file_bodies.walrus_items_into.walrus_tables_into.walrus_sections_into.walrus_known_sections.State.{state_of}
use Rattle.walrus_named_bodies.specs.walrus_file_bodies.walrus_items_into.walrus_module_bodies.walrus_body_trees.walrus_meaning.Meaning.{means}
use Rattle.walrus_named_bodies.specs.walrus_item_names.walrus_module.Parts.{parts}
use Rattle.walrus_named_bodies.specs.walrus_item_names.walrus_module.declared.module.Module.{Module as Whole}
use Rattle.walrus_named_bodies.specs.Parsed.{IsReadAs, read_features}
use Rattle.walrus_named_bodies.specs.walrus_file_bodies.walrus_items_into.walrus_tables_into.walrus_sections_into.Becomes.{look_of}

-- the import that brings a function, if one does
abbrev pub brought_by : grammar.Origin grammar.Body → Option ℕ
brought_by (grammar.Imported n) = Some n
brought_by (grammar.Own body) = None

-- what a function is without its body: its type, and that import
abbrev pub head_of : (ℕ → ℕ) → grammar.Function → ℕ × Option ℕ
head_of r f = (r f.ty, brought_by f.origin)

abbrev pub heads : (ℕ → ℕ) → List (Option grammar.Function) → List (Option (ℕ × Option ℕ))
heads r = map (option_map (head_of r))

-- each number is its own
abbrev pub same : ℕ → ℕ
same n = n

-- the items of a module are those of a file, at the same places, with other numbers of types; bodies, groups of types and custom sections
-- aside
pub record HasItems (r : ℕ → ℕ) (file m : grammar.Module) : Type 0 where
  pub imports : m.imports ≡ file.imports
  pub functions : heads same m.functions ≡ heads r file.functions
  pub tables : m.tables ≡ each (retyped_table r) file.tables
  pub memories : m.memories ≡ file.memories
  pub tags : m.tags ≡ each (retyped_tag r) file.tags
  pub globals : m.globals ≡ each (retyped_global r) file.globals
  pub exports : m.exports ≡ file.exports
  pub start : m.start ≡ file.start
  pub elements : m.elements ≡ each (retyped_element r) file.elements
  pub segments : m.segments ≡ each (retyped_segment r) file.segments

-- the module of the bytes, as it was read
abbrev pub file_of : {B : Type 0} (config : ModuleConfig) (bytes : List ℕ) (m : Whole B) (found : Ids) → IsReadAs config bytes m found → grammar.Module
file_of config bytes m found is = module_of (state_of is.1.sections) is.1.bodies

-- so it is where a module was read from bytes, which read as that of the file: each number of a type has the id that its index is found to
-- have
abbrev pub ReadModulesHaveItems : Type 0 → Type 0
ReadModulesHaveItems B = (config : ModuleConfig) (bytes : List ℕ) (m : Whole B) (found : Ids) → All (λ b. b < 256) bytes → (is : IsReadAs config bytes m found)
    → Reads (read_features config) bytes (file_of config bytes m found is) × HasItems (type_id (look_of found)) (file_of config bytes m found is) (means (parts m))
