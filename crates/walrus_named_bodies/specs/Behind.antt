-- The bodies of a file are read into a module that its sections fill, and behind them its items are named.
use Rattle.std.specs.Prelude.{◌≡◌, Bool}
use Rattle.walrus_payload_readers.specs.wasm_name_payloads.Names.{names_of}
use Rattle.walrus_item_names.specs.Gives.{GivesNames}
use Rattle.walrus_item_names.specs.Holder.{Holder}
use Rattle.walrus_item_names.specs.walrus_module.walrus_body_writer.walrus_pairing.wasm_operators.wasm_features.declared.WasmFeatures.{WasmFeatures}
use Rattle.walrus_item_names.specs.walrus_module.walrus_body_writer.walrus_pairing.walrus_index_maps.Maps.{Ids}
use Rattle.walrus_item_names.specs.walrus_module.walrus_local_function.walrus_body_locals.wasm_grammar.Modules.{Module}
use Rattle.walrus_file_bodies.specs.Ready.{IsFileOf, bodies_in}
use Rattle.walrus_file_bodies.specs.walrus_items_into.walrus_payloads_into.Customs.{AreCustoms}
use Rattle.walrus_file_bodies.specs.walrus_items_into.walrus_payloads_into.Numbered.{IsNumbered}
use Rattle.walrus_file_bodies.specs.walrus_items_into.walrus_tables_into.walrus_sections_into.walrus_known_sections.declared.sections.Sections.{Sections}
use Rattle.walrus_file_bodies.specs.walrus_module_bodies.Steps.{State, Steps, state}
use Rattle.walrus_file_bodies.specs.walrus_module_bodies.declared.file.FileEnv.{FileEnv}
use Rattle.walrus_named_bodies.specs.Named.{all_names}

-- the module with these types, functions and locals
abbrev pub bodied_as : Holder → State → Holder
bodied_as m s = record m { types = s.types; funcs = s.functions; locals = s.locals }

-- the bodies are read into it, in the file's order; then items are named; what has an index has this id
pub record AreNamed (features : WasmFeatures) (synthetic : Bool) (s : Sections) (ids : Ids) (m : Holder) (found : Ids) (named : Holder) : Type 0 where
  pub file : FileEnv
  pub is_file : IsFileOf s m.types m.tags m.memories file
  pub bodied : State
  pub bodies_are : Steps file features (bodies_in s m.funcs) (state m.types m.locals ids m.funcs) bodied
  pub found_are : found ≡ bodied.ids
  pub names : (f : Module) → IsNumbered f bodied.ids → AreCustoms f s.customs.items
      → GivesNames (all_names synthetic bodied.ids (bodied_as m bodied) (names_of f)) (bodied_as m bodied) named
