-- Nothing of what was read of a file lacks anything.
use Rattle.std.specs.Prelude.{ℕ, ◌<◌, ◌≡◌, List, length, All}
use Rattle.std.specs.List.{Any}
use Rattle.walrus_tables_into.specs.walrus_sections_into.walrus_collections.walrus_local_function.walrus_body_locals.walrus_body_nesting.wasm_formats.wasm_features.declared.WasmFeatures.{WasmFeatures}
use Rattle.walrus_tables_into.specs.walrus_sections_into.walrus_collections.walrus_local_function.walrus_body_locals.wasm_grammar.Modules.{Module}
use Rattle.walrus_tables_into.specs.walrus_sections_into.walrus_collections.walrus_local_function.walrus_body_locals.wasm_grammar.States.{types_of}
use Rattle.walrus_tables_into.specs.walrus_sections_into.walrus_known_sections.wasm_sections.Laws.{ReadsSections}
use Rattle.walrus_tables_into.specs.Elements.{ElementLacks}
use Rattle.walrus_tables_into.specs.Globals.{GlobalLacks}
use Rattle.walrus_tables_into.specs.Tables.{TableLacks}
use Rattle.walrus_tables_into.specs.walrus_sections_into.Becomes.{look_of}
use Rattle.walrus_tables_into.specs.walrus_sections_into.Lacks.{DataLacks, ExportLacks, ImportLacks, StartLacks, TagLacks}
use Rattle.walrus_tables_into.specs.walrus_sections_into.walrus_index_maps.Maps.{Ids}
use Rattle.walrus_tables_into.specs.walrus_sections_into.walrus_known_sections.State.{state_of}
use Rattle.walrus_tables_into.specs.walrus_sections_into.walrus_known_sections.declared.sections.Sections.{Sections}
use Rattle.walrus_tables_into.specs.walrus_sections_into.walrus_pairing.Looks.{Look}

-- as many ids as there are items, in each space whose items others name
pub record AreNumbered (ids : Ids) (m : Module) : Type 0 where
  pub types : length ids.types ≡ length (types_of m)
  pub functions : length ids.functions ≡ length m.functions
  pub tables : length ids.tables ≡ length m.tables
  pub memories : length ids.memories ≡ length m.memories
  pub tags : length ids.tags ≡ length m.tags
  pub globals : length ids.globals ≡ length m.globals

-- no item lacks what becoming one of a module asks of it
pub record LackNothing (look : Look) (s : Sections) : Type 0 where
  pub imports : Any (ImportLacks look) s.imports.items → ⊥
  pub tables : Any (TableLacks look) s.tables.items → ⊥
  pub tags : Any (TagLacks look) s.tags.items → ⊥
  pub globals : Any (GlobalLacks look) s.globals.items → ⊥
  pub exports : Any (ExportLacks look) s.exports.items → ⊥
  pub start : StartLacks look s.start → ⊥
  pub elements : Any (ElementLacks look) s.elements.items → ⊥
  pub segments : Any (DataLacks look) s.segments.items → ⊥

-- so it is of what was read of bytes, where all of it is numbered
abbrev pub ReadSectionsLackNothing : Type 0
ReadSectionsLackNothing = (features : WasmFeatures) (bytes : List ℕ) (s : Sections) (ids : Ids) → All (λ b. b < 256) bytes → ReadsSections features bytes (state_of s)
    → AreNumbered ids (state_of s).filled → LackNothing (look_of ids) s
