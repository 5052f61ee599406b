-- Exports and the start function, as they were read and in a module.
use Rattle.std.specs.Prelude.{ℕ, ◌≡◌, Option, Some, None, string_bytes}
use Rattle.wasm_formats.specs.declared.fault.Space.{Space}
use Rattle.wasm_formats.specs.declared.fault.Space.TheVariants as spaces
use Rattle.wasm_operators.specs.Items.{Functions, Tables, Memories, Globals, Tags}
use Rattle.walrus_pairing.specs.Looks.{Look}
use Rattle.walrus_collections.specs.walrus_module_items.declared.export.Export.{Export}
use Rattle.walrus_collections.specs.walrus_module_items.declared.export.ExportItem.{ExportItem}
use Rattle.walrus_collections.specs.walrus_module_items.declared.export.ExportItem.TheVariants as items
use Rattle.walrus_known_sections.specs.declared.items.Export.{Export as ReadExport}

-- the item of a space that a number names
abbrev pub ItemBecomes : Look → Space → ℕ → ExportItem → Type 0
ItemBecomes look spaces.Function n (items.Function id) = look Functions n ≡ Some id
ItemBecomes look spaces.Table n (items.Table id) = look Tables n ≡ Some id
ItemBecomes look spaces.Memory n (items.Memory id) = look Memories n ≡ Some id
ItemBecomes look spaces.Global n (items.Global id) = look Globals n ≡ Some id
ItemBecomes look spaces.Tag n (items.Tag id) = look Tags n ≡ Some id
ItemBecomes look _ n _ = ⊥

-- the same name; its id is its slot
pub record IsExportOf (look : Look) (slot : ℕ) (read : ReadExport) (e : Export) : Type 0 where
  pub id : e.id ≡ slot
  pub name : string_bytes e.name ≡ read.name.now
  pub item : ItemBecomes look read.space read.index e.item

abbrev pub StartBecomes : Look → Option ℕ → Option ℕ → Type 0
StartBecomes look None None = Unit {0}
StartBecomes look (Some n) (Some id) = look Functions n ≡ Some id
StartBecomes look _ _ = ⊥
