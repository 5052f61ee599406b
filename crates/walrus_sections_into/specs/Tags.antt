-- Tags, as they were read and in a module.
use Rattle.std.specs.Prelude.{ℕ, ◌≡◌, Some, None}
use Rattle.wasm_operators.specs.Items.{Types}
use Rattle.walrus_pairing.specs.Looks.{Look}
use Rattle.walrus_collections.specs.walrus_module_items.Imported.{tag_import}
use Rattle.walrus_collections.specs.walrus_module_items.declared.tag.Tag.{Tag}
use Rattle.walrus_known_sections.specs.declared.items.Tag.{Tag as ReadTag}

-- of the type that is named, brought by the same import; its id is its slot
pub record IsTagOf (look : Look) (slot : ℕ) (read : ReadTag) (t : Tag) : Type 0 where
  pub id : t.id ≡ slot
  pub ty : look Types read.ty ≡ Some t.ty
  pub import : tag_import t.kind ≡ read.import
  pub no_name : t.name ≡ None
