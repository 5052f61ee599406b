-- Imports, as they were read and in a module.
use Rattle.std.specs.Prelude.{ℕ, ◌≡◌, Some, string_bytes}
use Rattle.wasm_formats.specs.declared.fault.Space.{Space}
use Rattle.wasm_formats.specs.declared.fault.Space.TheVariants as spaces
use Rattle.wasm_operators.specs.Items.{Functions, Tables, Memories, Globals, Tags}
use Rattle.walrus_pairing.specs.Looks.{Look}
use Rattle.walrus_collections.specs.walrus_module_items.declared.import.Import.{Import}
use Rattle.walrus_collections.specs.walrus_module_items.declared.import.ImportKind.{ImportKind}
use Rattle.walrus_collections.specs.walrus_module_items.declared.import.ImportKind.TheVariants as kinds
use Rattle.walrus_known_sections.specs.declared.items.Import.{Import as ReadImport}

-- the item of a space that a number names
abbrev pub KindBecomes : Look → Space → ℕ → ImportKind → Type 0
KindBecomes look spaces.Function n (kinds.Function id) = look Functions n ≡ Some id
KindBecomes look spaces.Table n (kinds.Table id) = look Tables n ≡ Some id
KindBecomes look spaces.Memory n (kinds.Memory id) = look Memories n ≡ Some id
KindBecomes look spaces.Global n (kinds.Global id) = look Globals n ≡ Some id
KindBecomes look spaces.Tag n (kinds.Tag id) = look Tags n ≡ Some id
KindBecomes look _ n _ = ⊥

-- the same names; its id is its slot
pub record IsImportOf (look : Look) (slot : ℕ) (read : ReadImport) (i : Import) : Type 0 where
  pub id : i.id ≡ slot
  pub space_name : string_bytes i.«module» ≡ read.«module».now
  pub name : string_bytes i.name ≡ read.name.now
  pub kind : KindBecomes look read.space read.index i.kind
