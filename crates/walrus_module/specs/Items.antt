-- The items of a module, by space and id: which of them live, and which an import brings and an export gives out.
use Rattle.std.specs.Prelude.{ℕ, ◌<◌, length, Option, Some, None, IsSome, if◌then◌else◌}
use Rattle.wasm_formats.specs.declared.fault.Space.{Space}
use Rattle.wasm_formats.specs.declared.fault.Space.TheVariants as spaces
use Rattle.walrus_arena.specs.Arena.{IsLive}
use Rattle.walrus_items.specs.Items.{Item as TypeItem}
use Rattle.walrus_types.specs.Table.{Table as TypeTable, type_at}
use Rattle.walrus_collections.specs.walrus_module_items.declared.import.ImportKind.{ImportKind}
use Rattle.walrus_collections.specs.walrus_module_items.declared.import.ImportKind.TheVariants as kinds
use Rattle.walrus_collections.specs.walrus_module_items.declared.export.ExportItem.{ExportItem}
use Rattle.walrus_collections.specs.walrus_module_items.declared.export.ExportItem.TheVariants as exported
use Rattle.walrus_module.specs.Parts.{Module}
use Rattle.walrus_sections.specs.walrus_roots.declared.item.Item.{Item}
use Rattle.walrus_sections.specs.walrus_roots.Items.{item}

-- a type that is no entry type: entry types stand for bodies' own blocks and are no items
abbrev pub written : Option TypeItem → Option TypeItem
written (Some ty) = if ty.kind.entry then None else Some ty
written None = None

abbrev pub written_type : TypeTable → ℕ → Option TypeItem
written_type t id = written (type_at t id)

-- in each space, which ids have a live item: types but entry types, and every known local
abbrev pub LivesIn : Module → Space → ℕ → Type 0
LivesIn m spaces.Type id = IsSome (written_type m.types id)
LivesIn m spaces.Function id = IsLive m.funcs id
LivesIn m spaces.Table id = IsLive m.tables id
LivesIn m spaces.Memory id = IsLive m.memories id
LivesIn m spaces.Tag id = IsLive m.tags id
LivesIn m spaces.Global id = IsLive m.globals id
LivesIn m spaces.Element id = IsLive m.elements id
LivesIn m spaces.Data id = IsLive m.data_segments id
LivesIn m spaces.Local id = id < length m.locals
LivesIn m spaces.Label id = ⊥

-- the item lives
abbrev pub Lives : Module → Item → Type 0
Lives m x = LivesIn m x.space x.id

-- the item that an import brings, and that an export gives out
abbrev pub brought : ImportKind → Item
brought (kinds.Function id) = item spaces.Function id
brought (kinds.Table id) = item spaces.Table id
brought (kinds.Memory id) = item spaces.Memory id
brought (kinds.Global id) = item spaces.Global id
brought (kinds.Tag id) = item spaces.Tag id

abbrev pub given_out : ExportItem → Item
given_out (exported.Function id) = item spaces.Function id
given_out (exported.Table id) = item spaces.Table id
given_out (exported.Memory id) = item spaces.Memory id
given_out (exported.Global id) = item spaces.Global id
given_out (exported.Tag id) = item spaces.Tag id
