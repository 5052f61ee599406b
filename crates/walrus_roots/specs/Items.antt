-- Items of a module, by space and id.
use Rattle.std.specs.Prelude.{◌≡◌, ℕ, List, Contains}
use Rattle.wasm_formats.specs.declared.fault.Space.{Space}
use Rattle.wasm_formats.specs.declared.fault.Space.TheVariants as spaces
use Rattle.walrus_roots.specs.declared.item.Item.{Item}

abbrev pub item : Space → ℕ → Item
item space id = record { space = space; id = id }

-- the number of a space
abbrev pub space_number : Space → ℕ
space_number spaces.Type = 0
space_number spaces.Function = 1
space_number spaces.Table = 2
space_number spaces.Memory = 3
space_number spaces.Tag = 4
space_number spaces.Global = 5
space_number spaces.Element = 6
space_number spaces.Data = 7
space_number spaces.Local = 8
space_number spaces.Label = 9

-- the item is no local: locals are a body's own
abbrev pub IsShared : Item → Type 0
IsShared x = x.space ≡ spaces.Local → ⊥

-- none of what custom sections push is a local
abbrev pub PushesShared : List Item → Type 0
PushesShared pushed = (x : Item) → Contains pushed x → IsShared x
