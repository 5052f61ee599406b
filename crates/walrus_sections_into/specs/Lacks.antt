-- What there isn't where something that was read doesn't become an item.
use Rattle.std.specs.Prelude.{ℕ, ◌≡◌, ◌≤◌, ◌^◌, ◌⊎◌, Option, Some, None}
use Rattle.std.specs.List.{Any}
use Rattle.wasm_formats.specs.declared.fault.Space.{Space}
use Rattle.wasm_formats.specs.declared.fault.Space.TheVariants as spaces
use Rattle.wasm_operators.specs.Items.{Types, Functions, Tables, Memories, Globals, Tags}
use Rattle.walrus_pairing.specs.Looks.{Look}
use Rattle.walrus_known_sections.specs.declared.items.Data.{Data}
use Rattle.walrus_known_sections.specs.declared.items.Export.{Export}
use Rattle.walrus_known_sections.specs.declared.items.Import.{Import}
use Rattle.walrus_known_sections.specs.declared.items.Mode.{Mode}
use Rattle.walrus_known_sections.specs.declared.items.Mode.TheVariants as modes
use Rattle.walrus_known_sections.specs.declared.items.Tag.{Tag}
use Rattle.walrus_sections_into.specs.Consts.{OpLacks}

-- no item of the space has this number; items of other spaces are neither imported nor exported
abbrev pub ItemLacks : Look → Space → ℕ → Type 0
ItemLacks look spaces.Function n = look Functions n ≡ None
ItemLacks look spaces.Table n = look Tables n ≡ None
ItemLacks look spaces.Memory n = look Memories n ≡ None
ItemLacks look spaces.Global n = look Globals n ≡ None
ItemLacks look spaces.Tag n = look Tags n ≡ None
ItemLacks look _ n = Unit {0}

-- a number past 32 bits names no item
abbrev pub ImportLacks : Look → Import → Type 0
ImportLacks look read = (2 ^ 32 ≤ read.index) ⊎ ItemLacks look read.space read.index

abbrev pub ExportLacks : Look → Export → Type 0
ExportLacks look read = ItemLacks look read.space read.index

abbrev pub StartLacks : Look → Option ℕ → Type 0
StartLacks look None = ⊥
StartLacks look (Some n) = look Functions n ≡ None

-- there is no such type
abbrev pub TagLacks : Look → Tag → Type 0
TagLacks look read = look Types read.ty ≡ None

-- it names no memory, or an operator of its offset names nothing, or isn't constant; no data segment is declared
abbrev pub PlaceLacks : Look → Mode → Type 0
PlaceLacks look modes.Passive = ⊥
PlaceLacks look modes.Declared = Unit {0}
PlaceLacks look (modes.Active n offset) = (look Memories n ≡ None) ⊎ Any (OpLacks look) offset.items

abbrev pub DataLacks : Look → Data → Type 0
DataLacks look read = PlaceLacks look read.mode
