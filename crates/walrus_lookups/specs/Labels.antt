-- What items are called.
use Rattle.std.specs.Prelude.{ℕ, ◌==◌, ◌&&◌, Bool, List, ◌++◌, Option, None, codes, decimal, string_bytes, slice_get}
use Rattle.std.specs.Option.{option_and_then, option_map, option_map_or, option_or}
use Rattle.std.specs.declared.alloc.Global.{Global}
use Rattle.std.specs.declared.string.String.{String}
use Rattle.wasm_formats.specs.declared.fault.Space.{Space}
use Rattle.wasm_formats.specs.declared.fault.Space.TheVariants as spaces
use Rattle.walrus_arena.specs.Arena.{Arena, item_at}
use Rattle.walrus_items.specs.Items.{Item as TypeItem}
use Rattle.walrus_items.specs.declared.local.Local.{Local}
use Rattle.walrus_types.specs.Table.{type_at}
use Rattle.walrus_roots.specs.declared.item.Item.{Item}
use Rattle.walrus_roots.specs.Items.{space_number}
use Rattle.walrus_collections.specs.LookUps.{lowest}
use Rattle.walrus_collections.specs.walrus_module_items.declared.function.Function.{Function}
use Rattle.walrus_collections.specs.walrus_module_items.declared.table.Table.{Table}
use Rattle.walrus_collections.specs.walrus_module_items.declared.memory.Memory.{Memory}
use Rattle.walrus_collections.specs.walrus_module_items.declared.tag.Tag.{Tag}
use Rattle.walrus_collections.specs.walrus_module_items.declared.global.Global.{Global as GlobalItem}
use Rattle.walrus_collections.specs.walrus_module_items.declared.element.Element.{Element}
use Rattle.walrus_collections.specs.walrus_module_items.declared.data.Data.{Data}
use Rattle.walrus_collections.specs.walrus_module_items.declared.export.Export.{Export}
use Rattle.walrus_collections.specs.walrus_module_items.declared.import.Import.{Import}
use Rattle.walrus_module.specs.Items.{brought, given_out}
use Rattle.walrus_module.specs.Parts.{Module}

-- one item
abbrev pub is_item : Item → Item → Bool
is_item x y = (space_number x.space == space_number y.space) && (x.id == y.id)

-- the name of its own of what is there, if it has one
abbrev pub name_of : {T : Type 0} → (T → Option (String Global)) → Option T → Option (List ℕ)
name_of name there = option_map string_bytes (option_and_then name there)

-- the name of its own of the item of this id in the space, if it lives and has one
abbrev pub own_name_in : Module → Space → ℕ → Option (List ℕ)
own_name_in m spaces.Type id = option_and_then (λ (ty : TypeItem). ty.name) (type_at m.types id)
own_name_in m spaces.Function id = name_of (λ (f : Function). f.name) (item_at m.funcs id)
own_name_in m spaces.Table id = name_of (λ (t : Table). t.name) (item_at m.tables id)
own_name_in m spaces.Memory id = name_of (λ (x : Memory). x.name) (item_at m.memories id)
own_name_in m spaces.Tag id = name_of (λ (t : Tag). t.name) (item_at m.tags id)
own_name_in m spaces.Global id = name_of (λ (g : GlobalItem). g.name) (item_at m.globals id)
own_name_in m spaces.Element id = name_of (λ (e : Element). e.name) (item_at m.elements id)
own_name_in m spaces.Data id = name_of (λ (d : Data). d.name) (item_at m.data_segments id)
own_name_in m spaces.Local id = name_of (λ (local : Local). local.name) (slice_get m.locals id)
own_name_in m spaces.Label id = None

abbrev pub own_name : Module → Item → Option (List ℕ)
own_name m x = own_name_in m x.space x.id

-- the name of the lowest export that gives the item out
abbrev pub exported_name : Arena Export → Item → Option (List ℕ)
exported_name exports x = option_map (λ e. string_bytes e.1.name) (lowest (λ e. is_item (given_out e.item) x) exports)

-- the module and the name of an import, joined by a dot
abbrev pub import_text : Import → List ℕ
import_text i = string_bytes i.«module» ++ codes "." ++ string_bytes i.name

-- those of the lowest import that brings the item
abbrev pub imported_name : Arena Import → Item → Option (List ℕ)
imported_name imports x = option_map (λ e. import_text e.1) (lowest (λ i. is_item (brought i.kind) x) imports)

-- # and the number of its id
abbrev pub number_text : ℕ → List ℕ
number_text id = codes "#" ++ decimal id

-- the item's name; else that of the lowest export that gives it out; else those of the lowest import that brings it; else its number
abbrev pub label_of : Module → Item → List ℕ
label_of m x = option_map_or (λ text. text) (option_or (own_name m x) (option_or (exported_name m.exports x) (imported_name m.imports x))) (number_text x.id)
