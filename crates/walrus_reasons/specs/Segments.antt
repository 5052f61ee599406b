-- The segments of a table and of a memory, as lists.
use Rattle.std.specs.Prelude.{ℕ, ◌==◌, List, [], ◌∷◌, ◌++◌, is_some, if◌then◌else◌}
use Rattle.std.specs.HashSet.{keys}
use Rattle.std.specs.List.{flat_map}
use Rattle.wasm_formats.specs.declared.fault.Space.{Space}
use Rattle.wasm_formats.specs.declared.fault.Space.TheVariants as spaces
use Rattle.walrus_arena.specs.Arena.{Arena, item_at}
use Rattle.walrus_used.specs.walrus_module_items.declared.data.Data.{Data}
use Rattle.walrus_used.specs.walrus_module_items.declared.data.DataKind.{DataKind}
use Rattle.walrus_used.specs.walrus_module_items.declared.data.DataKind.TheVariants as datas
use Rattle.walrus_used.specs.walrus_module_items.declared.element.Element.{Element}
use Rattle.walrus_used.specs.walrus_module_items.declared.element.ElementKind.{ElementKind}
use Rattle.walrus_used.specs.walrus_module_items.declared.element.ElementKind.TheVariants as elements
use Rattle.walrus_used.specs.walrus_module_items.declared.memory.Memory.{Memory}
use Rattle.walrus_used.specs.walrus_module_items.declared.table.Table.{Table}
use Rattle.walrus_used.specs.walrus_module.Parts.{Module}
use Rattle.walrus_used.specs.walrus_references.References.{table_items}
use Rattle.walrus_roots.specs.declared.item.Item.{Item}
use Rattle.walrus_roots.specs.Items.{item}
use Rattle.walrus_reasons.specs.Picks.{picked}

-- the segment, where it is active in the table, or in the memory
abbrev pub filled_element : ℕ → ℕ → ElementKind → List Item
filled_element t id (elements.Active table _) = if table == t then item spaces.Element id ∷ [] else []
filled_element t id elements.Passive = []
filled_element t id elements.Declared = []

abbrev pub copied_data : ℕ → ℕ → DataKind → List Item
copied_data x id (datas.Active memory _) = if memory == x then item spaces.Data id ∷ [] else []
copied_data x id datas.Passive = []

-- the items of those of these ids that live
abbrev pub live_items : {T : Type 0} → Arena T → Space → List ℕ → List Item
live_items a space ids = flat_map (λ id. if is_some (item_at a id) then item space id ∷ [] else []) ids

-- a table: what stands in it, the segments that are active in it, and those that it lists itself
abbrev pub listed_for_table : Module → ℕ → Table → List Item
listed_for_table m id t = (table_items t ++ picked (λ e (element : Element). filled_element id e element.kind) m.elements) ++ live_items m.elements spaces.Element (keys t.elem_segments)

-- a memory: the segments that are active in it, and those that it lists itself
abbrev pub listed_for_memory : Module → ℕ → Memory → List Item
listed_for_memory m id x = picked (λ d (segment : Data). copied_data id d segment.kind) m.data_segments ++ live_items m.data_segments spaces.Data (keys x.data_segments)
