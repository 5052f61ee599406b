-- The items that walks name.
use Rattle.std.specs.Prelude.{List, [], ◌∷◌}
use Rattle.std.specs.List.{flat_map}
use Rattle.wasm_formats.specs.declared.fault.Space.TheVariants as spaces
use Rattle.walrus_walks.specs.Events.{Event, NamesLocal, NamesMemory, NamesTable, NamesGlobal, NamesFunction, NamesData, NamesType, NamesElement, NamesTag}
use Rattle.walrus_roots.specs.declared.item.Item.{Item}
use Rattle.walrus_roots.specs.Items.{item}

-- the item that an event of a walk names, if it names one; a label names none
abbrev pub event_items : Event → List Item
event_items (NamesType id) = item spaces.Type id ∷ []
event_items (NamesFunction id) = item spaces.Function id ∷ []
event_items (NamesTable id) = item spaces.Table id ∷ []
event_items (NamesMemory id) = item spaces.Memory id ∷ []
event_items (NamesTag id) = item spaces.Tag id ∷ []
event_items (NamesGlobal id) = item spaces.Global id ∷ []
event_items (NamesElement id) = item spaces.Element id ∷ []
event_items (NamesData id) = item spaces.Data id ∷ []
event_items (NamesLocal id) = item spaces.Local id ∷ []
event_items _ = []

-- the items that a walk names
abbrev pub items_of : List Event → List Item
items_of events = flat_map event_items events
