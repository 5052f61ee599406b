-- What edits of a module make of what it means: one more slot, or an empty one; nothing else changes.
use Rattle.std.specs.Prelude.{◌≡◌, ℕ, [], ◌∷◌, ◌++◌, Some, None, slice_index_or, slice_set}
use Rattle.std.specs.Option.{option_map}
use Rattle.walrus_arena.specs.Arena.{Arena, item_at}
use Rattle.walrus_linked.specs.walrus_module_items.declared.import.Import.{Import}
use Rattle.walrus_linked.specs.walrus_module_items.declared.export.Export.{Export}
use Rattle.walrus_linked.specs.walrus_module_items.declared.function.Function.{Function}
use Rattle.walrus_linked.specs.walrus_module_items.declared.table.Table.{Table}
use Rattle.walrus_linked.specs.walrus_module_items.declared.memory.Memory.{Memory}
use Rattle.walrus_linked.specs.walrus_module_items.declared.global.Global.{Global}
use Rattle.walrus_linked.specs.walrus_module_items.declared.tag.Tag.{Tag}
use Rattle.walrus_linked.specs.walrus_module_items.declared.data.Data.{Data}
use Rattle.walrus_linked.specs.walrus_module_items.declared.element.Element.{Element}
use Rattle.walrus_linked.specs.walrus_module.Parts.{Module}
use Rattle.walrus_linked.specs.Empty.{IsEmpty}
use Rattle.wasm_grammar.specs.Modules as grammar
use Rattle.walrus_meaning.specs.Meaning.{slots_of, own_import, own_export, own_function, own_table, own_memory, own_global, own_tag, own_element, own_segment, means}

-- a module without items means the empty module
abbrev pub EmptyMeansEmpty : Type 0
EmptyMeansEmpty = (m : Module) → IsEmpty m → means m ≡ grammar.empty

-- what an item is seen as stands at its id, and nothing else does
abbrev pub ItemsAreSeen : {A B : Type 0} → (A → B) → Arena A → Type 0
ItemsAreSeen see a = (id : ℕ) → slice_index_or (slots_of see a) id None ≡ option_map see (item_at a id)

-- a deleted item leaves an empty slot
abbrev pub DeletesAreSeen : {A B : Type 0} → (A → B) → Arena A → Type 0
DeletesAreSeen see a = (b : Arena _) (id : ℕ) → b.slots ≡ slice_set a.slots id None → slots_of see b ≡ slice_set (slots_of see a) id None

-- an item that is added is one more slot of its space
pub record AddsAreSeen : Type 0 where
  pub imports : (m n : Module) (x : Import) → n.imports.slots ≡ m.imports.slots ++ Some x ∷ [] → n ≡ record m { imports = n.imports }
      → means n ≡ record (means m) { imports = (means m).imports ++ Some (own_import x) ∷ [] }
  pub functions : (m n : Module) (x : Function) → n.funcs.slots ≡ m.funcs.slots ++ Some x ∷ [] → n ≡ record m { funcs = n.funcs }
      → means n ≡ record (means m) { functions = (means m).functions ++ Some (own_function m.locals x) ∷ [] }
  pub tables : (m n : Module) (x : Table) → n.tables.slots ≡ m.tables.slots ++ Some x ∷ [] → n ≡ record m { tables = n.tables }
      → means n ≡ record (means m) { tables = (means m).tables ++ Some (own_table x) ∷ [] }
  pub memories : (m n : Module) (x : Memory) → n.memories.slots ≡ m.memories.slots ++ Some x ∷ [] → n ≡ record m { memories = n.memories }
      → means n ≡ record (means m) { memories = (means m).memories ++ Some (own_memory x) ∷ [] }
  pub tags : (m n : Module) (x : Tag) → n.tags.slots ≡ m.tags.slots ++ Some x ∷ [] → n ≡ record m { tags = n.tags }
      → means n ≡ record (means m) { tags = (means m).tags ++ Some (own_tag x) ∷ [] }
  pub globals : (m n : Module) (x : Global) → n.globals.slots ≡ m.globals.slots ++ Some x ∷ [] → n ≡ record m { globals = n.globals }
      → means n ≡ record (means m) { globals = (means m).globals ++ Some (own_global x) ∷ [] }
  pub exports : (m n : Module) (x : Export) → n.exports.slots ≡ m.exports.slots ++ Some x ∷ [] → n ≡ record m { exports = n.exports }
      → means n ≡ record (means m) { exports = (means m).exports ++ Some (own_export x) ∷ [] }
  pub elements : (m n : Module) (x : Element) → n.elements.slots ≡ m.elements.slots ++ Some x ∷ [] → n ≡ record m { elements = n.elements }
      → means n ≡ record (means m) { elements = (means m).elements ++ Some (own_element x) ∷ [] }
  pub segments : (m n : Module) (x : Data) → n.data_segments.slots ≡ m.data_segments.slots ++ Some x ∷ [] → n ≡ record m { data_segments = n.data_segments }
      → means n ≡ record (means m) { segments = (means m).segments ++ Some (own_segment x) ∷ [] }
