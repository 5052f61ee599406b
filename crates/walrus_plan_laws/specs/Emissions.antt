-- The numbers that emission gives are those of a plan, by which the part of the module has all that lives (Core Specification, indices).
use Rattle.std.specs.Prelude.{ℕ, ◌≡◌, ◌<◌, ◌^◌, List, Some}
use Rattle.std.specs.List.{AllByRecursion, AllZip}
use Rattle.wasm_operators.specs.Items.{Types, Functions}
use Rattle.walrus_arena.specs.Arena.{entries, item_at}
use Rattle.walrus_pairing.specs.Looks.{number_of}
use Rattle.walrus_forms.specs.Renaming.{index_at}
use Rattle.walrus_types.specs.Inverse.{AreInverse}
use Rattle.walrus_types.specs.declared.emit.EmittedTypes.{EmittedTypes}
use Rattle.walrus_module.specs.Items.{brought}
use Rattle.walrus_module.specs.Linking.{import_in}
use Rattle.walrus_module.specs.Parts.{parts, Module as Parts}
use Rattle.walrus_module.specs.declared.module.Module.{Module}
use Rattle.walrus_module.specs.walrus_collections.LookUps.{local_entries}
use Rattle.walrus_module_items.specs.declared.data.Data.{Data}
use Rattle.walrus_module_items.specs.declared.element.Element.{Element}
use Rattle.walrus_module_items.specs.declared.function.Function.{Function}
use Rattle.walrus_module_items.specs.declared.global.Global.{Global}
use Rattle.walrus_module_items.specs.declared.import.Import.{Import}
use Rattle.walrus_module_items.specs.declared.memory.Memory.{Memory}
use Rattle.walrus_module_items.specs.declared.table.Table.{Table}
use Rattle.walrus_module_items.specs.declared.tag.Tag.{Tag}
use Rattle.walrus_roots.specs.declared.item.Item.{Item}
use Rattle.walrus_linked.specs.Linked.{IsWhole}
use Rattle.walrus_linked.specs.OwnIds.{HaveOwnIds}
use Rattle.walrus_meaning.specs.Meaning.{means}
use Rattle.walrus_emit_numbers.specs.declared.facts.BodyFacts.{BodyFacts}
use Rattle.walrus_emit_numbers.specs.Facts.{AreFacts}
use Rattle.walrus_emit_numbers.specs.Numbers.{functions_at, numbers_of}
use Rattle.walrus_emit_numbers.specs.Order.{IsOrder}
use Rattle.walrus_due_laws.specs.Standard.{ServesBy}
use Rattle.walrus_plan_laws.specs.Plans.{plan_of}

-- ---- what is known of the module

-- each item has the id by which it is found
pub record ItemsHaveOwnIds (a : Parts) : Type 0 where
  pub tables : HaveOwnIds (λ (t : Table). t.id) a.tables
  pub memories : HaveOwnIds (λ (x : Memory). x.id) a.memories
  pub tags : HaveOwnIds (λ (t : Tag). t.id) a.tags
  pub globals : HaveOwnIds (λ (g : Global). g.id) a.globals
  pub elements : HaveOwnIds (λ (e : Element). e.id) a.elements
  pub segments : HaveOwnIds (λ (d : Data). d.id) a.data_segments

-- imports and what they bring name each other, and each function is imported or has a body: so it is of a linked module
pub record IsBound (m : Parts) : Type 0 where
  pub imports : (i : ℕ) (import : Import) → item_at m.imports i ≡ Some import → import_in m (brought import.kind).space (brought import.kind).id ≡ Some i
  pub imported : (x : Item) (i : ℕ) → import_in m x.space x.id ≡ Some i → (import : Import) × (item_at m.imports i ≡ Some import) × (brought import.kind ≡ x)
  pub whole : (f : ℕ) (function : Function) → item_at m.funcs f ≡ Some function → IsWhole m.types function.kind

-- a size is a number of 64 bits
abbrev pub SizesFit : List BodyFacts → Type 0
SizesFit facts = AllByRecursion (λ (body : BodyFacts). body.size < 2 ^ 64) facts

-- ---- the law

module _ {B : Type 0} (input : Module B) (facts : List BodyFacts) (order : List ℕ) (emitted : EmittedTypes) where
  -- such a module, the facts of its bodies and their order, and its types as they are written
  pub record IsReady : Type 0 where
    pub bound : IsBound (parts input)
    pub ids : ItemsHaveOwnIds (parts input)
    pub known : AllZip AreFacts (local_entries (entries input.funcs)) facts
    pub fit : SizesFit facts
    pub sorted : IsOrder facts order
    pub types : AreInverse emitted.ids.items emitted.indices

  -- its numbers serve by its plan, whose own functions stand in that order
  pub record HasPlan : Type 0 where
    pub serves : ServesBy (number_of (numbers_of input emitted.ids.items (functions_at facts order)) 0) (plan_of input facts order emitted) (means (parts input))
    pub own : serves.order.own Functions ≡ functions_at facts order
    -- and each type is renamed to its index
    pub types : (id : ℕ) → (plan_of input facts order emitted).renames Types id ≡ index_at emitted.indices id

abbrev pub EmissionsHavePlans : Type 0 → Type 0
EmissionsHavePlans B = (input : Module B) (facts : List BodyFacts) (order : List ℕ) (emitted : EmittedTypes) → IsReady input facts order emitted → HasPlan input facts order emitted
