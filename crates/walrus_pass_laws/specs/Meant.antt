-- References over what a module means: the abstract module whose numbers are ids, with the ids of its types, the types of its
-- locals, the block types of the parts of its bodies, and the segments that tables and memories list.
use Rattle.std.specs.Prelude.{◌≡◌, ◌⊎◌, ◌↔◌, ℕ, true, List, [], Option, Some, None, IsSome, Contains}
use Rattle.std.specs.HashSet.{keys}
use Rattle.wasm_references.specs.wasm_formats.declared.fault.Space.{Space}
use Rattle.wasm_references.specs.wasm_formats.declared.fault.Space.TheVariants as spaces
use Rattle.wasm_references.specs.wasm_operators.declared.block_type.BlockType.{BlockType}
use Rattle.wasm_references.specs.References as abstract
use Rattle.wasm_references.specs.References.{Numbered}
use Rattle.wasm_references.specs.Kept.{Kept as KeptOf}
use Rattle.walrus_arena.specs.Arena.{item_at}
use Rattle.walrus_walks.specs.walrus_types.Items.{Group}
use Rattle.walrus_walks.specs.walrus_types.Table.{Table as TypeTable, HasMember}
use Rattle.walrus_walks.specs.walrus_types.TypeLaws.{AreGrouped}
use Rattle.walrus_passes.specs.walrus_refusals.walrus_used.walrus_references.walrus_builder.Functions.{seqs_of}
use Rattle.walrus_meaning.specs.walrus_module.Parts.{Module}
use Rattle.walrus_meaning.specs.walrus_module.Items.{written_type}
use Rattle.walrus_meaning.specs.walrus_linked.Linked.{IsLinked, IsWhole}
use Rattle.walrus_passes.specs.walrus_refusals.walrus_used.walrus_references.walrus_module_items.declared.function.Function.{Function}
use Rattle.walrus_passes.specs.walrus_refusals.walrus_used.walrus_references.walrus_module_items.declared.function.FunctionKind.{FunctionKind}
use Rattle.walrus_passes.specs.walrus_refusals.walrus_used.walrus_references.walrus_module_items.declared.function.FunctionKind.TheVariants as functions
use Rattle.walrus_passes.specs.walrus_refusals.walrus_used.walrus_references.walrus_module_items.declared.table.Table.{Table}
use Rattle.walrus_passes.specs.walrus_refusals.walrus_used.walrus_references.walrus_module_items.declared.memory.Memory.{Memory}
use Rattle.walrus_meaning.specs.Meaning.{means, type_ids}
use Rattle.walrus_roots.specs.declared.item.Item.{Item}
use Rattle.walrus_roots.specs.Items.{item, IsShared, PushesShared}
use Rattle.walrus_passes.specs.walrus_refusals.walrus_used.walrus_references.References.{Refers}
use Rattle.walrus_passes.specs.walrus_refusals.walrus_used.walrus_references.Kept.{Kept}
use Rattle.walrus_passes.specs.walrus_refusals.Sound.{IsSound}
use Rattle.walrus_passes.specs.Part.{IsPart, IsKeptPart}
use Rattle.walrus_passes.specs.UsedItems.{AreKept, HasJust}
use Rattle.walrus_passes.specs.declared.used.Used.{Used}
use Rattle.walrus_pass_laws.specs.Bodies.{parts_of}
use Rattle.walrus_pass_laws.specs.Items.{own_item, own_items}
use Rattle.walrus_pass_laws.specs.Locals.{type_of_local}

-- the block types of the parts of a function's body
abbrev pub kind_parts : FunctionKind → List BlockType
kind_parts (functions.Local local) = parts_of (seqs_of local.builder)
kind_parts _ = []

abbrev pub function_parts : Option Function → List BlockType
function_parts (Some f) = kind_parts f.kind
function_parts None = []

abbrev pub listed_elements : Option Table → List ℕ
listed_elements (Some t) = keys t.elem_segments
listed_elements None = []

abbrev pub listed_data : Option Memory → List ℕ
listed_data (Some x) = keys x.data_segments
listed_data None = []

-- what references look at in what a module means
abbrev pub meant : Module → Numbered
meant m = record {
  filled = means m;
  types = type_ids m.types;
  local_type = λ f id. type_of_local m.locals id;
  parts = λ f. function_parts (item_at m.funcs f);
  own_elements = λ t. listed_elements (item_at m.tables t);
  own_data = λ x. listed_data (item_at m.memories x);
}

-- ---- what items have to be, to be meant

-- of the type's explicit group no member is an entry type
abbrev pub GroupIsWritten : TypeTable → ℕ → Type 0
GroupIsWritten t id = (group : Group) → HasMember t id group → group.explicit ≡ true → (k : ℕ) → Contains group.types k → IsSome (written_type t k)

-- a function is imported, or has a body of its arguments that is a tree; and of a type's explicit group no member is an entry type
pub record IsPlainIn (m : Module) (s : Space) (id : ℕ) : Type 0 where
  pub whole : s ≡ spaces.Function → (f : Function) → item_at m.funcs id ≡ Some f → IsWhole m.types f.kind
  pub grouped : s ≡ spaces.«Type» → GroupIsWritten m.types id

-- ---- references

-- the one item names the other, or a local whose type this is
abbrev pub RefersThrough : Module → Item → Item → Type 0
RefersThrough m x y = Refers m x y ⊎ ((id : ℕ) × Refers m x (item spaces.Local id) × Refers m (item spaces.Local id) y)

-- in a linked module items name just what they name in what it means
abbrev pub ReferencesAreMeant : Type 0
ReferencesAreMeant = (m : Module) → IsLinked m → AreGrouped m.types → (x y : Item) → IsShared x → IsShared y
    → RefersThrough m x y ↔ abstract.Refers (meant m) (own_item x) (own_item y)

-- what is kept of what a module means, with all active element segments where its flag asks for it
abbrev pub IsKeptMeant : Module → List Item → Item → Type 0
IsKeptMeant m pushed x = KeptOf (meant m) m.config.keep_segments (own_items pushed) (own_item x)

-- so that what is kept of it is what is kept of what it means
abbrev pub KeptIsMeant : Type 0
KeptIsMeant = (m : Module) (pushed : List Item) → IsLinked m → AreGrouped m.types → PushesShared pushed
    → (x : Item) → IsShared x → Kept m pushed x ↔ IsKeptMeant m pushed x

-- so it is where a pass isn't refused, whatever stands in what isn't reached: the sets have just these items, and just these are left
pub record PassesKeepMeant (m : Module) (pushed : List Item) : Type 0 where
  pub kept : (x : Item) → IsShared x → Kept m pushed x ↔ IsKeptMeant m pushed x
  pub used : (u : Used) → AreKept m pushed u → HasJust (IsKeptMeant m pushed) u
  pub left : (n : Module) → IsKeptPart m pushed n → IsPart (IsKeptMeant m pushed) m n

abbrev pub PassesKeepWhatIsMeant : Type 0
PassesKeepWhatIsMeant = (m : Module) (pushed : List Item) → IsSound m pushed → AreGrouped m.types → PushesShared pushed → PassesKeepMeant m pushed
