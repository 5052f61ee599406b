-- The part that has just what is kept of a module is closed, and block types that are their own picks have picks there.
use Rattle.std.specs.Prelude.{ℕ, ◌≡◌, ◌<◌, Bool, true, List, length, Contains, Option, Some, None, IsSome, slice_get, slice_index_or}
use Rattle.std.specs.List.{AllByRecursion, flat_map}
use Rattle.wasm_features.specs.declared.WasmFeatures.{WasmFeatures}
use Rattle.wasm_formats.specs.declared.fault.Space.TheVariants as spaces
use Rattle.wasm_operators.specs.declared.block_type.BlockType.TheVariants as blocks
use Rattle.wasm_operators.specs.Items.{Space, Types, Functions, Tables, Memories, Tags, Globals, ElementSegments, DataSegments, Locals, Labels, Block}
use Rattle.wasm_grammar.specs.Modules.{Item, Origin, Imported, Own, Placed, Body, Function, Import, Export, Module}
use Rattle.wasm_grammar.specs.States.{types_of}
use Rattle.wasm_body_grammar.specs.Rules.{Around, leads, space_of}
use Rattle.wasm_references.specs.References.{Numbered, function_items, item, value_items}
use Rattle.wasm_references.specs.Kept.{Kept}
use Rattle.wasm_ruled_modules.specs.Rules.{around_bodies}
use Rattle.wasm_ruled_normal.specs.Normal.{IsPicked}
use Rattle.wasm_run_names.specs.Picks.{block_pick}
use Rattle.wasm_part.specs.Part.{IsIn, Plan, part}
use Rattle.wasm_part.specs.Closed.{BlockServes, IsClosed, SegmentCounts, TypeStands}

-- spaces of the file
abbrev pub IsShared : Space → Type 0
IsShared Locals = ⊥
IsShared Labels = ⊥
IsShared space = Unit {0}

-- each of these slots has an item
abbrev pub AreFilled : {A : Type 0} → List ℕ → List (Option A) → Type 0
AreFilled ns xs = AllByRecursion (λ n. IsSome (slice_index_or xs n None)) ns

-- what a plan lists is there
pub record ListsItems (p : Plan) (m : Module) : Type 0 where
  pub imports : AreFilled p.imports m.imports
  pub functions : AreFilled (p.listed Functions) m.functions
  pub tables : AreFilled (p.listed Tables) m.tables
  pub memories : AreFilled (p.listed Memories) m.memories
  pub tags : AreFilled (p.listed Tags) m.tags
  pub globals : AreFilled (p.listed Globals) m.globals
  pub exports : AreFilled p.exports m.exports
  pub elements : AreFilled (p.listed ElementSegments) m.elements
  pub segments : AreFilled (p.listed DataSegments) m.segments

-- the part has just what is kept, with all active element segments or without, an import exactly if its item is, and all exports
pub record HasKept (v : Numbered) (keep : Bool) (pushed : List Item) (p : Plan) : Type 0 where
  pub has : (space : Space) (n : ℕ) → IsShared space → Kept v keep pushed (item (space_of space) n) → IsIn p space n
  pub only : (space : Space) (i n : ℕ) → IsShared space → slice_get (p.listed space) i ≡ Some n → Kept v keep pushed (item (space_of space) n)
  pub imports : (i n : ℕ) → slice_get p.imports i ≡ Some n → (x : Import) → slice_index_or v.filled.imports n None ≡ Some x → Kept v keep pushed x.item
  pub import : (n : ℕ) (x : Import) → slice_index_or v.filled.imports n None ≡ Some x → Kept v keep pushed x.item → Contains p.imports n
  pub exports : (n : ℕ) (x : Export) → slice_index_or v.filled.exports n None ≡ Some x → Contains p.exports n
  pub there : ListsItems p v.filled
  pub declared : AllByRecursion (AllByRecursion (λ n. Kept v keep pushed (item spaces.Function n))) p.declared

-- each block type of a body is its own pick
abbrev pub BodyPicked : Around → Origin Body → Type 0
BodyPicked a (Imported n) = Unit {0}
BodyPicked a (Own x) = AllByRecursion (λ (o : Placed). AllByRecursion (IsPicked a) o.op.items) x.operators

-- where an operator of a body names a data segment there is a data count section
abbrev pub BodyCounts : Bool → Origin Body → Type 0
BodyCounts counted (Imported n) = Unit {0}
BodyCounts counted (Own x) = AllByRecursion (λ (o : Placed). SegmentCounts counted o.op) x.operators

-- the types of a body's own locals are among what it names, as they are where each local is used
abbrev pub LocalsNamed : Numbered → ℕ → Function → Origin Body → Type 0
LocalsNamed v n f (Imported i) = Unit {0}
LocalsNamed v n f (Own x) = (y : Item) → Contains (flat_map value_items x.locals) y → Contains (function_items (v.local_type n) (v.parts n) f) y

-- block types of the part that are their own picks have picks there
abbrev pub PicksServe : Plan → Around → Around → Type 0
PicksServe p a b = (n : ℕ) → IsIn p Types n → block_pick a (blocks.Type n) ≡ blocks.Type n → BlockServes p a b (Block (blocks.Type n))

abbrev pub KeptIsClosed : Type 0
KeptIsClosed = (v : Numbered) (keep : Bool) (pushed : List Item) (p : Plan) (a b : Around) → HasKept v keep pushed p → PicksServe p a b
    → ((i n : ℕ) → slice_get (p.listed Functions) i ≡ Some n → (f : Function) → slice_index_or v.filled.functions n None ≡ Some f → BodyPicked a f.origin × LocalsNamed v n f f.origin × BodyCounts b.counted f.origin)
    → IsClosed p a b v.filled

-- so they have where types of the part stand renamed, each for itself
abbrev pub PickedTypesServe : Type 0
PickedTypesServe = (features : WasmFeatures) (before counted : Bool) (p : Plan) (m : Module) → ((n : ℕ) → IsIn p Types n → TypeStands p m n)
    → (let b = around_bodies features counted (part p m) in ((k : ℕ) → k < length (types_of (part p m)) → leads b.same k ≡ true) → PicksServe p (around_bodies features before m) b)
