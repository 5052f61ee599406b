-- Lemmas: two plans by which what is kept of a module is written, in order, are alike and give one part.
use Rattle.std.specs.Prelude.{ℕ, zero, suc, ◌≡◌, Bool, true, List, [], ◌∷◌, ◌++◌, map, Option, Some, None, slice_get, slice_index_or, refl}
use Rattle.std.specs.List.{AllByRecursion}
use Rattle.std.proofs.Common.{ap, sym, ◌∙◌, subst}
use Rattle.walrus_types.specs.Table.{Table}
use Rattle.walrus_types.proofs.Places.{contains_has}
use Rattle.wasm_features.specs.declared.WasmFeatures.{WasmFeatures}
use Rattle.wasm_operators.specs.declared.block_type.BlockType.TheVariants as blocks
use Rattle.wasm_operators.specs.Items.{Space, Types, Functions, Tables, Memories, Tags, Globals, ElementSegments, DataSegments, Locals, Labels, Item as Immediate, Names, Number, S32, S64, Bits, Byte, Bytes, Heap, Block, Access, ManyLabels, ManyValues, ManyClauses}
use Rattle.wasm_grammar.specs.Modules.{Item, Origin, Imported, Own, Placed, Body, Element, Module}
use Rattle.wasm_body_grammar.specs.Rules.{Around, space_of}
use Rattle.wasm_import_links.specs.Links.{brought, function_brought, global_brought, memory_brought, slot_import, table_brought, tag_brought}
use Rattle.wasm_references.specs.Kept.{Kept}
use Rattle.wasm_references.specs.References.{Numbered}
use Rattle.wasm_ruled_normal.specs.Normal.{IsPicked}
use Rattle.wasm_normal_modules.specs.Numbered.{NamesDecide}
use Rattle.wasm_part.specs.Part.{IsIn, Plan, declaring, part, picked, renumbered_element, renumbered_export, renumbered_function, renumbered_global, renumbered_import, renumbered_memory, renumbered_segment, renumbered_table, renumbered_tag}
use Rattle.wasm_part.specs.Closed.{IsClosed, IsListed, SegmentCounts}
use Rattle.wasm_part.specs.Kept.{BodyCounts, BodyPicked, HasKept, IsShared, KeptIsClosed, PicksServe}
use Rattle.wasm_part.specs.Seen.{seen_as}
use Rattle.wasm_rewriting_laws.specs.Told.{IsPlanOf, NamesAll, PlanIsTold}
use Rattle.wasm_rewriting_laws.proofs.Agree.{declared_same, element_same, export_same, function_same, global_same, import_same, memory_same, picked_same, segment_same, start_same, table_same, tag_same}
use Rattle.wasm_rewriting_laws.proofs.Declared.{declared_told}
use Rattle.wasm_rewriting_laws.proofs.Listed.{brings_told, exports_told, imports_told, listed_told}
use Rattle.wasm_rewriting_laws.proofs.Types.{groups_told, numbers_told, types_told}

pub map_slot : {A : Type 0} (from : A → Option ℕ) (xs : List (Option A)) (n : ℕ) → slice_index_or (map (slot_import from) xs) n None ≡ slot_import from (slice_index_or xs n None)
map_slot from [] n = refl
map_slot from (x ∷ xs) zero = refl
map_slot from (x ∷ xs) (suc n) = map_slot from xs n

-- the import of an item that is there
slot_brings : {A : Type 0} (from : A → Option ℕ) (xs : List (Option A)) (n i : ℕ) (x : A) → slice_index_or xs n None ≡ Some x → from x ≡ Some i
    → slice_index_or (map (slot_import from) xs) n None ≡ Some i
slot_brings {A} from xs n i x at is = map_slot from xs n ∙ ap (λ (o : Option A). slot_import from o) at ∙ is

-- ---- where there are no types each block type is its own pick

module _ (features : WasmFeatures) (m : Module) where
  abbrev bare : Around
  bare = record { features = features; filled = record m { groups = [] }; same = λ n. n; counted = true }

  item_picked : (x : Immediate) → IsPicked bare x
  item_picked (Block blocks.Empty) = refl
  item_picked (Block (blocks.Value ty)) = refl
  item_picked (Block (blocks.Type n)) = refl
  item_picked (Names space n) = tt
  item_picked (Number n) = tt
  item_picked (S32 z) = tt
  item_picked (S64 z) = tt
  item_picked (Bits size n) = tt
  item_picked (Byte c) = tt
  item_picked (Bytes run) = tt
  item_picked (Heap ty) = tt
  item_picked (Access x) = tt
  item_picked (ManyLabels ns) = tt
  item_picked (ManyValues tys) = tt
  item_picked (ManyClauses cs) = tt

  items_picked : (xs : List Immediate) → AllByRecursion (IsPicked bare) xs
  items_picked [] = tt
  items_picked (x ∷ xs) = (item_picked x, items_picked xs)

  operators_picked : (ops : List Placed) → AllByRecursion (λ (o : Placed). AllByRecursion (IsPicked bare) o.op.items) ops
  operators_picked [] = tt
  operators_picked (o ∷ ops) = (items_picked o.op.items, operators_picked ops)

  body_picked : (o : Origin Body) → BodyPicked bare o
  body_picked (Imported n) = tt
  body_picked (Own x) = operators_picked x.operators

  operators_count : (ops : List Placed) → AllByRecursion (λ (o : Placed). SegmentCounts true o.op) ops
  operators_count [] = tt
  operators_count (o ∷ ops) = ((λ e. refl), operators_count ops)

  body_counts : (o : Origin Body) → BodyCounts true o
  body_counts (Imported n) = tt
  body_counts (Own x) = operators_count x.operators

module _ (decide : NamesDecide) (closed : KeptIsClosed) (features : WasmFeatures) (m : Module) (keep : Bool) (pushed : List Item) (t u : Table) (p q : Plan)
    (names : NamesAll features m) (a : IsPlanOf features m keep pushed t p) (b : IsPlanOf features m keep pushed u q) where
  abbrev v : Numbered
  v = seen_as features m

  kp : HasKept v keep pushed p
  kp = a.writes.kept

  kq : HasKept v keep pushed q
  kq = b.writes.kept

  -- ---- the same is listed

  imports : p.imports ≡ q.imports
  imports = imports_told v keep pushed p q kp kq a.ordered b.ordered

  exports : p.exports ≡ q.exports
  exports = exports_told v keep pushed p q kp kq a.ordered b.ordered a.writes.exports b.writes.exports

  by_order : (space : Space) → IsListed space → p.listed space ≡ q.listed space
  by_order space l = listed_told v keep pushed p q kp kq a.ordered b.ordered a.writes.only b.writes.only space l

  listed : (space : Space) → IsShared space → p.listed space ≡ q.listed space
  listed Types s = types_told features m keep pushed t u p q a.writes b.writes
  listed Functions s = by_order Functions tt
  listed Tables s = by_order Tables tt
  listed Memories s = by_order Memories tt
  listed Tags s = by_order Tags tt
  listed Globals s = by_order Globals tt
  listed ElementSegments s = by_order ElementSegments tt
  listed DataSegments s = by_order DataSegments tt
  listed Locals s = absurd s
  listed Labels s = absurd s

  by_place : (space : Space) → IsListed space → (n : ℕ) → IsIn p space n → p.renames space n ≡ q.renames space n
  by_place space l n is = sym (b.writes.only space (p.renames space n) n l (ap (λ (ns : List ℕ). slice_get ns (p.renames space n)) (sym (by_order space l)) ∙ is))

  numbers : (space : Space) (n : ℕ) → IsShared space → IsIn p space n → p.renames space n ≡ q.renames space n
  numbers Types n s is = numbers_told features m keep pushed t u p q a.writes b.writes n is
  numbers Functions n s is = by_place Functions tt n is
  numbers Tables n s is = by_place Tables tt n is
  numbers Memories n s is = by_place Memories tt n is
  numbers Tags n s is = by_place Tags tt n is
  numbers Globals n s is = by_place Globals tt n is
  numbers ElementSegments n s is = by_place ElementSegments tt n is
  numbers DataSegments n s is = by_place DataSegments tt n is
  numbers Locals n s is = absurd s
  numbers Labels n s is = absurd s

  labels : (n : ℕ) → p.renames Labels n ≡ q.renames Labels n
  labels n = a.writes.labels n ∙ sym (b.writes.labels n)

  locals : (n : ℕ) → p.renames Locals n ≡ q.renames Locals n
  locals n = a.writes.locals n ∙ sym (b.writes.locals n)

  declared : p.declared ≡ q.declared
  declared = declared_told m p q (by_order Functions tt) (by_order Globals tt) exports (by_order ElementSegments tt) p.declared q.declared a.declared b.declared

  -- ---- what is listed names what is listed

  abbrev around : Around
  around = bare features m

  serves : PicksServe p around around
  serves = λ n is own e. refl

  named : IsClosed p around around m
  named = closed v keep pushed p around around kp serves (λ i n at f e. (body_picked features m f.origin, names.locals n f e, body_counts features m f.origin))

  -- the import of a listed item is listed
  brings : (space : Space) → IsShared space → (j n : ℕ) → slice_get (p.listed space) j ≡ Some n → (i : ℕ) → slice_index_or (brought m (space_of space)) n None ≡ Some i → p.brings i ≡ q.brings i
  brings space s j n at i link =
      let x = names.linked.told (space_of space) n i link in
      let kept : Kept v keep pushed x.0.item = subst (λ (y : Item). Kept v keep pushed y) (sym x.2) (kp.only space j n s at) in
      brings_told v keep pushed p q kp kq a.ordered b.ordered i (contains_has p.imports i (kp.import i x.0 x.1 kept))

  -- ---- the part

  same_imports : picked (renumbered_import p.renames) p.imports m.imports ≡ picked (renumbered_import q.renames) q.imports m.imports
  same_imports =
      picked_same (renumbered_import p.renames) (renumbered_import q.renames) p.imports m.imports (λ i n at x e. import_same decide p q numbers labels locals x (named.imports i n at x e))
      ∙ ap (λ (l : List ℕ). picked (renumbered_import q.renames) l m.imports) imports

  same_functions : picked (renumbered_function p.renames p.brings) (p.listed Functions) m.functions ≡ picked (renumbered_function q.renames q.brings) (q.listed Functions) m.functions
  same_functions =
      picked_same (renumbered_function p.renames p.brings) (renumbered_function q.renames q.brings) (p.listed Functions) m.functions
      (λ j n at f e. let c = named.functions j n at f e in function_same decide p q numbers labels locals around around f c.0 c.1
      (λ i is. brings Functions tt j n at i (slot_brings function_brought m.functions n i f e is)))
      ∙ ap (λ (l : List ℕ). picked (renumbered_function q.renames q.brings) l m.functions) (by_order Functions tt)

  same_tables : picked (renumbered_table p.renames p.brings) (p.listed Tables) m.tables ≡ picked (renumbered_table q.renames q.brings) (q.listed Tables) m.tables
  same_tables =
      picked_same (renumbered_table p.renames p.brings) (renumbered_table q.renames q.brings) (p.listed Tables) m.tables
      (λ j n at x e. let c = named.tables j n at x e in table_same decide p q numbers labels locals x c.0 c.1 (λ i is. brings Tables tt j n at i (slot_brings table_brought m.tables n i x e is)))
      ∙ ap (λ (l : List ℕ). picked (renumbered_table q.renames q.brings) l m.tables) (by_order Tables tt)

  same_memories : picked (renumbered_memory p.renames p.brings) (p.listed Memories) m.memories ≡ picked (renumbered_memory q.renames q.brings) (q.listed Memories) m.memories
  same_memories =
      picked_same (renumbered_memory p.renames p.brings) (renumbered_memory q.renames q.brings) (p.listed Memories) m.memories
      (λ j n at x e. memory_same decide p q numbers labels locals x (λ i is. brings Memories tt j n at i (slot_brings memory_brought m.memories n i x e is)))
      ∙ ap (λ (l : List ℕ). picked (renumbered_memory q.renames q.brings) l m.memories) (by_order Memories tt)

  same_tags : picked (renumbered_tag p.renames p.brings) (p.listed Tags) m.tags ≡ picked (renumbered_tag q.renames q.brings) (q.listed Tags) m.tags
  same_tags =
      picked_same (renumbered_tag p.renames p.brings) (renumbered_tag q.renames q.brings) (p.listed Tags) m.tags
      (λ j n at x e. tag_same decide p q numbers labels locals x (named.tags j n at x e) (λ i is. brings Tags tt j n at i (slot_brings tag_brought m.tags n i x e is)))
      ∙ ap (λ (l : List ℕ). picked (renumbered_tag q.renames q.brings) l m.tags) (by_order Tags tt)

  same_globals : picked (renumbered_global p.renames p.brings) (p.listed Globals) m.globals ≡ picked (renumbered_global q.renames q.brings) (q.listed Globals) m.globals
  same_globals =
      picked_same (renumbered_global p.renames p.brings) (renumbered_global q.renames q.brings) (p.listed Globals) m.globals
      (λ j n at x e. let c = named.globals j n at x e in global_same decide p q numbers labels locals x c.0 c.1 (λ i is. brings Globals tt j n at i (slot_brings global_brought m.globals n i x e is)))
      ∙ ap (λ (l : List ℕ). picked (renumbered_global q.renames q.brings) l m.globals) (by_order Globals tt)

  same_exports : picked (renumbered_export p.renames) p.exports m.exports ≡ picked (renumbered_export q.renames) q.exports m.exports
  same_exports =
      picked_same (renumbered_export p.renames) (renumbered_export q.renames) p.exports m.exports (λ i n at x e. export_same decide p q numbers labels locals x (named.exports i n at x e))
      ∙ ap (λ (l : List ℕ). picked (renumbered_export q.renames) l m.exports) exports

  same_elements : picked (renumbered_element p.renames) (p.listed ElementSegments) m.elements ≡ picked (renumbered_element q.renames) (q.listed ElementSegments) m.elements
  same_elements =
      picked_same (renumbered_element p.renames) (renumbered_element q.renames) (p.listed ElementSegments) m.elements
      (λ j n at x e. let c = named.elements j n at x e in element_same decide p q numbers labels locals x c.0 c.1)
      ∙ ap (λ (l : List ℕ). picked (renumbered_element q.renames) l m.elements) (by_order ElementSegments tt)

  same_segments : picked (renumbered_segment p.renames) (p.listed DataSegments) m.segments ≡ picked (renumbered_segment q.renames) (q.listed DataSegments) m.segments
  same_segments =
      picked_same (renumbered_segment p.renames) (renumbered_segment q.renames) (p.listed DataSegments) m.segments
      (λ j n at x e. segment_same decide p q numbers labels locals x (named.segments j n at x e))
      ∙ ap (λ (l : List ℕ). picked (renumbered_segment q.renames) l m.segments) (by_order DataSegments tt)

  abbrev declaring_all : Plan → List (List ℕ) → List (Option Element)
  declaring_all p nss = map (λ (ns : List ℕ). Some (declaring p.renames ns)) nss

  same_declared : declaring_all p p.declared ≡ declaring_all q q.declared
  same_declared = declared_same decide p q numbers labels locals p.declared named.declared ∙ ap (λ (l : List (List ℕ)). declaring_all q l) declared

  same_part : part p m ≡ part q m
  same_part =
      let groups = groups_told features m keep pushed t u p q a.writes b.writes in
      let start = start_same decide p q numbers labels locals m.start named.start in
      λ i. record {
        groups = groups i;
        imports = same_imports i;
        functions = same_functions i;
        tables = same_tables i;
        memories = same_memories i;
        tags = same_tags i;
        globals = same_globals i;
        exports = same_exports i;
        start = start i;
        elements = same_elements i ++ same_declared i;
        segments = same_segments i;
        customs = [];
      }

pub plan_told : NamesDecide → KeptIsClosed → PlanIsTold
plan_told decide closed features m keep pushed t u p q names a b = (
  record { listed = listed decide closed features m keep pushed t u p q names a b; numbers = numbers decide closed features m keep pushed t u p q names a b },
  same_part decide closed features m keep pushed t u p q names a b,
)
