-- Lemmas: the part that has just what is kept is closed.
use Rattle.std.specs.Prelude.{ℕ, zero, suc, ◌≡◌, Bool, List, [], ◌∷◌, map, Contains, Option, Some, None, slice_get, slice_index_or, refl}
use Rattle.std.specs.List.{AllByRecursion, flat_map}
use Rattle.std.specs.Option.{option_to_list}
use Rattle.std.proofs.Common.{ap, sym, subst, arith, inl, inr}
use Rattle.walrus_forms.specs.declared.value.ValType.{ValType}
use Rattle.walrus_forms.specs.Values.{ref_name, value_name}
use Rattle.wasm_formats.specs.declared.fault.Space.{Space as FileSpace}
use Rattle.wasm_formats.specs.declared.fault.Space.TheVariants as spaces
use Rattle.wasm_operators.specs.declared.block_type.BlockType.{BlockType}
use Rattle.wasm_operators.specs.declared.block_type.BlockType.TheVariants as blocks
use Rattle.wasm_operators.specs.Items.{Space, Types, Functions, Tables, Memories, Tags, Globals, ElementSegments, DataSegments, Locals, Labels, Item as Immediate, Names, Number, S32, S64, Bits, Byte, Bytes, Heap, Block, Access, ManyLabels, ManyValues, ManyClauses}
use Rattle.wasm_operators.specs.Names.{Name, block_names, item_names, operator_names}
use Rattle.wasm_grammar.specs.Modules.{Item, Expr, Origin, Imported, Own, Placed, Body, Function, Mode, Passive, Declared, Active, Elements, Functions as Listed, Expressions}
use Rattle.wasm_body_grammar.specs.Rules.{Around}
use Rattle.wasm_references.specs.References.{Numbered, Refers, body_items, element_items, expr_items, function_items, global_items, held_items, init_items, item, mode_items, name_items, named_by, names_items, no_locals, origin_items, ref_items, segment_items, table_items, tag_items, value_items}
use Rattle.wasm_references.specs.Roots.{exports, starts}
use Rattle.wasm_references.specs.Kept.{IsReached, Kept, refers, root}
use Rattle.wasm_ruled_normal.specs.Normal.{IsPicked}
use Rattle.wasm_ruled_normal.proofs.Tests.{all_split}
use Rattle.wasm_part.specs.Part.{IsIn, Plan}
use Rattle.wasm_part.specs.Closed.{BlockServes, BodyIn, SegmentCounts, ExprIn, InitIn, IsClosed, ItemIn, ItemsIn, ModeIn, NameIn, NumberIn, OwnIn, PlacedIn, StartIn, TypeIn}
use Rattle.wasm_part.specs.Kept.{BodyCounts, BodyPicked, HasKept, KeptIsClosed, LocalsNamed, PicksServe}

-- ---- all that a list has

contains_later : {A : Type 0} (x : A) (xs : List A) (y : A) → Contains xs y → Contains (x ∷ xs) y
contains_later x xs y h = let lt = h.1 in (suc h.0, omega (arith, lt), h.2)

all_of : {A : Type 0} (P : A → Type 0) (xs : List A) → ((y : A) → Contains xs y → P y) → AllByRecursion P xs
all_of P [] h = tt
all_of P (x ∷ xs) h = (h x (zero, omega arith, refl), all_of P xs (λ y c. h y (contains_later x xs y c)))

each_all : {A : Type 0} (P : A → Type 0) (xs : List (List A)) (Q : A → Type 0) → ((x : A) → P x → Q x) → AllByRecursion (AllByRecursion P) xs → AllByRecursion (AllByRecursion Q) xs
each_all P [] Q f h = tt
each_all P (x ∷ xs) Q f h = (go x h.0, each_all P xs Q f h.1)
  where
    go : (x : List _) → AllByRecursion P x → AllByRecursion Q x
    go [] h = tt
    go (y ∷ x) h = (f y h.0, go x h.1)

module _ (v : Numbered) (keep : Bool) (pushed : List Item) (p : Plan) (a b : Around) (kept : HasKept v keep pushed p) (picks : PicksServe p a b) where
  -- ---- what is kept is in the part

  item_in : (space : FileSpace) (n : ℕ) → Kept v keep pushed (item space n) → ItemIn p space n
  item_in spaces.«Type» n h = kept.has Types n tt h
  item_in spaces.Function n h = kept.has Functions n tt h
  item_in spaces.Table n h = kept.has Tables n tt h
  item_in spaces.Memory n h = kept.has Memories n tt h
  item_in spaces.Tag n h = kept.has Tags n tt h
  item_in spaces.Global n h = kept.has Globals n tt h
  item_in spaces.Element n h = kept.has ElementSegments n tt h
  item_in spaces.Data n h = kept.has DataSegments n tt h
  item_in spaces.Local n h = tt
  item_in spaces.Label n h = tt

  abbrev AnItemIn : Item → Type 0
  AnItemIn y = ItemIn p y.space y.number

  abbrev AllIn : List Item → Type 0
  AllIn = AllByRecursion AnItemIn

  -- what is listed is reached, memories aside
  reached : (space : FileSpace) (n : ℕ) → (space ≡ spaces.Memory → ⊥) → Kept v keep pushed (item space n) → IsReached v keep pushed (item space n)
  reached space n other (inl h) = h
  reached space n other (inr h) = absurd (other (ap (λ (i : Item). i.space) h.is))

  names_in : (x : Item) (items : List Item) → IsReached v keep pushed x → ((y : Item) → Contains items y → Refers v x y) → AllIn items
  names_in x items h names = all_of AnItemIn items (λ y c. item_in y.space y.number (inl (refers h (names y c))))

  -- ---- from items to names

  types_in : (o : Option ℕ) → AllIn (map (item spaces.«Type») (option_to_list o)) → TypeIn p o
  types_in None h = tt
  types_in (Some n) h = h.0

  name_in : (locals : ℕ → Option ValType) (space : Space) (n : ℕ) → AllIn (name_items locals space n) → NumberIn p space n
  name_in locals Types n h = h.0
  name_in locals Functions n h = h.0
  name_in locals Tables n h = h.0
  name_in locals Memories n h = h.0
  name_in locals Tags n h = h.0
  name_in locals Globals n h = h.0
  name_in locals ElementSegments n h = h.0
  name_in locals DataSegments n h = h.0
  name_in locals Locals n h = tt
  name_in locals Labels n h = tt

  all_names_in : (locals : ℕ → Option ValType) (names : List Name) → AllIn (names_items locals names) → AllByRecursion (NameIn p) names
  all_names_in locals [] h = tt
  all_names_in locals (n ∷ names) h =
      let both = all_split AnItemIn (name_items locals n.0 n.1) (names_items locals names) h in (name_in locals n.0 n.1 both.0, all_names_in locals names both.1)

  expr_in : (ops : Expr) → AllIn (expr_items ops) → ExprIn p ops
  expr_in [] h = tt
  expr_in (op ∷ ops) h =
      let both = all_split AnItemIn (names_items no_locals (operator_names op)) (expr_items ops) h in (all_names_in no_locals (operator_names op) both.0, expr_in ops both.1)

  exprs_in : (es : List Expr) → AllIn (flat_map expr_items es) → AllByRecursion (ExprIn p) es
  exprs_in [] h = tt
  exprs_in (e ∷ es) h = let both = all_split AnItemIn (expr_items e) (flat_map expr_items es) h in (expr_in e both.0, exprs_in es both.1)

  init_in : (o : Option Expr) → AllIn (init_items o) → InitIn p o
  init_in None h = tt
  init_in (Some e) h = expr_in e h

  own_in : (o : Origin Expr) → AllIn (origin_items expr_items o) → OwnIn p o
  own_in (Imported n) h = tt
  own_in (Own e) h = expr_in e h

  table_mode_in : (mode : Mode) → AllIn (mode_items spaces.Table mode) → ModeIn p Tables mode
  table_mode_in (Active n offset) h = (h.0, expr_in offset h.1)
  table_mode_in Passive h = tt
  table_mode_in Declared h = tt

  memory_mode_in : (mode : Mode) → AllIn (mode_items spaces.Memory mode) → ModeIn p Memories mode
  memory_mode_in (Active n offset) h = (h.0, expr_in offset h.1)
  memory_mode_in Passive h = tt
  memory_mode_in Declared h = tt

  functions_in : (ns : List ℕ) → AllIn (map (item spaces.Function) ns) → AllByRecursion (λ n. IsIn p Functions n) ns
  functions_in [] h = tt
  functions_in (n ∷ ns) h = (h.0, functions_in ns h.1)

  held_in : (items : Elements) → AllIn (held_items items) → ItemsIn p items
  held_in (Listed ns) h = functions_in ns h
  held_in (Expressions ty es) h = let both = all_split AnItemIn (ref_items ty) (flat_map expr_items es) h in (types_in (ref_name ty) both.0, exprs_in es both.1)

  -- ---- bodies

  block_serves : (x : Immediate) → AllByRecursion (NameIn p) (item_names x) → IsPicked a x → BlockServes p a b x
  block_serves (Block blocks.Empty) h own = tt
  block_serves (Block (blocks.Value ty)) h own = tt
  block_serves (Block (blocks.Type n)) h own = picks n h.0 own
  block_serves (Names space n) h own = tt
  block_serves (Number n) h own = tt
  block_serves (S32 z) h own = tt
  block_serves (S64 z) h own = tt
  block_serves (Bits size n) h own = tt
  block_serves (Byte c) h own = tt
  block_serves (Bytes run) h own = tt
  block_serves (Heap ty) h own = tt
  block_serves (Access x) h own = tt
  block_serves (ManyLabels ns) h own = tt
  block_serves (ManyValues tys) h own = tt
  block_serves (ManyClauses cs) h own = tt

  blocks_serve : (xs : List Immediate) → AllByRecursion (NameIn p) (flat_map item_names xs) → AllByRecursion (IsPicked a) xs → AllByRecursion (BlockServes p a b) xs
  blocks_serve [] h own = tt
  blocks_serve (x ∷ xs) h own = let both = all_split (NameIn p) (item_names x) (flat_map item_names xs) h in (block_serves x both.0 own.0, blocks_serve xs both.1 own.1)

  operators_in : (locals : ℕ → Option ValType) (ops : List Placed) → AllIn (flat_map (λ (o : Placed). names_items locals (operator_names o.op)) ops)
      → AllByRecursion (λ (o : Placed). AllByRecursion (IsPicked a) o.op.items) ops → AllByRecursion (λ (o : Placed). SegmentCounts b.counted o.op) ops → AllByRecursion (PlacedIn p a b) ops
  operators_in locals [] h own counts = tt
  operators_in locals (o ∷ ops) h own counts =
      let both = all_split AnItemIn (names_items locals (operator_names o.op)) (flat_map (λ (o : Placed). names_items locals (operator_names o.op)) ops) h in
      let names = all_names_in locals (operator_names o.op) both.0 in
      ((names, blocks_serve o.op.items names own.0, counts.0), operators_in locals ops both.1 own.1 counts.1)

  locals_in : (tys : List ValType) → AllIn (flat_map value_items tys) → AllByRecursion (λ (ty : ValType). TypeIn p (value_name ty)) tys
  locals_in [] h = tt
  locals_in (ty ∷ tys) h = let both = all_split AnItemIn (value_items ty) (flat_map value_items tys) h in (types_in (value_name ty) both.0, locals_in tys both.1)

  body_in : (n : ℕ) (f : Function) → ((y : Item) → Contains (function_items (v.local_type n) (v.parts n) f) y → AnItemIn y) → (o : Origin Body) → BodyPicked a o → LocalsNamed v n f o → BodyCounts b.counted o
      → AllIn (origin_items (λ (x : Body). body_items (v.local_type n) x.operators (v.parts n)) o) → BodyIn p a b o
  body_in n f all (Imported i) picked named counts h = tt
  body_in n f all (Own x) picked named counts h =
      let both = all_split AnItemIn (flat_map (λ (o : Placed). names_items (v.local_type n) (operator_names o.op)) x.operators) (flat_map (λ (ty : BlockType). names_items (v.local_type n) (block_names ty)) (v.parts n)) h in
      (locals_in x.locals (all_of AnItemIn (flat_map value_items x.locals) (λ y c. all y (named y c))), operators_in (v.local_type n) x.operators both.0 picked counts)

  -- ---- each space

  has_slot : {A : Type 0} (items : A → List Item) (xs : List (Option A)) (n : ℕ) (x : A) → slice_index_or xs n None ≡ Some x → (y : Item) → Contains (items x) y → Contains (named_by items (slice_index_or xs n None)) y
  has_slot items xs n x e y c = subst (λ (o : Option _). Contains (named_by items o) y) (sym e) c

  closed : ((i n : ℕ) → slice_get (p.listed Functions) i ≡ Some n → (f : Function) → slice_index_or v.filled.functions n None ≡ Some f → BodyPicked a f.origin × LocalsNamed v n f f.origin × BodyCounts b.counted f.origin) → IsClosed p a b v.filled
  closed bodies = record {
    functions = λ i n at f e.
        let here = reached spaces.Function n (λ e. cc) (kept.only Functions i n tt at) in
        let items = function_items (v.local_type n) (v.parts n) f in
        let all = names_in (item spaces.Function n) items here (λ y c. has_slot (function_items (v.local_type n) (v.parts n)) v.filled.functions n f e y c) in
        let own = bodies i n at f e in
        (all.0, body_in n f (λ y c. item_in y.space y.number (inl (refers here (has_slot (function_items (v.local_type n) (v.parts n)) v.filled.functions n f e y c)))) f.origin own.0 own.1 own.2 all.1);
    tables = λ i n at t e.
        let here = reached spaces.Table n (λ e. cc) (kept.only Tables i n tt at) in
        let all = names_in (item spaces.Table n) (table_items t) here (λ y c. inl (has_slot table_items v.filled.tables n t e y c)) in
        let both = all_split AnItemIn (ref_items t.element) (init_items t.init) all in
        (types_in (ref_name t.element) both.0, init_in t.init both.1);
    tags = λ i n at t e.
        let here = reached spaces.Tag n (λ e. cc) (kept.only Tags i n tt at) in
        (names_in (item spaces.Tag n) (tag_items t) here (λ y c. has_slot tag_items v.filled.tags n t e y c)).0;
    globals = λ i n at g e.
        let here = reached spaces.Global n (λ e. cc) (kept.only Globals i n tt at) in
        let all = names_in (item spaces.Global n) (global_items g) here (λ y c. has_slot global_items v.filled.globals n g e y c) in
        let both = all_split AnItemIn (value_items g.ty) (origin_items expr_items g.origin) all in
        (types_in (value_name g.ty) both.0, own_in g.origin both.1);
    elements = λ i n at x e.
        let here = reached spaces.Element n (λ e. cc) (kept.only ElementSegments i n tt at) in
        let all = names_in (item spaces.Element n) (element_items x) here (λ y c. has_slot element_items v.filled.elements n x e y c) in
        let both = all_split AnItemIn (mode_items spaces.Table x.mode) (held_items x.items) all in
        (table_mode_in x.mode both.0, held_in x.items both.1);
    segments = λ i n at x e.
        let here = reached spaces.Data n (λ e. cc) (kept.only DataSegments i n tt at) in
        memory_mode_in x.mode (names_in (item spaces.Data n) (segment_items x) here (λ y c. has_slot segment_items v.filled.segments n x e y c));
    imports = λ i n at x e. item_in x.item.space x.item.number (kept.imports i n at x e);
    exports = λ i n at x e. item_in x.item.space x.item.number (inl (root (exports n x e)));
    start = started v.filled.start refl;
    declared = each_all (λ n. Kept v keep pushed (item spaces.Function n)) p.declared (λ n. IsIn p Functions n) (λ n h. kept.has Functions n tt h) kept.declared;
  }
    where
      started : (o : Option ℕ) → v.filled.start ≡ o → StartIn p o
      started None e = tt
      started (Some n) e = kept.has Functions n tt (inl (root (starts n e)))

pub kept_closed : KeptIsClosed
kept_closed v keep pushed p a b kept picks bodies = closed v keep pushed p a b kept picks bodies
