-- What is left of a linked module.
use Rattle.std.proofs.Common.{◌≡◌, ◌∙◌, ◌⊎◌, ◌<◌, ◌≤◌, ℕ, Bool, true, false, List, [], ◌∷◌, Option, Some, None, Contains, map, length, refl, sym, ap, subst, inl, inr, arith}
use Rattle.std.specs.Prelude.{IsSome, MatchOption, is_some, slice_get, if◌then◌else◌}
use Rattle.std.specs.List.{flat_map}
use Rattle.std.specs.Option.{option_and_then}
use Rattle.std.proofs.lemmas.Bool.{false≢true, cases_lt}
use Rattle.std.proofs.lemmas.List.Elements.{Contains-append_left, Contains-append_right}
use Rattle.wasm_formats.specs.declared.fault.Space.{Space}
use Rattle.wasm_formats.specs.declared.fault.Space.TheVariants as spaces
use Rattle.walrus_arena.specs.Arena.{item_at}
use Rattle.walrus_items.specs.Items.{Item as TypeItem, Group}
use Rattle.walrus_items.specs.declared.local.Local.{Local}
use Rattle.walrus_types.specs.Table.{type_at}
use Rattle.walrus_types.proofs.DeleteLemmas.{contains-filter}
use Rattle.walrus_forms.specs.Kinds.{kind_names}
use Rattle.walrus_instr.specs.declared.const_expr.ConstExpr.{ConstExpr}
use Rattle.walrus_walks.specs.Events.{Event, NamesLocal, NamesType, NamesFunction, events_of, ref_names, val_names}
use Rattle.walrus_walks.specs.ConstEvents.{expr_names}
use Rattle.walrus_builder.specs.Functions.{seqs_of}
use Rattle.walrus_passes.specs.walrus_refusals.walrus_used.walrus_local_function.declared.local_function.LocalFunction.{LocalFunction}
use Rattle.walrus_passes.specs.walrus_refusals.walrus_used.walrus_module_items.declared.function.Function.{Function}
use Rattle.walrus_passes.specs.walrus_refusals.walrus_used.walrus_module_items.declared.function.FunctionKind.{FunctionKind}
use Rattle.walrus_passes.specs.walrus_refusals.walrus_used.walrus_module_items.declared.function.FunctionKind.TheVariants as functions
use Rattle.walrus_passes.specs.walrus_refusals.walrus_used.walrus_module_items.declared.table.Table.{Table}
use Rattle.walrus_passes.specs.walrus_refusals.walrus_used.walrus_module_items.declared.global.Global.{Global}
use Rattle.walrus_passes.specs.walrus_refusals.walrus_used.walrus_module_items.declared.global.GlobalKind.{GlobalKind}
use Rattle.walrus_passes.specs.walrus_refusals.walrus_used.walrus_module_items.declared.global.GlobalKind.TheVariants as globals
use Rattle.walrus_passes.specs.walrus_refusals.walrus_used.walrus_module_items.declared.tag.Tag.{Tag}
use Rattle.walrus_passes.specs.walrus_refusals.walrus_used.walrus_module_items.declared.data.Data.{Data}
use Rattle.walrus_passes.specs.walrus_refusals.walrus_used.walrus_module_items.declared.data.DataKind.{DataKind}
use Rattle.walrus_passes.specs.walrus_refusals.walrus_used.walrus_module_items.declared.data.DataKind.TheVariants as datas
use Rattle.walrus_passes.specs.walrus_refusals.walrus_used.walrus_module_items.declared.element.Element.{Element}
use Rattle.walrus_passes.specs.walrus_refusals.walrus_used.walrus_module_items.declared.element.ElementKind.{ElementKind}
use Rattle.walrus_passes.specs.walrus_refusals.walrus_used.walrus_module_items.declared.element.ElementKind.TheVariants as elements
use Rattle.walrus_passes.specs.walrus_refusals.walrus_used.walrus_module_items.declared.element.ElementItems.{ElementItems}
use Rattle.walrus_passes.specs.walrus_refusals.walrus_used.walrus_module_items.declared.element.ElementItems.TheVariants as holds
use Rattle.walrus_passes.specs.walrus_refusals.walrus_used.walrus_module_items.Functions.{type_of}
use Rattle.walrus_passes.specs.walrus_refusals.walrus_used.walrus_module.Parts.{Module}
use Rattle.walrus_passes.specs.walrus_refusals.walrus_used.walrus_module.Items.{Lives, LivesIn, written, brought, given_out}
use Rattle.walrus_linked.specs.Linked.{IsLinked, IsWhole, HasArguments, GroupsAreWritten, import_in}
use Rattle.walrus_linked.specs.walrus_item_meaning.Meaning.{table_init}
use Rattle.walrus_linked.specs.Names.{names, names_in, named_by, type_names, function_names, body_names, body_events, used_types, local_names, table_names, init_names, global_names, value_names, tag_names, element_names, element_kind_names, held_names, data_kind_names}
use Rattle.walrus_roots.specs.declared.item.Item.{Item}
use Rattle.walrus_roots.specs.Items.{item, space_number}
use Rattle.walrus_marks.specs.Chains.{root, refers}
use Rattle.walrus_marks.specs.Named.{event_items, items_of}
use Rattle.walrus_passes.specs.walrus_refusals.walrus_used.walrus_references.References.{type_items, function_items, table_items, init_items, global_items, value_items, tag_items, element_items, place_items, held_items, data_items, local_items, KindNames, named_by as referred_by}
use Rattle.walrus_passes.specs.walrus_refusals.walrus_used.walrus_references.Roots.{Root, exports, starts}
use Rattle.walrus_passes.specs.walrus_refusals.walrus_used.walrus_references.Kept.{IsReached, Kept}
use Rattle.walrus_passes.proofs.walrus_used.LooksLemmas.{none_in, first_in, cases_in}
use Rattle.walrus_passes.specs.Part.{IsKeptPart}
use Rattle.walrus_pass_laws.specs.LinkedKept.{GcKeepsLinked}
use Rattle.walrus_pass_laws.proofs.BodyLemmas.{entry_alone, walk_named, split}
use Rattle.walrus_pass_laws.proofs.TwiceLemmas.{functions_same, tables_same, memories_same, tags_same, globals_same, elements_same, data_same, locals_same, exports_same, start_same, was_kept, lives_on, import_same, has_body}

-- ---- what a walk names is referred to
pub types_told : (ns : List ℕ) → items_of (map (λ n. NamesType n) ns) ≡ map (item spaces.Type) ns
types_told [] = refl
types_told (n ∷ ns) = ap (λ (xs : List Item). item spaces.Type n ∷ xs) (types_told ns)

pub functions_told : (ns : List ℕ) → items_of (map (λ n. NamesFunction n) ns) ≡ map (item spaces.Function) ns
functions_told [] = refl
functions_told (n ∷ ns) = ap (λ (xs : List Item). item spaces.Function n ∷ xs) (functions_told ns)

exprs_told : (es : List ConstExpr) (y : Item) → Contains (items_of (events_of expr_names es)) y → Contains (flat_map (λ e. items_of (expr_names e)) es) y
exprs_told [] y c = c
exprs_told (e ∷ es) y c = elim (split (expr_names e) (events_of expr_names es) y c) as (λ _. Contains (flat_map (λ e. items_of (expr_names e)) (e ∷ es)) y) [
  | inl l ↦ Contains-append_left (items_of (expr_names e)) (flat_map (λ e. items_of (expr_names e)) es) y l
  | inr r ↦ Contains-append_right (items_of (expr_names e)) (flat_map (λ e. items_of (expr_names e)) es) y (exprs_told es y r)
]

by_entry : (e : Bool) (ty : TypeItem) (y : Item) → IsSome (if e then None else Some ty) → Contains (type_items ty) y → Contains (referred_by type_items (if e then None else Some ty)) y
by_entry true ty y some c = absurd (false≢true some)
by_entry false ty y some c = c

type_told : (o : Option TypeItem) (y : Item) → IsSome (written o) → Contains (items_of (named_by type_names o)) y → Contains (referred_by type_items (written o)) y
type_told None y some c = absurd (false≢true some)
type_told (Some ty) y some c = by_entry ty.kind.entry ty y some (subst (λ (xs : List Item). Contains xs y) (types_told (kind_names ty.kind)) c)

init_told : (o : Option ConstExpr) (y : Item) → Contains (items_of (init_names o)) y → Contains (init_items o) y
init_told None y c = c
init_told (Some e) y c = c

table_told : (o : Option Table) (y : Item) → Contains (items_of (named_by table_names o)) y → Contains (referred_by table_items o) y
table_told None y c = c
table_told (Some t) y c = elim (split (ref_names t.element_ty) (init_names (table_init t)) y c) as (λ _. Contains (table_items t) y) [
  | inl l ↦ Contains-append_left (items_of (ref_names t.element_ty)) (init_items (table_init t)) y l
  | inr r ↦ Contains-append_right (items_of (ref_names t.element_ty)) (init_items (table_init t)) y (init_told (table_init t) y r)
]

value_told : (k : GlobalKind) (y : Item) → Contains (items_of (value_names k)) y → Contains (value_items k) y
value_told (globals.Import i) y c = c
value_told (globals.Local e) y c = c

global_told : (o : Option Global) (y : Item) → Contains (items_of (named_by global_names o)) y → Contains (referred_by global_items o) y
global_told None y c = c
global_told (Some g) y c = elim (split (val_names g.ty) (value_names g.kind) y c) as (λ _. Contains (global_items g) y) [
  | inl l ↦ Contains-append_left (items_of (val_names g.ty)) (value_items g.kind) y l
  | inr r ↦ Contains-append_right (items_of (val_names g.ty)) (value_items g.kind) y (value_told g.kind y r)
]

tag_told : (o : Option Tag) (y : Item) → Contains (items_of (named_by tag_names o)) y → Contains (referred_by tag_items o) y
tag_told None y c = c
tag_told (Some t) y c = c

place_told : (k : ElementKind) (y : Item) → Contains (items_of (element_kind_names k)) y → Contains (place_items k) y
place_told (elements.Active t e) y c = c
place_told elements.Passive y c = c
place_told elements.Declared y c = c

held_told : (k : ElementItems) (y : Item) → Contains (items_of (held_names k)) y → Contains (held_items k) y
held_told (holds.Functions fs) y c = subst (λ (xs : List Item). Contains xs y) (functions_told fs.items) c
held_told (holds.Expressions ty es) y c = elim (split (ref_names ty) (events_of expr_names es.items) y c) as (λ _. Contains (held_items (holds.Expressions ty es)) y) [
  | inl l ↦ Contains-append_left (items_of (ref_names ty)) (flat_map (λ e. items_of (expr_names e)) es.items) y l
  | inr r ↦ Contains-append_right (items_of (ref_names ty)) (flat_map (λ e. items_of (expr_names e)) es.items) y (exprs_told es.items y r)
]

element_told : (o : Option Element) (y : Item) → Contains (items_of (named_by element_names o)) y → Contains (referred_by element_items o) y
element_told None y c = c
element_told (Some e) y c = elim (split (element_kind_names e.kind) (held_names e.items) y c) as (λ _. Contains (element_items e) y) [
  | inl l ↦ Contains-append_left (place_items e.kind) (held_items e.items) y (place_told e.kind y l)
  | inr r ↦ Contains-append_right (place_items e.kind) (held_items e.items) y (held_told e.items y r)
]

data_kind_told : (k : DataKind) (y : Item) → Contains (items_of (data_kind_names k)) y → Contains (data_items k) y
data_kind_told (datas.Active x e) y c = c
data_kind_told datas.Passive y c = c

data_told : (o : Option Data) (y : Item) → Contains (items_of (named_by (λ d. data_kind_names d.kind) o)) y → Contains (referred_by (λ d. data_items d.kind) o) y
data_told None y c = c
data_told (Some d) y c = data_kind_told d.kind y c

-- ---- used locals
local_told : (o : Option Local) (y : Item) → Contains (items_of (local_names o)) y → Contains (referred_by local_items o) y
local_told None y c = c
local_told (Some l) y c = c

one_used : (locals : List Local) (e : Event) (y : Item) → Contains (items_of (used_types locals e)) y → (id : ℕ) × Contains (event_items e) (item spaces.Local id) × Contains (referred_by local_items (slice_get locals id)) y
one_used locals (NamesLocal id) y c = (id, first_in (item spaces.Local id) [], local_told (slice_get locals id) y c)
one_used locals _ y c = absurd (none_in y c)

used_told : (locals : List Local) (es : List Event) (y : Item) → Contains (items_of (events_of (used_types locals) es)) y → (id : ℕ) × Contains (items_of es) (item spaces.Local id) × Contains (referred_by local_items (slice_get locals id)) y
used_told locals [] y c = absurd (none_in y c)
used_told locals (e ∷ es) y c = elim (split (used_types locals e) (events_of (used_types locals) es) y c) as (λ _. (id : ℕ) × Contains (items_of (e ∷ es)) (item spaces.Local id) × Contains (referred_by local_items (slice_get locals id)) y) [
  | inl l ↦ (let h = one_used locals e y l in (h.0, Contains-append_left (event_items e) (items_of es) (item spaces.Local h.0) h.1, h.2))
  | inr r ↦ (let h = used_told locals es y r in (h.0, Contains-append_right (event_items e) (items_of es) (item spaces.Local h.0) h.1, h.2))
]

module _ (m : Module) (pushed : List Item) (linked : IsLinked m) where
  kind_told : (id : ℕ) (kind : FunctionKind) → IsWhole m.types kind → IsReached m pushed (item spaces.Function id) → ((z : Item) → KindNames kind z → IsReached m pushed z) → (y : Item) → Contains (items_of (body_names m.locals kind)) y → IsReached m pushed y
  kind_told id (functions.Import i) whole r on y c = absurd (none_in y c)
  kind_told id (functions.Uninitialized t) whole r on y c = absurd (none_in y c)
  kind_told id (functions.Local local) whole r on y c =
      let b = seqs_of local.builder in
      let tree = whole.1 in
      let walked : (z : Item) → Contains (items_of (body_events local)) z → IsReached m pushed z = λ z d. on z (walk_named b (entry_alone b tree) tree.stands.1 tree.stands.2 z d) in
      elim (split (body_events local) (events_of (used_types m.locals) (body_events local)) y c) as (λ _. IsReached m pushed y) [
        | inl l ↦ walked y l
        | inr u ↦ (let h = used_told m.locals (body_events local) y u in refers (walked (item spaces.Local h.0) h.1) h.2)
      ]

  function_told : (id : ℕ) (o : Option Function) → item_at m.funcs id ≡ o → IsReached m pushed (item spaces.Function id) → (y : Item) → Contains (items_of (named_by (function_names m.locals) o)) y → IsReached m pushed y
  function_told id None at r y c = absurd (none_in y c)
  function_told id (Some f) at r y c =
      let named : (z : Item) → Contains (function_items f) z ⊎ KindNames f.kind z → IsReached m pushed z =
      λ z h. refers r (subst (λ (o : Option Function). Contains (referred_by function_items o) z ⊎ MatchOption o ⊥ (λ g. KindNames g.kind z)) (sym at) h) in
      elim (cases_in (item spaces.Type (type_of f.kind)) (items_of (body_names m.locals f.kind)) y c) as (λ _. IsReached m pushed y) [
        | inl e ↦ named y (inl (subst (λ z. Contains (function_items f) z) e (first_in (item spaces.Type (type_of f.kind)) [])))
        | inr d ↦ kind_told id f.kind (linked.whole id f at) r (λ z k. named z (inr k)) y d
      ]

  names_reached : (space : Space) (id : ℕ) (y : Item) → LivesIn m space id → IsReached m pushed (item space id) → Contains (items_of (names_in m space id)) y → IsReached m pushed y
  names_reached spaces.Type id y live r c = refers r (inl (type_told (type_at m.types id) y live c))
  names_reached spaces.Function id y live r c = function_told id (item_at m.funcs id) refl r y c
  names_reached spaces.Table id y live r c = refers r (inl (table_told (item_at m.tables id) y c))
  names_reached spaces.Memory id y live r c = absurd (none_in y c)
  names_reached spaces.Tag id y live r c = refers r (tag_told (item_at m.tags id) y c)
  names_reached spaces.Global id y live r c = refers r (global_told (item_at m.globals id) y c)
  names_reached spaces.Element id y live r c = refers r (element_told (item_at m.elements id) y c)
  names_reached spaces.Data id y live r c = refers r (data_told (item_at m.data_segments id) y c)
  names_reached spaces.Local id y live r c = absurd (none_in y c)
  names_reached spaces.Label id y live r c = absurd (none_in y c)

  names_kept : (x y : Item) → Lives m x → Kept m pushed x → Contains (names m x) y → Kept m pushed y
  names_kept x y live k c = elim k as (λ _. Kept m pushed y) [
    | inl r ↦ inl (names_reached x.space x.id y live r c)
    | inr p ↦ absurd (none_in y (subst (λ z. Contains (names m z) y) p.is c))
  ]

  module _ (n : Module) (part : IsKeptPart m pushed n) where
    names_same : (space : Space) (id : ℕ) → Kept m pushed (item space id) → names_in n space id ≡ names_in m space id
    names_same spaces.Type id k = ap (named_by type_names) (part.types.each id k)
    names_same spaces.Function id k = ap (λ ls. named_by (function_names ls) (item_at n.funcs id)) (locals_same m n pushed part) ∙ ap (named_by (function_names m.locals)) (functions_same m n pushed part id k)
    names_same spaces.Table id k = ap (named_by table_names) (tables_same m n pushed part id k)
    names_same spaces.Memory id k = refl
    names_same spaces.Tag id k = ap (named_by tag_names) (tags_same m n pushed part id k)
    names_same spaces.Global id k = ap (named_by global_names) (globals_same m n pushed part id k)
    names_same spaces.Element id k = ap (named_by element_names) (elements_same m n pushed part id k)
    names_same spaces.Data id k = ap (named_by (λ (d : Data). data_kind_names d.kind)) (data_same m n pushed part id k)
    names_same spaces.Local id k = refl
    names_same spaces.Label id k = refl

    -- a kept item lives, and what it names lives still
    kept_on : (x y : Item) → Kept m pushed x → Lives m x → Contains (names n x) y → Lives n y
    kept_on x y k live c =
        let before : Contains (names m x) y = subst (λ (es : List Event). Contains (items_of es) y) (names_same x.space x.id k) c in
        lives_on m n pushed part y.space y.id (names_kept x y live k before) (linked.named x y live before)

    was_live : (space : Space) (id : ℕ) → Kept m pushed (item space id) → LivesIn n space id → LivesIn m space id
    was_live spaces.Type id k h = subst (λ (o : Option TypeItem). IsSome (written o)) (part.types.each id k) h
    was_live spaces.Function id k h = subst IsSome (functions_same m n pushed part id k) h
    was_live spaces.Table id k h = subst IsSome (tables_same m n pushed part id k) h
    was_live spaces.Memory id k h = subst IsSome (memories_same m n pushed part id k) h
    was_live spaces.Tag id k h = subst IsSome (tags_same m n pushed part id k) h
    was_live spaces.Global id k h = subst IsSome (globals_same m n pushed part id k) h
    was_live spaces.Element id k h = subst IsSome (elements_same m n pushed part id k) h
    was_live spaces.Data id k h = subst IsSome (data_same m n pushed part id k) h
    was_live spaces.Local id k h = subst (λ (ls : List Local). id < length ls) (locals_same m n pushed part) h
    was_live spaces.Label id k h = h

    high_none : (space : Space) (id : ℕ) → 8 ≤ space_number space → names_in n space id ≡ []
    high_none spaces.Type id high = absurd (omega (arith, high))
    high_none spaces.Function id high = absurd (omega (arith, high))
    high_none spaces.Table id high = absurd (omega (arith, high))
    high_none spaces.Memory id high = absurd (omega (arith, high))
    high_none spaces.Tag id high = absurd (omega (arith, high))
    high_none spaces.Global id high = absurd (omega (arith, high))
    high_none spaces.Element id high = absurd (omega (arith, high))
    high_none spaces.Data id high = absurd (omega (arith, high))
    high_none spaces.Local id high = refl
    high_none spaces.Label id high = refl

    named_on : (space : Space) (id : ℕ) (y : Item) → LivesIn n space id → Contains (items_of (names_in n space id)) y → Lives n y
    named_on space id y live c = elim (cases_lt (space_number space) 8) as (λ _. Lives n y) [
      | inl low ↦ (let k = was_kept m n pushed part space id low live in kept_on (item space id) y k (was_live space id k live) c)
      | inr high ↦ absurd (none_in y (subst (λ (es : List Event). Contains (items_of es) y) (high_none space id high) c))
    ]

    some_import : {A : Type 0} (f : A → Option ℕ) (o : Option A) (i : ℕ) → option_and_then f o ≡ Some i → IsSome o
    some_import f None i h = (let e : None ≡ Some i = h in absurd cc)
    some_import f (Some x) i h = refl

    none_some : {A : Type 0} (i : ℕ) → None ≡ Some i → A
    none_some i e = absurd cc

    with_import : (space : Space) (id i : ℕ) → import_in n space id ≡ Some i → Kept m pushed (item space id)
    with_import spaces.Type id i h = none_some i h
    with_import spaces.Function id i h = was_kept m n pushed part spaces.Function id (omega arith) (some_import _ (item_at n.funcs id) i h)
    with_import spaces.Table id i h = was_kept m n pushed part spaces.Table id (omega arith) (some_import _ (item_at n.tables id) i h)
    with_import spaces.Memory id i h = was_kept m n pushed part spaces.Memory id (omega arith) (some_import _ (item_at n.memories id) i h)
    with_import spaces.Tag id i h = was_kept m n pushed part spaces.Tag id (omega arith) (some_import _ (item_at n.tags id) i h)
    with_import spaces.Global id i h = was_kept m n pushed part spaces.Global id (omega arith) (some_import _ (item_at n.globals id) i h)
    with_import spaces.Element id i h = none_some i h
    with_import spaces.Data id i h = none_some i h
    with_import spaces.Local id i h = none_some i h
    with_import spaces.Label id i h = none_some i h

    arguments_on : (local : LocalFunction) → Kept m pushed (item spaces.Type local.builder.ty) → HasArguments m.types local → HasArguments n.types local
    arguments_on local k h = has_body m n pushed part (functions.Local local) k h

    whole_on : (kind : FunctionKind) → Kept m pushed (item spaces.Type (type_of kind)) → IsWhole m.types kind → IsWhole n.types kind
    whole_on (functions.Import i) k h = h
    whole_on (functions.Local local) k h = (arguments_on local k h.0, h.1)
    whole_on (functions.Uninitialized t) k h = h

    type_kept : (id : ℕ) (f : Function) → item_at m.funcs id ≡ Some f → Kept m pushed (item spaces.Function id) → Kept m pushed (item spaces.Type (type_of f.kind))
    type_kept id f at k = names_kept (item spaces.Function id) (item spaces.Type (type_of f.kind)) (subst IsSome (sym at) refl) k
        (subst (λ (o : Option Function). Contains (items_of (named_by (function_names m.locals) o)) (item spaces.Type (type_of f.kind))) (sym at) (first_in (item spaces.Type (type_of f.kind)) (items_of (body_names m.locals f.kind))))

    root_on : (x : Item) → Root m pushed x → Lives m x → Lives n x
    root_on x r live = lives_on m n pushed part x.space x.id (inl (root r)) live

    some_type : (o : Option TypeItem) → is_some o ≡ true → (ty : TypeItem) × (o ≡ Some ty)
    some_type None h = absurd (false≢true h)
    some_type (Some ty) h = (ty, refl)

    -- the members of a group are those that live of one that stood in its place
    grouped_on : GroupsAreWritten n.types
    grouped_on place group at ex id c =
        let was = part.types.left place group at in
        let kept = contains-filter (λ k. is_some (type_at n.types k)) was.0.types id (subst (λ (g : Group). Contains g.types id) was.2 c) in
        let there = some_type (type_at n.types id) kept.1 in
        subst (λ (o : Option TypeItem). IsSome (written o)) (part.types.only id there.0 there.1 ∙ sym there.1) (linked.grouped place was.0 was.1 (ap (λ (g : Group). g.explicit) (sym was.2) ∙ ex) id kept.0)

    pub linked_on : IsLinked n
    linked_on = record {
      imports = λ i import at.
          let before = part.imports.only i import at in
          let kept = part.imports.stay i import tt at in
          import_same m n pushed part (brought import.kind).space (brought import.kind).id kept ∙ linked.imports i import before;
      imported = λ x i is.
          let kept = with_import x.space x.id i is in
          let before = linked.imported x i (sym (import_same m n pushed part x.space x.id kept) ∙ is) in
          (before.0, part.imports.each i before.0 before.1 (subst (Kept m pushed) (sym before.2) kept), before.2);
      whole = λ f function at.
          let before = part.funcs.only f function at in
          whole_on function.kind (type_kept f function before (part.funcs.stay f function tt at)) (linked.whole f function before);
      named = λ x y live c. named_on x.space x.id y live c;
      grouped = grouped_on;
      exported = λ e export at.
          let before : item_at m.exports e ≡ Some export = ap (λ a. item_at a e) (sym (exports_same m n pushed part)) ∙ at in
          root_on (given_out export.item) (exports e export before) (linked.exported e export before);
      started = λ f is.
          let before : m.start ≡ Some f = sym (start_same m n pushed part) ∙ is in
          root_on (item spaces.Function f) (starts f before) (linked.started f before);
    }

pub keeps_linked : GcKeepsLinked
keeps_linked m n pushed linked part = linked_on m pushed linked n part
