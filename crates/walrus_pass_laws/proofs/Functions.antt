-- What functions name, locals through their types.
use Rattle.std.proofs.Common.{◌≡◌, ◌∙◌, ◌⊎◌, ◌<◌, ℕ, List, [], ◌∷◌, ◌++◌, map, Option, Some, None, Contains, refl, sym, ap, subst, inl, inr, arith, append-nil}
use Rattle.std.specs.Prelude.{MatchOption, slice_get}
use Rattle.std.specs.List.{flat_map}
use Rattle.std.specs.Option.{option_map}
use Rattle.std.proofs.lemmas.List.Elements.{filter_map-append}
use Rattle.wasm_references.specs.wasm_formats.declared.fault.Space.{Space}
use Rattle.wasm_references.specs.wasm_formats.declared.fault.Space.TheVariants as spaces
use Rattle.wasm_references.specs.wasm_grammar.Modules as grammar
use Rattle.wasm_references.specs.wasm_operators.Items as immediates
use Rattle.wasm_references.specs.wasm_operators.Names.{Name, operator_names, block_names}
use Rattle.wasm_references.specs.References as abstract
use Rattle.walrus_meaning.specs.Told.{told as told_name, told_all}
use Rattle.walrus_walks.specs.walrus_forms.declared.value.ValType.{ValType}
use Rattle.walrus_items.specs.declared.local.Local.{Local}
use Rattle.walrus_walks.specs.walrus_types.Table.{Table as TypeTable}
use Rattle.walrus_walks.specs.walrus_instr.declared.seq.InstrSeq.{InstrSeq}
use Rattle.walrus_walks.specs.Events.{Event, StartOf, EndOf, Visits, NamesSeq, NamesLocal, NamesMemory, NamesTable, NamesGlobal, NamesFunction, NamesData, NamesType, NamesElement, NamesTag, Holds}
use Rattle.walrus_walks.specs.Plain.{HeldAreNested, WalkIsPlain}
use Rattle.walrus_walks.specs.Walk.{body_walk}
use Rattle.walrus_tree.specs.Text.{operators}
use Rattle.walrus_tree.specs.TextLaws.{TreesAreNested}
use Rattle.walrus_tree.specs.Trees.{IsTree}
use Rattle.walrus_passes.specs.walrus_refusals.walrus_used.walrus_references.walrus_builder.Functions.{seqs_of}
use Rattle.walrus_marks.specs.Named.{event_items, items_of}
use Rattle.walrus_passes.specs.walrus_refusals.walrus_used.walrus_references.walrus_module_items.declared.function.Function.{Function}
use Rattle.walrus_passes.specs.walrus_refusals.walrus_used.walrus_references.walrus_module_items.declared.function.FunctionKind.{FunctionKind}
use Rattle.walrus_passes.specs.walrus_refusals.walrus_used.walrus_references.walrus_module_items.declared.function.FunctionKind.TheVariants as functions
use Rattle.walrus_passes.specs.walrus_refusals.walrus_used.walrus_references.walrus_module_items.Functions.{type_of}
use Rattle.walrus_roots.specs.declared.item.Item.{Item}
use Rattle.walrus_roots.specs.Items.{item, space_number}
use Rattle.walrus_meaning.specs.walrus_linked.Linked.{IsWhole}
use Rattle.walrus_passes.specs.walrus_refusals.walrus_used.walrus_references.References.{BodyNames, KindNames, function_items, local_items, named_by}
use Rattle.walrus_pass_laws.proofs.BodyLemmas.{entry_alone, walk_named}
use Rattle.walrus_pass_laws.proofs.WalkLemmas.{body_told}
use Rattle.walrus_meaning.specs.Bodies.{own_piece}
use Rattle.walrus_meaning.specs.Meaning.{own_function, own_origin}
use Rattle.walrus_pass_laws.specs.Instrs.{of_items as kept_name, unlabelled}
use Rattle.walrus_pass_laws.specs.Items.{own_item, own_items}
use Rattle.walrus_pass_laws.specs.Bodies.{parts_of, body_names, BodiesNameWhatIsTold}
use Rattle.walrus_pass_laws.specs.Locals.{type_of_local}
use Rattle.walrus_pass_laws.specs.Meant.{kind_parts, function_parts}
use Rattle.walrus_pass_laws.proofs.Items.{val_meant}
use Rattle.walrus_pass_laws.proofs.Low.{low_at}
use Rattle.walrus_pass_laws.proofs.Owned.{item_of, owned_forth, owned_back}
use Rattle.walrus_pass_laws.proofs.Sets.{In, in_of, contains_of, in_left, in_right, in_cases, Same, same_of, same_eq, same_trans, same_flat, flat_append, flat_of_flat, flat_same}

-- ---- what is told, and the items of it

-- what is told stands for these items
abbrev pub out : (ℕ → Option ValType) → List Event → List grammar.Item
out locals es = abstract.names_items locals (told_all es)

names_append : (locals : ℕ → Option ValType) (xs ys : List Name) → abstract.names_items locals (xs ++ ys) ≡ abstract.names_items locals xs ++ abstract.names_items locals ys
names_append locals xs ys = flat_append (λ (n : Name). abstract.name_items locals n.0 n.1) xs ys

out_append : (locals : ℕ → Option ValType) (es fs : List Event) → out locals (es ++ fs) ≡ out locals es ++ out locals fs
out_append locals es fs = ap (abstract.names_items locals) (filter_map-append told_name es fs) ∙ names_append locals (told_all es) (told_all fs)

-- labels stand for none
quiet : (locals : ℕ → Option ValType) (s : immediates.Space) (n : ℕ) → abstract.names_items locals (kept_name s n) ≡ abstract.name_items locals s n
quiet locals immediates.Labels n = refl
quiet locals s n = append-nil (abstract.name_items locals s n)

quiet_all : (locals : ℕ → Option ValType) (ns : List Name) → abstract.names_items locals (unlabelled ns) ≡ abstract.names_items locals ns
quiet_all locals ns = flat_of_flat (λ (n : Name). abstract.name_items locals n.0 n.1) (λ (n : Name). kept_name n.0 n.1) ns ∙ flat_same (λ (n : Name). abstract.names_items locals (kept_name n.0 n.1)) (λ (n : Name). abstract.name_items locals n.0 n.1) (λ (n : Name). quiet locals n.0 n.1) ns

body_are : (locals : ℕ → Option ValType) (b : List InstrSeq) → abstract.names_items locals (body_names b) ≡ abstract.body_items locals (map (own_piece b) (operators b 0)) (parts_of b)
body_are locals b =
    let one = λ (n : Name). abstract.name_items locals n.0 n.1 in
    let ops = map (own_piece b) (operators b 0) in
    let names = flat_map (λ (o : grammar.Placed). operator_names o.op) ops in
    names_append locals names (flat_map block_names (parts_of b))
    ∙ ap (λ (l : List grammar.Item). l ++ abstract.names_items locals (flat_map block_names (parts_of b))) (flat_of_flat one (λ (o : grammar.Placed). operator_names o.op) ops)
    ∙ ap (λ (l : List grammar.Item). flat_map (λ (o : grammar.Placed). abstract.names_items locals (operator_names o.op)) ops ++ l) (flat_of_flat one block_names (parts_of b))

-- what is told of a body stands for what is meant
body_same : (locals : ℕ → Option ValType) (b : List InstrSeq) → Same (unlabelled (body_names b)) (unlabelled (told_all (body_walk b 0)))
    → Same (abstract.body_items locals (map (own_piece b) (operators b 0)) (parts_of b)) (out locals (body_walk b 0))
body_same locals b s =
    same_trans _ _ _ (same_eq _ _ (sym (body_are locals b) ∙ sym (quiet_all locals (body_names b)))) (
    same_trans _ _ _ (same_flat (λ (n : Name). abstract.name_items locals n.0 n.1) (unlabelled (body_names b)) (unlabelled (told_all (body_walk b 0))) s) (
    same_eq _ _ (quiet_all locals (told_all (body_walk b 0)))
    )
    )

one_owned : (x y : Item) → In (x ∷ []) y → In (own_item x ∷ []) (own_item y)
one_owned x y (inl e) = inl (ap own_item e)
one_owned x y (inr h) = absurd h

one_back : (x : Item) (z : grammar.Item) → In (own_item x ∷ []) z → In (x ∷ []) (item_of z)
one_back x z (inl e) = inl (ap item_of e)
one_back x z (inr h) = absurd h

no_local : (s : Space) (k id : ℕ) → space_number s < 8 → In (item s k ∷ []) (item spaces.Local id) → ⊥
no_local s k id below (inl e) = low_at s below (ap (λ (x : Item). x.space) e)
no_local s k id below (inr h) = h

module _ (locals : ℕ → Option ValType) where
  -- the items that an event names are told, but for locals, whose types are
  event_forth : (e : Event) (y : Item) → (y.space ≡ spaces.Local → ⊥) → In (event_items e) y → In (out locals (e ∷ [])) (own_item y)
  event_forth (NamesType id) y shared h = one_owned (item spaces.«Type» id) y h
  event_forth (NamesFunction id) y shared h = one_owned (item spaces.Function id) y h
  event_forth (NamesTable id) y shared h = one_owned (item spaces.Table id) y h
  event_forth (NamesMemory id) y shared h = one_owned (item spaces.Memory id) y h
  event_forth (NamesTag id) y shared h = one_owned (item spaces.Tag id) y h
  event_forth (NamesGlobal id) y shared h = one_owned (item spaces.Global id) y h
  event_forth (NamesElement id) y shared h = one_owned (item spaces.Element id) y h
  event_forth (NamesData id) y shared h = one_owned (item spaces.Data id) y h
  event_forth (NamesLocal id) y shared (inl e) = absurd (shared (sym (ap (λ (x : Item). x.space) e)))
  event_forth (NamesLocal id) y shared (inr h) = absurd h
  event_forth (StartOf s) y shared h = absurd h
  event_forth (EndOf s) y shared h = absurd h
  event_forth (Visits i place) y shared h = absurd h
  event_forth (NamesSeq id) y shared h = absurd h
  event_forth (Holds value) y shared h = absurd h

  event_through : (e : Event) (id : ℕ) (z : grammar.Item) → In (event_items e) (item spaces.Local id) → In (abstract.local_items (locals id)) z → In (out locals (e ∷ [])) z
  event_through (NamesType k) id z h c = absurd (no_local spaces.«Type» k id (omega arith) h)
  event_through (NamesFunction k) id z h c = absurd (no_local spaces.Function k id (omega arith) h)
  event_through (NamesTable k) id z h c = absurd (no_local spaces.Table k id (omega arith) h)
  event_through (NamesMemory k) id z h c = absurd (no_local spaces.Memory k id (omega arith) h)
  event_through (NamesTag k) id z h c = absurd (no_local spaces.Tag k id (omega arith) h)
  event_through (NamesGlobal k) id z h c = absurd (no_local spaces.Global k id (omega arith) h)
  event_through (NamesElement k) id z h c = absurd (no_local spaces.Element k id (omega arith) h)
  event_through (NamesData k) id z h c = absurd (no_local spaces.Data k id (omega arith) h)
  event_through (NamesLocal k) id z (inl e) c = in_left (abstract.local_items (locals k)) [] z (subst (λ j. In (abstract.local_items (locals j)) z) (sym (ap (λ (x : Item). x.id) e)) c)
  event_through (NamesLocal k) id z (inr h) c = absurd h
  event_through (StartOf s) k z h c = absurd h
  event_through (EndOf s) k z h c = absurd h
  event_through (Visits i place) k z h c = absurd h
  event_through (NamesSeq id) k z h c = absurd h
  event_through (Holds value) k z h c = absurd h

  -- what is told stands for an item that the events name, or for the type of a local
  pub data Stands (items : List Item) (z : grammar.Item) : Type 0 where
    itself : In items (item_of z) → Stands items z
    through : (id : ℕ) → In items (item spaces.Local id) → In (abstract.local_items (locals id)) z → Stands items z

  event_back : (e : Event) (z : grammar.Item) → In (out locals (e ∷ [])) z → Stands (event_items e) z
  event_back (NamesType id) z h = itself (one_back (item spaces.«Type» id) z h)
  event_back (NamesFunction id) z h = itself (one_back (item spaces.Function id) z h)
  event_back (NamesTable id) z h = itself (one_back (item spaces.Table id) z h)
  event_back (NamesMemory id) z h = itself (one_back (item spaces.Memory id) z h)
  event_back (NamesTag id) z h = itself (one_back (item spaces.Tag id) z h)
  event_back (NamesGlobal id) z h = itself (one_back (item spaces.Global id) z h)
  event_back (NamesElement id) z h = itself (one_back (item spaces.Element id) z h)
  event_back (NamesData id) z h = itself (one_back (item spaces.Data id) z h)
  event_back (NamesLocal id) z h = through id (inl refl) (elim (in_cases (abstract.local_items (locals id)) [] z h) as (λ _. In (abstract.local_items (locals id)) z) [ inl l ↦ l | inr r ↦ absurd r ])
  event_back (StartOf s) z h = absurd h
  event_back (EndOf s) z h = absurd h
  event_back (Visits i place) z h = absurd h
  event_back (NamesSeq id) z h = absurd h
  event_back (Holds value) z h = absurd h

  pub told_forth : (es : List Event) (y : Item) → (y.space ≡ spaces.Local → ⊥) → In (items_of es) y → In (out locals es) (own_item y)
  told_forth [] y shared h = absurd h
  told_forth (e ∷ es) y shared h = subst (λ (l : List grammar.Item). In l (own_item y)) (sym (out_append locals (e ∷ []) es)) (elim (in_cases (event_items e) (items_of es) y h) as (λ _. In (out locals (e ∷ []) ++ out locals es) (own_item y)) [
    | inl l ↦ in_left (out locals (e ∷ [])) (out locals es) (own_item y) (event_forth e y shared l)
    | inr r ↦ in_right (out locals (e ∷ [])) (out locals es) (own_item y) (told_forth es y shared r)
  ])

  pub told_through : (es : List Event) (id : ℕ) (z : grammar.Item) → In (items_of es) (item spaces.Local id) → In (abstract.local_items (locals id)) z → In (out locals es) z
  told_through [] id z h c = absurd h
  told_through (e ∷ es) id z h c = subst (λ (l : List grammar.Item). In l z) (sym (out_append locals (e ∷ []) es)) (elim (in_cases (event_items e) (items_of es) (item spaces.Local id) h) as (λ _. In (out locals (e ∷ []) ++ out locals es) z) [
    | inl l ↦ in_left (out locals (e ∷ [])) (out locals es) z (event_through e id z l c)
    | inr r ↦ in_right (out locals (e ∷ [])) (out locals es) z (told_through es id z r c)
  ])

  more : (xs ys zs : List Item) (z : grammar.Item) → ((y : Item) → In xs y → In (ys ++ zs) y) → Stands xs z → Stands (ys ++ zs) z
  more xs ys zs z on (itself h) = itself (on (item_of z) h)
  more xs ys zs z on (through id h c) = through id (on (item spaces.Local id) h) c

  pub told_back : (es : List Event) (z : grammar.Item) → In (out locals es) z → Stands (items_of es) z
  told_back [] z h = absurd h
  told_back (e ∷ es) z h = elim (in_cases (out locals (e ∷ [])) (out locals es) z (subst (λ (l : List grammar.Item). In l z) (out_append locals (e ∷ []) es) h)) as (λ _. Stands (event_items e ++ items_of es) z) [
    | inl l ↦ more (event_items e) (event_items e) (items_of es) z (λ y. in_left (event_items e) (items_of es) y) (event_back e z l)
    | inr r ↦ more (items_of es) (event_items e) (items_of es) z (λ y. in_right (event_items e) (items_of es) y) (told_back es z r)
  ]

-- ---- the types of locals

local_meant : (o : Option Local) → own_items (named_by local_items o) ≡ abstract.local_items (option_map (λ (l : Local). l.ty) o)
local_meant (Some l) = val_meant l.ty
local_meant None = refl

pub local_forth : (locals : List Local) (id : ℕ) (y : Item) → Contains (named_by local_items (slice_get locals id)) y → In (abstract.local_items (type_of_local locals id)) (own_item y)
local_forth locals id y c = in_of (abstract.local_items (type_of_local locals id)) (own_item y) (owned_forth (named_by local_items (slice_get locals id)) (abstract.local_items (type_of_local locals id)) (local_meant (slice_get locals id)) y c)

pub local_back : (locals : List Local) (id : ℕ) (y : Item) → In (abstract.local_items (type_of_local locals id)) (own_item y) → Contains (named_by local_items (slice_get locals id)) y
local_back locals id y h = owned_back (named_by local_items (slice_get locals id)) (abstract.local_items (type_of_local locals id)) (local_meant (slice_get locals id)) y (contains_of (abstract.local_items (type_of_local locals id)) (own_item y) h)

-- ---- bodies and functions

abbrev pub meant_items : List Local → Option Function → List grammar.Item
meant_items locals o = abstract.named_by (abstract.function_items (type_of_local locals) (function_parts o)) (option_map (own_function locals) o)

module _ (plain : WalkIsPlain) (nested : HeldAreNested) (trees : TreesAreNested) (told : BodiesNameWhatIsTold) (types : TypeTable) (locals : List Local) where
  abbrev body_of : List InstrSeq → List grammar.Item
  body_of b = abstract.body_items (type_of_local locals) (map (own_piece b) (operators b 0)) (parts_of b)

  module _ (b : List InstrSeq) (tree : IsTree b 0) where
    same : Same (body_of b) (out (type_of_local locals) (body_walk b 0))
    same = body_same (type_of_local locals) b (same_of _ _ (told b tree))

    walked : (y : Item) → BodyNames b y → In (items_of (body_walk b 0)) y
    walked y h = in_of (items_of (body_walk b 0)) y (body_told plain nested b tree.stands.1 tree.stands.2 (trees b 0 tree) y h)

    named : (y : Item) → In (items_of (body_walk b 0)) y → BodyNames b y
    named y h = walk_named b (entry_alone b tree) tree.stands.1 tree.stands.2 y (contains_of (items_of (body_walk b 0)) y h)

    body_forth : (y : Item) → (y.space ≡ spaces.Local → ⊥) → BodyNames b y → In (body_of b) (own_item y)
    body_forth y shared h = (same (own_item y)).1 (told_forth (type_of_local locals) (body_walk b 0) y shared (walked y h))

    body_through : (id : ℕ) (y : Item) → BodyNames b (item spaces.Local id) → Contains (named_by local_items (slice_get locals id)) y → In (body_of b) (own_item y)
    body_through id y h c = (same (own_item y)).1 (told_through (type_of_local locals) (body_walk b 0) id (own_item y) (walked (item spaces.Local id) h) (local_forth locals id y c))

    body_back : (y : Item) → In (body_of b) (own_item y) → BodyNames b y ⊎ ((id : ℕ) × BodyNames b (item spaces.Local id) × Contains (named_by local_items (slice_get locals id)) y)
    body_back y h = by_told (told_back (type_of_local locals) (body_walk b 0) (own_item y) ((same (own_item y)).0 h))
      where
        by_told : Stands (type_of_local locals) (items_of (body_walk b 0)) (own_item y) → BodyNames b y ⊎ ((id : ℕ) × BodyNames b (item spaces.Local id) × Contains (named_by local_items (slice_get locals id)) y)
        by_told (itself d) = inl (named y d)
        by_told (through id d c) = inr (id, named (item spaces.Local id) d, local_back locals id y c)

  abbrev kind_items : FunctionKind → List grammar.Item
  kind_items kind = abstract.origin_items (λ (b : grammar.Body). abstract.body_items (type_of_local locals) b.operators (kind_parts kind)) (own_origin locals kind)

  kind_forth : (kind : FunctionKind) → IsWhole types kind → (y : Item) → (y.space ≡ spaces.Local → ⊥) → KindNames kind y → In (kind_items kind) (own_item y)
  kind_forth (functions.Import i) whole y shared h = absurd h
  kind_forth (functions.Uninitialized ty) whole y shared h = absurd h
  kind_forth (functions.Local local) whole y shared h = body_forth (seqs_of local.builder) whole.1 y shared h

  kind_through : (kind : FunctionKind) → IsWhole types kind → (id : ℕ) (y : Item) → KindNames kind (item spaces.Local id) → Contains (named_by local_items (slice_get locals id)) y → In (kind_items kind) (own_item y)
  kind_through (functions.Import i) whole id y h c = absurd h
  kind_through (functions.Uninitialized ty) whole id y h c = absurd h
  kind_through (functions.Local local) whole id y h c = body_through (seqs_of local.builder) whole.1 id y h c

  kind_back : (kind : FunctionKind) → IsWhole types kind → (y : Item) → In (kind_items kind) (own_item y)
      → KindNames kind y ⊎ ((id : ℕ) × KindNames kind (item spaces.Local id) × Contains (named_by local_items (slice_get locals id)) y)
  kind_back (functions.Import i) whole y h = absurd h
  kind_back (functions.Uninitialized ty) whole y h = absurd whole
  kind_back (functions.Local local) whole y h = body_back (seqs_of local.builder) whole.1 y h

  abbrev pub Names : Option Function → Item → Type 0
  Names o y = Contains (named_by function_items o) y ⊎ MatchOption o ⊥ (λ (f : Function). KindNames f.kind y)

  abbrev pub NamesThrough : Option Function → Item → Type 0
  NamesThrough o y = (id : ℕ) × Names o (item spaces.Local id) × Contains (named_by local_items (slice_get locals id)) y

  abbrev pub AreWhole : Option Function → Type 0
  AreWhole o = (f : Function) → o ≡ Some f → IsWhole types f.kind

  pub function_forth : (o : Option Function) → AreWhole o → (y : Item) → (y.space ≡ spaces.Local → ⊥) → Names o y → Contains (meant_items locals o) (own_item y)
  function_forth None whole y shared (inl c) = absurd (in_of [] y c)
  function_forth None whole y shared (inr h) = absurd h
  function_forth (Some f) whole y shared (inl c) = contains_of (meant_items locals (Some f)) (own_item y) (in_left (abstract.item spaces.«Type» (type_of f.kind) ∷ []) (kind_items f.kind) (own_item y) (one_owned (item spaces.«Type» (type_of f.kind)) y (in_of (function_items f) y c)))
  function_forth (Some f) whole y shared (inr h) = contains_of (meant_items locals (Some f)) (own_item y) (inr (kind_forth f.kind (whole f refl) y shared h))

  pub function_through : (o : Option Function) → AreWhole o → (id : ℕ) (y : Item) → Names o (item spaces.Local id) → Contains (named_by local_items (slice_get locals id)) y → Contains (meant_items locals o) (own_item y)
  function_through None whole id y (inl c) d = absurd (in_of [] (item spaces.Local id) c)
  function_through None whole id y (inr h) d = absurd h
  function_through (Some f) whole id y (inl c) d = absurd (no_local spaces.«Type» (type_of f.kind) id (omega arith) (in_of (function_items f) (item spaces.Local id) c))
  function_through (Some f) whole id y (inr h) d = contains_of (meant_items locals (Some f)) (own_item y) (inr (kind_through f.kind (whole f refl) id y h d))

  pub function_back : (o : Option Function) → AreWhole o → (y : Item) → Contains (meant_items locals o) (own_item y) → Names o y ⊎ NamesThrough o y
  function_back None whole y c = absurd (in_of [] (own_item y) c)
  function_back (Some f) whole y c = by_in (in_of (meant_items locals (Some f)) (own_item y) c)
    where
      by_in : (own_item (item spaces.«Type» (type_of f.kind)) ≡ own_item y) ⊎ In (kind_items f.kind) (own_item y) → Names (Some f) y ⊎ NamesThrough (Some f) y
      by_in (inl e) = inl (inl (contains_of (function_items f) y (inl (ap item_of e))))
      by_in (inr h) = elim (kind_back f.kind (whole f refl) y h) as (λ _. Names (Some f) y ⊎ NamesThrough (Some f) y) [ inl k ↦ inl (inr k) | inr t ↦ inr (t.0, inr t.1, t.2) ]
