-- References of a module, and what is kept of it, as of what it means.
use Rattle.std.proofs.Common.{◌≡◌, ◌∙◌, ◌⊎◌, ◌↔◌, ℕ, List, ◌<◌, Bool, map, Option, Some, None, Contains, IsSome, refl, sym, ap, subst, inl, inr, arith}
use Rattle.std.specs.Prelude.{Decides, MatchOption}
use Rattle.std.specs.HashSet.{keys}
use Rattle.std.specs.Option.{option_map}
use Rattle.wasm_references.specs.wasm_formats.declared.fault.Space.{Space}
use Rattle.wasm_references.specs.wasm_formats.declared.fault.Space.TheVariants as spaces
use Rattle.wasm_references.specs.wasm_grammar.Modules as grammar
use Rattle.wasm_references.specs.References as abstract
use Rattle.wasm_references.specs.Roots as roots
use Rattle.wasm_references.specs.Kept as kept
use Rattle.walrus_arena.specs.Arena.{Arena, item_at, IsLive}
use Rattle.walrus_walks.specs.walrus_types.Table.{Table as TypeTable}
use Rattle.walrus_walks.specs.walrus_types.TypeLaws.{AreGrouped}
use Rattle.walrus_walks.specs.ConstEvents.{ExprsTellOps}
use Rattle.walrus_walks.specs.Plain.{HeldAreNested, WalkIsPlain}
use Rattle.walrus_tree.specs.TextLaws.{TreesAreNested}
use Rattle.walrus_walks.specs.walrus_instr.declared.const_expr.ConstExpr.{ConstExpr}
use Rattle.walrus_marks.specs.Chains.{root, refers}
use Rattle.walrus_meaning.specs.walrus_module.Parts.{Module}
use Rattle.walrus_meaning.specs.walrus_module.Items.{brought, given_out}
use Rattle.walrus_passes.specs.walrus_refusals.walrus_used.walrus_references.walrus_module_items.declared.import.Import.{Import}
use Rattle.walrus_passes.specs.walrus_refusals.walrus_used.walrus_references.walrus_module_items.declared.import.ImportKind.{ImportKind}
use Rattle.walrus_passes.specs.walrus_refusals.walrus_used.walrus_references.walrus_module_items.declared.import.ImportKind.TheVariants as kinds
use Rattle.walrus_passes.specs.walrus_refusals.walrus_used.walrus_references.walrus_module_items.declared.function.Function.{Function}
use Rattle.walrus_passes.specs.walrus_refusals.walrus_used.walrus_references.walrus_module_items.declared.function.FunctionKind.{FunctionKind}
use Rattle.walrus_passes.specs.walrus_refusals.walrus_used.walrus_references.walrus_module_items.declared.function.FunctionKind.TheVariants as functions
use Rattle.walrus_passes.specs.walrus_refusals.walrus_used.walrus_references.walrus_module_items.declared.table.Table.{Table}
use Rattle.walrus_passes.specs.walrus_refusals.walrus_used.walrus_references.walrus_module_items.declared.memory.Memory.{Memory}
use Rattle.walrus_passes.specs.walrus_refusals.walrus_used.walrus_references.walrus_module_items.declared.data.Data.{Data}
use Rattle.walrus_passes.specs.walrus_refusals.walrus_used.walrus_references.walrus_module_items.declared.data.DataKind.{DataKind}
use Rattle.walrus_passes.specs.walrus_refusals.walrus_used.walrus_references.walrus_module_items.declared.data.DataKind.TheVariants as datas
use Rattle.walrus_passes.specs.walrus_refusals.walrus_used.walrus_references.walrus_module_items.declared.element.Element.{Element}
use Rattle.walrus_passes.specs.walrus_refusals.walrus_used.walrus_references.walrus_module_items.declared.element.ElementKind.{ElementKind}
use Rattle.walrus_passes.specs.walrus_refusals.walrus_used.walrus_references.walrus_module_items.declared.element.ElementKind.TheVariants as elements
use Rattle.walrus_passes.specs.walrus_refusals.walrus_used.walrus_references.walrus_module_items.declared.export.ExportItem.{ExportItem}
use Rattle.walrus_passes.specs.walrus_refusals.walrus_used.walrus_references.walrus_module_items.declared.export.ExportItem.TheVariants as exported
use Rattle.walrus_roots.specs.declared.item.Item.{Item}
use Rattle.walrus_roots.specs.Items.{item, space_number, IsShared, PushesShared}
use Rattle.walrus_meaning.specs.walrus_linked.Linked.{IsLinked, IsWhole}
use Rattle.walrus_passes.specs.walrus_refusals.walrus_used.walrus_references.References.{Refers, RefersIn, Named, named_by, table_items, global_items, tag_items, element_items, data_items, HasElement, HasData, IsActiveIn, IsCopiedInto}
use Rattle.walrus_passes.specs.walrus_refusals.walrus_used.walrus_references.Roots.{Root, exports, starts, is_active, fills_import, fills_any, declares, is_pushed}
use Rattle.walrus_passes.specs.walrus_refusals.walrus_used.walrus_references.Kept.{IsReached, IsSpared, Kept}
use Rattle.walrus_passes.specs.walrus_refusals.walrus_used.walrus_references.Refused.{HasTree, IsTreeIn}
use Rattle.walrus_passes.specs.walrus_refusals.Asked.{HasBody, IsWholeIn}
use Rattle.walrus_passes.specs.walrus_refusals.Sound.{IsSound}
use Rattle.walrus_passes.specs.Part.{IsPart, Rest}
use Rattle.walrus_passes.specs.UsedItems.{HasJust}
use Rattle.walrus_passes.specs.declared.used.Used.{Used}
use Rattle.walrus_passes.proofs.RestLemmas.{rest_as}
use Rattle.walrus_passes.proofs.TypeLemmas.{types_as}
use Rattle.walrus_meaning.specs.Words.{own_expr}
use Rattle.walrus_meaning.specs.Meaning.{slots_of, means, own_given, own_export, own_function, own_table, own_memory, own_global, own_tag, own_element, own_element_mode, own_segment, own_data_mode}
use Rattle.walrus_meaning.proofs.MeaningLemmas.{items_seen}
use Rattle.walrus_pass_laws.specs.Items.{own_item, own_items}
use Rattle.walrus_pass_laws.specs.Bodies.{BodiesNameWhatIsTold}
use Rattle.walrus_pass_laws.specs.Locals.{type_of_local}
use Rattle.walrus_pass_laws.specs.Meant.{meant, function_parts, listed_elements, listed_data, GroupIsWritten, IsPlainIn, RefersThrough, ReferencesAreMeant, IsKeptMeant, KeptIsMeant, PassesKeepWhatIsMeant}
use Rattle.walrus_pass_laws.proofs.Functions.{meant_items, function_forth, function_through, function_back}
use Rattle.walrus_pass_laws.proofs.Items.{table_meant, global_meant, segment_meant, element_meant}
use Rattle.walrus_pass_laws.proofs.Low.{low_at, named_are_low}
use Rattle.walrus_pass_laws.proofs.Owned.{item_of, owned_forth, owned_back}
use Rattle.walrus_pass_laws.proofs.Types.{type_forth, type_back}
use Rattle.walrus_pass_laws.proofs.Sets.{in_of, contains_of, map_in}

-- ---- what is there is seen

is_some_seen : {A B : Type 0} (see : A → B) (o : Option A) → IsSome o ↔ IsSome (option_map see o)
is_some_seen see None = (λ h. h, λ h. h)
is_some_seen see (Some x) = (λ h. refl, λ h. refl)

is_there_seen : {A B : Type 0} (see : A → B) (P : A → Type 0) (Q : B → Type 0) → ((x : A) → P x ↔ Q (see x)) → (o : Option A) → MatchOption o ⊥ P ↔ MatchOption (option_map see o) ⊥ Q
is_there_seen see P Q each None = (λ h. h, λ h. h)
is_there_seen see P Q each (Some x) = each x

named_seen : {A B : Type 0} (see : A → B) (f : A → List Item) (h : B → List grammar.Item) → ((x : A) → own_items (f x) ≡ h (see x)) → (o : Option A) → own_items (named_by f o) ≡ abstract.named_by h (option_map see o)
named_seen see f h each None = refl
named_seen see f h each (Some x) = each x

module _ {A B : Type 0} (see : A → B) (a : Arena A) where
  -- the slot of a number
  seen_at : (id : ℕ) → option_map see (item_at a id) ≡ abstract.slot (slots_of see a) id
  seen_at id = sym (items_seen see a id)

  live_seen : (id : ℕ) → IsLive a id ↔ IsSome (abstract.slot (slots_of see a) id)
  live_seen id = subst (λ (o : Option B). IsLive a id ↔ IsSome o) (seen_at id) (is_some_seen see (item_at a id))

  match_seen : (P : A → Type 0) (Q : B → Type 0) → ((x : A) → P x ↔ Q (see x)) → (id : ℕ) → MatchOption (item_at a id) ⊥ P ↔ MatchOption (abstract.slot (slots_of see a) id) ⊥ Q
  match_seen P Q each id = subst (λ (o : Option B). MatchOption (item_at a id) ⊥ P ↔ MatchOption o ⊥ Q) (seen_at id) (is_there_seen see P Q each (item_at a id))

  items_seen_at : (f : A → List Item) (h : B → List grammar.Item) → ((x : A) → own_items (f x) ≡ h (see x)) → (id : ℕ) (y : Item) → Contains (named_by f (item_at a id)) y ↔ Contains (abstract.named_by h (abstract.slot (slots_of see a) id)) (own_item y)
  items_seen_at f h each id y =
      let e : own_items (named_by f (item_at a id)) ≡ abstract.named_by h (abstract.slot (slots_of see a) id) = named_seen see f h each (item_at a id) ∙ ap (abstract.named_by h) (seen_at id) in
      (owned_forth _ _ e y, owned_back _ _ e y)

  slot_is : (id : ℕ) (x : A) → item_at a id ≡ Some x → abstract.slot (slots_of see a) id ≡ Some (see x)
  slot_is id x e = sym (seen_at id) ∙ ap (option_map see) e

  of_slot : (o : Option A) (y : B) → option_map see o ≡ Some y → (x : A) × (o ≡ Some x) × (see x ≡ y)
  of_slot None y e = absurd (let z : ⊥ = cc in z)
  of_slot (Some x) y e = (x, refl, (let s : see x ≡ y = cc in s))

  slot_from : (id : ℕ) (y : B) → abstract.slot (slots_of see a) id ≡ Some y → (x : A) × (item_at a id ≡ Some x) × (see x ≡ y)
  slot_from id y e = of_slot (item_at a id) y (seen_at id ∙ e)

-- ---- segments

active_element : (t : ℕ) (k : ElementKind) → IsActiveIn t k ↔ abstract.IsActiveIn t (own_element_mode k)
active_element t (elements.Active table offset) = (λ h. h, λ h. h)
active_element t elements.Passive = (λ h. h, λ h. h)
active_element t elements.Declared = (λ h. h, λ h. h)

active_data : (x : ℕ) (k : DataKind) → IsCopiedInto x k ↔ abstract.IsActiveIn x (own_data_mode k)
active_data x (datas.Active memory offset) = (λ h. h, λ h. h)
active_data x datas.Passive = (λ h. h, λ h. h)

module _ (m : Module) where
  abbrev listed_element : ℕ → ℕ → Type 0
  listed_element t e = MatchOption (item_at m.elements e) ⊥ (λ (x : Element). IsActiveIn t x.kind)

  element_forth : (t : ℕ) (table : Table) → item_at m.tables t ≡ Some table → (y : Item) → HasElement m t table y → abstract.HasElement (meant m) t (own_item y)
  element_forth t table at y (e, is, how) = (
    e,
    ap own_item is,
    elim how as (λ _. MatchOption (abstract.slot (means m).elements e) ⊥ (λ (x : grammar.Element). abstract.IsActiveIn t x.mode) ⊎ (Contains (listed_elements (item_at m.tables t)) e × IsSome (abstract.slot (means m).elements e))) [
      | inl h ↦ inl ((match_seen own_element m.elements (λ (x : Element). IsActiveIn t x.kind) (λ (x : grammar.Element). abstract.IsActiveIn t x.mode) (λ x. active_element t x.kind) e).0 h)
      | inr h ↦ inr (subst (λ (o : Option Table). Contains (listed_elements o) e) (sym at) h.0, (live_seen own_element m.elements e).0 h.1)
    ],
  )

  element_back : (t : ℕ) (table : Table) → item_at m.tables t ≡ Some table → (y : Item) → abstract.HasElement (meant m) t (own_item y) → HasElement m t table y
  element_back t table at y (e, is, how) = (
    e,
    ap item_of is,
    elim how as (λ _. listed_element t e ⊎ (Contains (keys table.elem_segments) e × IsLive m.elements e)) [
      | inl h ↦ inl ((match_seen own_element m.elements (λ (x : Element). IsActiveIn t x.kind) (λ (x : grammar.Element). abstract.IsActiveIn t x.mode) (λ x. active_element t x.kind) e).1 h)
      | inr h ↦ inr (subst (λ (o : Option Table). Contains (listed_elements o) e) at h.0, (live_seen own_element m.elements e).1 h.1)
    ],
  )

  data_forth : (x : ℕ) (memory : Memory) → item_at m.memories x ≡ Some memory → (y : Item) → HasData m x memory y → abstract.HasData (meant m) x (own_item y)
  data_forth x memory at y (d, is, how) = (
    d,
    ap own_item is,
    elim how as (λ _. MatchOption (abstract.slot (means m).segments d) ⊥ (λ (s : grammar.Segment). abstract.IsActiveIn x s.mode) ⊎ (Contains (listed_data (item_at m.memories x)) d × IsSome (abstract.slot (means m).segments d))) [
      | inl h ↦ inl ((match_seen own_segment m.data_segments (λ (s : Data). IsCopiedInto x s.kind) (λ (s : grammar.Segment). abstract.IsActiveIn x s.mode) (λ s. active_data x s.kind) d).0 h)
      | inr h ↦ inr (subst (λ (o : Option Memory). Contains (listed_data o) d) (sym at) h.0, (live_seen own_segment m.data_segments d).0 h.1)
    ],
  )

  data_back : (x : ℕ) (memory : Memory) → item_at m.memories x ≡ Some memory → (y : Item) → abstract.HasData (meant m) x (own_item y) → HasData m x memory y
  data_back x memory at y (d, is, how) = (
    d,
    ap item_of is,
    elim how as (λ _. MatchOption (item_at m.data_segments d) ⊥ (λ (s : Data). IsCopiedInto x s.kind) ⊎ (Contains (keys memory.data_segments) d × IsLive m.data_segments d)) [
      | inl h ↦ inl ((match_seen own_segment m.data_segments (λ (s : Data). IsCopiedInto x s.kind) (λ (s : grammar.Segment). abstract.IsActiveIn x s.mode) (λ s. active_data x s.kind) d).1 h)
      | inr h ↦ inr (subst (λ (o : Option Memory). Contains (listed_data o) d) at h.0, (live_seen own_segment m.data_segments d).1 h.1)
    ],
  )

  -- a table or memory that is there
  there_forth : {A B : Type 0} (see : A → B) (a : Arena A) (id : ℕ) (P : A → Type 0) (Q : Type 0) → ((x : A) → item_at a id ≡ Some x → P x → Q) → Named (item_at a id) P → MatchOption (abstract.slot (slots_of see a) id) ⊥ (λ (_ : B). Q)
  there_forth {A} {B} see a id P Q each h = subst (λ (o : Option B). MatchOption o ⊥ (λ (_ : B). Q)) (seen_at see a id) (go (item_at a id) refl h)
    where
      go : (o : Option A) → item_at a id ≡ o → MatchOption o ⊥ P → MatchOption (option_map see o) ⊥ (λ (_ : B). Q)
      go None at h = absurd h
      go (Some x) at h = each x at h

  there_back : {A B : Type 0} (see : A → B) (a : Arena A) (id : ℕ) (P : A → Type 0) (Q : Type 0) → ((x : A) → item_at a id ≡ Some x → Q → P x) → MatchOption (abstract.slot (slots_of see a) id) ⊥ (λ (_ : B). Q) → Named (item_at a id) P
  there_back {A} {B} see a id P Q each h = go (item_at a id) refl (subst (λ (o : Option B). MatchOption o ⊥ (λ (_ : B). Q)) (sym (seen_at see a id)) h)
    where
      go : (o : Option A) → item_at a id ≡ o → MatchOption (option_map see o) ⊥ (λ (_ : B). Q) → MatchOption o ⊥ P
      go None at h = absurd h
      go (Some x) at h = each x at h

-- ---- references

is_local : (s : Space) → (s ≡ spaces.Local) ⊎ (s ≡ spaces.Local → ⊥)
is_local spaces.«Type» = inr (low_at spaces.«Type» (omega arith))
is_local spaces.Function = inr (low_at spaces.Function (omega arith))
is_local spaces.Table = inr (low_at spaces.Table (omega arith))
is_local spaces.Memory = inr (low_at spaces.Memory (omega arith))
is_local spaces.Tag = inr (low_at spaces.Tag (omega arith))
is_local spaces.Global = inr (low_at spaces.Global (omega arith))
is_local spaces.Element = inr (low_at spaces.Element (omega arith))
is_local spaces.Data = inr (low_at spaces.Data (omega arith))
is_local spaces.Local = inl refl
is_local spaces.Label = inr (λ e. (let same = ap space_number e in omega (arith, same)))

not_function : (s : Space) → (space_number s ≡ 1 → ⊥) → s ≡ spaces.Function → ⊥
not_function s other e = other (ap space_number e)

module _ (plain : WalkIsPlain) (nested : HeldAreNested) (trees : TreesAreNested) (tell : ExprsTellOps) (told : BodiesNameWhatIsTold) (m : Module) (grouped : AreGrouped m.types) where
  abbrev MeantIn : Space → ℕ → Item → Type 0
  MeantIn s id y = abstract.RefersIn (meant m) s id (own_item y)

  -- a function that is there, as it is seen
  at_slot : (id : ℕ) (y : Item) → Contains (meant_items m.locals (item_at m.funcs id)) (own_item y) → MeantIn spaces.Function id y
  at_slot id y c = subst (λ (o : Option grammar.Function). Contains (abstract.named_by (abstract.function_items (type_of_local m.locals) (function_parts (item_at m.funcs id))) o) (own_item y)) (seen_at (own_function m.locals) m.funcs id) c

  from_slot : (id : ℕ) (y : Item) → MeantIn spaces.Function id y → Contains (meant_items m.locals (item_at m.funcs id)) (own_item y)
  from_slot id y c = subst (λ (o : Option grammar.Function). Contains (abstract.named_by (abstract.function_items (type_of_local m.locals) (function_parts (item_at m.funcs id))) o) (own_item y)) (sym (seen_at (own_function m.locals) m.funcs id)) c

  refers_forth : (s : Space) (id : ℕ) (y : Item) → IsPlainIn m s id → (s ≡ spaces.Local → ⊥) → (s ≡ spaces.Function → IsShared y) → RefersIn m s id y → MeantIn s id y
  refers_forth spaces.«Type» id y plain_at other shared h = type_forth m.types grouped (meant m) refl refl id y (plain_at.grouped refl) h
  refers_forth spaces.Function id y plain_at other shared h = at_slot id y (function_forth plain nested trees told m.types m.locals (item_at m.funcs id) (plain_at.whole refl) y (shared refl) h)
  refers_forth spaces.Table id y plain_at other shared (inl c) = inl ((items_seen_at own_table m.tables table_items abstract.table_items (table_meant tell) id y).0 c)
  refers_forth spaces.Table id y plain_at other shared (inr h) = inr (there_forth m own_table m.tables id (λ t. HasElement m id t y) (abstract.HasElement (meant m) id (own_item y)) (λ t at. element_forth m id t at y) h)
  refers_forth spaces.Memory id y plain_at other shared h = there_forth m own_memory m.memories id (λ x. HasData m id x y) (abstract.HasData (meant m) id (own_item y)) (λ x at. data_forth m id x at y) h
  refers_forth spaces.Global id y plain_at other shared c = (items_seen_at own_global m.globals global_items abstract.global_items (global_meant tell) id y).0 c
  refers_forth spaces.Tag id y plain_at other shared c = (items_seen_at own_tag m.tags tag_items abstract.tag_items (λ t. refl) id y).0 c
  refers_forth spaces.Element id y plain_at other shared c = (items_seen_at own_element m.elements element_items abstract.element_items (element_meant tell) id y).0 c
  refers_forth spaces.Data id y plain_at other shared c = (items_seen_at own_segment m.data_segments (λ (d : Data). data_items d.kind) abstract.segment_items (segment_meant tell) id y).0 c
  refers_forth spaces.Local id y plain_at other shared h = absurd (other refl)
  refers_forth spaces.Label id y plain_at other shared h = absurd h

  -- functions alone name locals
  none_through : (s : Space) (id l : ℕ) → IsPlainIn m s id → (s ≡ spaces.Local → ⊥) → (s ≡ spaces.Function → ⊥) → RefersIn m s id (item spaces.Local l) → ⊥
  none_through s id l plain_at other apart h = named_are_low (meant m) (abstract.item s id) (own_item (item spaces.Local l)) (refers_forth s id (item spaces.Local l) plain_at other (λ e. absurd (apart e)) h) refl

  refers_through : (s : Space) (id l : ℕ) (y : Item) → IsPlainIn m s id → (s ≡ spaces.Local → ⊥) → RefersIn m s id (item spaces.Local l) → RefersIn m spaces.Local l y → MeantIn s id y
  refers_through spaces.Function id l y plain_at other h c = at_slot id y (function_through plain nested trees told m.types m.locals (item_at m.funcs id) (plain_at.whole refl) l y h c)
  refers_through spaces.«Type» id l y plain_at other h c = absurd (none_through spaces.«Type» id l plain_at other (not_function spaces.«Type» (λ e. omega (arith, e))) h)
  refers_through spaces.Table id l y plain_at other h c = absurd (none_through spaces.Table id l plain_at other (not_function spaces.Table (λ e. omega (arith, e))) h)
  refers_through spaces.Memory id l y plain_at other h c = absurd (none_through spaces.Memory id l plain_at other (not_function spaces.Memory (λ e. omega (arith, e))) h)
  refers_through spaces.Global id l y plain_at other h c = absurd (none_through spaces.Global id l plain_at other (not_function spaces.Global (λ e. omega (arith, e))) h)
  refers_through spaces.Tag id l y plain_at other h c = absurd (none_through spaces.Tag id l plain_at other (not_function spaces.Tag (λ e. omega (arith, e))) h)
  refers_through spaces.Element id l y plain_at other h c = absurd (none_through spaces.Element id l plain_at other (not_function spaces.Element (λ e. omega (arith, e))) h)
  refers_through spaces.Data id l y plain_at other h c = absurd (none_through spaces.Data id l plain_at other (not_function spaces.Data (λ e. omega (arith, e))) h)
  refers_through spaces.Local id l y plain_at other h c = absurd (other refl)
  refers_through spaces.Label id l y plain_at other h c = absurd h

  abbrev ThroughIn : Space → ℕ → Item → Type 0
  ThroughIn s id y = RefersIn m s id y ⊎ ((l : ℕ) × RefersIn m s id (item spaces.Local l) × RefersIn m spaces.Local l y)

  refers_back : (s : Space) (id : ℕ) (y : Item) → IsPlainIn m s id → MeantIn s id y → ThroughIn s id y
  refers_back spaces.«Type» id y plain_at h = inl (type_back m.types grouped (meant m) refl refl id y h)
  refers_back spaces.Function id y plain_at c = function_back plain nested trees told m.types m.locals (item_at m.funcs id) (plain_at.whole refl) y (from_slot id y c)
  refers_back spaces.Table id y plain_at (inl c) = inl (inl ((items_seen_at own_table m.tables table_items abstract.table_items (table_meant tell) id y).1 c))
  refers_back spaces.Table id y plain_at (inr h) = inl (inr (there_back m own_table m.tables id (λ t. HasElement m id t y) (abstract.HasElement (meant m) id (own_item y)) (λ t at. element_back m id t at y) h))
  refers_back spaces.Memory id y plain_at h = inl (there_back m own_memory m.memories id (λ x. HasData m id x y) (abstract.HasData (meant m) id (own_item y)) (λ x at. data_back m id x at y) h)
  refers_back spaces.Global id y plain_at c = inl ((items_seen_at own_global m.globals global_items abstract.global_items (global_meant tell) id y).1 c)
  refers_back spaces.Tag id y plain_at c = inl ((items_seen_at own_tag m.tags tag_items abstract.tag_items (λ t. refl) id y).1 c)
  refers_back spaces.Element id y plain_at c = inl ((items_seen_at own_element m.elements element_items abstract.element_items (element_meant tell) id y).1 c)
  refers_back spaces.Data id y plain_at c = inl ((items_seen_at own_segment m.data_segments (λ (d : Data). data_items d.kind) abstract.segment_items (segment_meant tell) id y).1 c)
  refers_back spaces.Local id y plain_at h = absurd h
  refers_back spaces.Label id y plain_at h = absurd h

  refs_both : (x y : Item) → IsPlainIn m x.space x.id → IsShared x → IsShared y → RefersThrough m x y ↔ abstract.Refers (meant m) (own_item x) (own_item y)
  refs_both x y plain_at sx sy = (
    λ h. elim h as (λ _. abstract.Refers (meant m) (own_item x) (own_item y)) [
      | inl r ↦ refers_forth x.space x.id y plain_at sx (λ e. sy) r
      | inr t ↦ refers_through x.space x.id t.0 y plain_at sx t.1 t.2
    ],
    λ h. refers_back x.space x.id y plain_at h,
  )

  -- ---- what is kept

  module _ (pushed : List Item) (push : PushesShared pushed) (all_plain : (x : Item) → IsReached m pushed x → IsPlainIn m x.space x.id) where
    abbrev Reached : grammar.Item → Type 0
    Reached z = kept.IsReached (meant m) m.config.keep_segments (own_items pushed) z

    given_is : (i : ExportItem) → own_item (given_out i) ≡ own_given i
    given_is (exported.Function id) = refl
    given_is (exported.Table id) = refl
    given_is (exported.Memory id) = refl
    given_is (exported.Global id) = refl
    given_is (exported.Tag id) = refl

    given_shared : (i : ExportItem) → IsShared (given_out i)
    given_shared (exported.Function id) = low_at spaces.Function (omega arith)
    given_shared (exported.Table id) = low_at spaces.Table (omega arith)
    given_shared (exported.Memory id) = low_at spaces.Memory (omega arith)
    given_shared (exported.Global id) = low_at spaces.Global (omega arith)
    given_shared (exported.Tag id) = low_at spaces.Tag (omega arith)

    root_shared : (x : Item) → Root m pushed x → IsShared x
    root_shared x (exports e export at) = given_shared export.item
    root_shared x (starts f is) = low_at spaces.Function (omega arith)
    root_shared x (is_active d memory offset segment at is) = low_at spaces.Data (omega arith)
    root_shared x (fills_import e t offset segment table at is of brings) = low_at spaces.Element (omega arith)
    root_shared x (fills_any e t offset segment all at is) = low_at spaces.Element (omega arith)
    root_shared x (declares e segment at is) = low_at spaces.Element (omega arith)
    root_shared x (is_pushed _ c) = push x c

    root_forth : (x : Item) → Root m pushed x → roots.Root (means m) m.config.keep_segments (own_items pushed) (own_item x)
    root_forth x (exports e export at) = subst (roots.Root (means m) m.config.keep_segments (own_items pushed)) (sym (given_is export.item)) (roots.exports e (own_export export) (slot_is own_export m.exports e export at))
    root_forth x (starts f is) = roots.starts f is
    root_forth x (is_active d memory offset segment at is) = roots.is_active d memory (own_expr offset) (own_segment segment) (slot_is own_segment m.data_segments d segment at) (ap own_data_mode is)
    root_forth x (fills_import e t offset segment table at is of brings) =
        roots.fills_import e t (own_expr offset) (own_element segment) (own_table table) (slot_is own_element m.elements e segment at) (ap own_element_mode is) (slot_is own_table m.tables t table of) brings
    root_forth x (fills_any e t offset segment all at is) = roots.fills_any e t (own_expr offset) (own_element segment) all (slot_is own_element m.elements e segment at) (ap own_element_mode is)
    root_forth x (declares e segment at is) = roots.declares e (own_element segment) (slot_is own_element m.elements e segment at) (ap own_element_mode is)
    root_forth x (is_pushed _ c) = roots.is_pushed (own_item x) (owned_forth pushed (own_items pushed) refl x c)

    data_active : (k : DataKind) (into : ℕ) (offset : grammar.Expr) → own_data_mode k ≡ grammar.Active into offset → (o : ConstExpr) × (k ≡ datas.Active into o)
    data_active (datas.Active memory o) into offset e = (o, ap (λ n. datas.Active n o) (let s : memory ≡ into = cc in s))
    data_active datas.Passive into offset e = absurd (let z : ⊥ = cc in z)

    element_active : (k : ElementKind) (into : ℕ) (offset : grammar.Expr) → own_element_mode k ≡ grammar.Active into offset → (o : ConstExpr) × (k ≡ elements.Active into o)
    element_active (elements.Active table o) into offset e = (o, ap (λ n. elements.Active n o) (let s : table ≡ into = cc in s))
    element_active elements.Passive into offset e = absurd (let z : ⊥ = cc in z)
    element_active elements.Declared into offset e = absurd (let z : ⊥ = cc in z)

    element_declared : (k : ElementKind) → own_element_mode k ≡ grammar.Declared → k ≡ elements.Declared
    element_declared (elements.Active table o) e = absurd (let z : ⊥ = cc in z)
    element_declared elements.Passive e = absurd (let z : ⊥ = cc in z)
    element_declared elements.Declared e = refl

    root_back : (z : grammar.Item) → roots.Root (means m) m.config.keep_segments (own_items pushed) z → Root m pushed (item_of z)
    root_back z (roots.exports e export at) =
        let x = slot_from own_export m.exports e export at in
        let is : given_out x.0.item ≡ item_of export.item = ap item_of (given_is x.0.item ∙ ap (λ (y : grammar.Export). y.item) x.2) in
        subst (Root m pushed) is (exports e x.0 x.1)
    root_back z (roots.starts f is) = starts f is
    root_back z (roots.is_active d memory offset segment at is) =
        let x = slot_from own_segment m.data_segments d segment at in
        let k = data_active x.0.kind memory offset (ap (λ (y : grammar.Segment). y.mode) x.2 ∙ is) in
        is_active d memory k.0 x.0 x.1 k.1
    root_back z (roots.fills_import e t offset segment table at is of brings) =
        let x = slot_from own_element m.elements e segment at in
        let k = element_active x.0.kind t offset (ap (λ (y : grammar.Element). y.mode) x.2 ∙ is) in
        let u = slot_from own_table m.tables t table of in
        fills_import e t k.0 x.0 u.0 x.1 k.1 u.1 (subst (λ (y : grammar.Table). IsSome y.imported) (sym u.2) brings)
    root_back z (roots.fills_any e t offset segment all at is) =
        let x = slot_from own_element m.elements e segment at in
        let k = element_active x.0.kind t offset (ap (λ (y : grammar.Element). y.mode) x.2 ∙ is) in
        fills_any e t k.0 x.0 all x.1 k.1
    root_back z (roots.declares e segment at is) =
        let x = slot_from own_element m.elements e segment at in
        declares e x.0 x.1 (element_declared x.0.kind (ap (λ (y : grammar.Element). y.mode) x.2 ∙ is))
    root_back z (roots.is_pushed _ c) = is_pushed (item_of z) (owned_back pushed (own_items pushed) refl (item_of z) c)

    -- an item is reached there, or it is a local that one names that is
    data Found (x : Item) : Type 0 where
      shared_one : IsShared x → Reached (own_item x) → Found x
      local_one : (from : Item) → IsPlainIn m from.space from.id → IsShared from → Reached (own_item from) → Refers m from x → x.space ≡ spaces.Local → Found x

    found_shared : (x : Item) → IsShared x → Found x → Reached (own_item x)
    found_shared x shared (shared_one s r) = r
    found_shared x shared (local_one from pf sf r q e) = absurd (shared e)

    found_on : (x y : Item) → IsPlainIn m x.space x.id → Refers m x y → Found x → Found y
    found_on x y px r (shared_one sx a) = elim (is_local y.space) as (λ _. Found y) [
      | inl e ↦ local_one x px sx a r e
      | inr s ↦ shared_one s (kept.refers a (refers_forth x.space x.id y px sx (λ e. s) r))
    ]
    found_on x y px r (local_one from pf sf a q e) =
        let named : RefersIn m from.space from.id (item spaces.Local x.id) = subst (λ (s : Space). RefersIn m from.space from.id (item s x.id)) e q in
        let typed : RefersIn m spaces.Local x.id y = subst (λ (s : Space). RefersIn m s x.id y) e r in
        let next = refers_through from.space from.id x.id y pf sf named typed in
        shared_one (named_are_low (meant m) (own_item from) (own_item y) next) (kept.refers a next)

    found : (x : Item) → IsReached m pushed x → Found x
    found x (root r) = shared_one (root_shared x r) (kept.root (root_forth x r))
    found y (refers {x} k r) = found_on x y (all_plain x k) r (found x k)

    reached_back : (z : grammar.Item) → Reached z → IsReached m pushed (item_of z)
    reached_back z (kept.root r) = root (root_back z r)
    reached_back y (kept.refers {x} k r) =
        let before = reached_back x k in
        elim (refers_back x.space x.number (item_of y) (all_plain (item_of x) before) r) as (λ _. IsReached m pushed (item_of y)) [
          | inl q ↦ refers before q
          | inr t ↦ refers (refers before t.1) t.2
        ]

    spared_forth : (x : Item) → IsSpared m pushed x → kept.IsSpared (meant m) m.config.keep_segments (own_items pushed) (own_item x)
    spared_forth x h = record {
      memory = h.memory;
      is = ap own_item h.is;
      first = record {
        there = (live_seen own_memory m.memories h.memory).0 h.first.live;
        first = λ other below live. h.first.first other below ((live_seen own_memory m.memories other).1 live);
      };
      segment = h.segment;
      has_data = found_shared (item spaces.Data h.segment) (low_at spaces.Data (omega arith)) (found (item spaces.Data h.segment) h.has_data);
      no_memory = λ other r. h.no_memory other (reached_back (abstract.item spaces.Memory other) r);
    }

    spared_back : (x : Item) → kept.IsSpared (meant m) m.config.keep_segments (own_items pushed) (own_item x) → IsSpared m pushed x
    spared_back x h = record {
      memory = h.memory;
      is = ap item_of h.is;
      first = record {
        live = (live_seen own_memory m.memories h.memory).1 h.first.there;
        first = λ other below live. h.first.first other below ((live_seen own_memory m.memories other).0 live);
      };
      segment = h.segment;
      has_data = reached_back (abstract.item spaces.Data h.segment) h.has_data;
      no_memory = λ other r. h.no_memory other (found_shared (item spaces.Memory other) (low_at spaces.Memory (omega arith)) (found (item spaces.Memory other) r));
    }

    kept_both : (x : Item) → IsShared x → Kept m pushed x ↔ kept.Kept (meant m) m.config.keep_segments (own_items pushed) (own_item x)
    kept_both x shared = (
      λ h. elim h as (λ _. kept.Kept (meant m) m.config.keep_segments (own_items pushed) (own_item x)) [ inl r ↦ inl (found_shared x shared (found x r)) | inr p ↦ inr (spared_forth x p) ],
      λ h. elim h as (λ _. Kept m pushed x) [ inl r ↦ inl (reached_back (own_item x) r) | inr p ↦ inr (spared_back x p) ],
    )

-- ---- which items are plain

linked_plain : (m : Module) → IsLinked m → (x : Item) → IsPlainIn m x.space x.id
linked_plain m linked x = record {
  whole = λ e f at. linked.whole x.id f at;
  grouped = λ e group has ex k c. linked.grouped has.place group has.live ex k c;
}

whole_of : (types : TypeTable) (kind : FunctionKind) → HasBody types kind → HasTree kind → IsWhole types kind
whole_of types (functions.Import i) body tree = tt
whole_of types (functions.Local local) body tree = (body, tree)
whole_of types (functions.Uninitialized ty) body tree = absurd body

module _ (m : Module) (pushed : List Item) (sound : IsSound m pushed) where
  sound_whole : (x : Item) → IsReached m pushed x → x.space ≡ spaces.Function → (f : Function) → item_at m.funcs x.id ≡ Some f → IsWhole m.types f.kind
  sound_whole x r e f at =
      let own : IsWholeIn m spaces.Function x.id = subst (λ (s : Space). IsWholeIn m s x.id) e (sound.linked x r).own.1 in
      let tree : IsTreeIn m spaces.Function x.id = subst (λ (s : Space). IsTreeIn m s x.id) e (sound.trees x r) in
      whole_of m.types f.kind
      (subst (λ (o : Option Function). MatchOption o (Unit {0}) (λ (g : Function). HasBody m.types g.kind)) at own)
      (subst (λ (o : Option Function). MatchOption o (Unit {0}) (λ (g : Function). HasTree g.kind)) at tree)

  sound_grouped : (x : Item) → IsReached m pushed x → x.space ≡ spaces.«Type» → GroupIsWritten m.types x.id
  sound_grouped x r e group has ex k c =
      let there = contains_of (map (item spaces.«Type») group.types) (item spaces.«Type» k) (map_in (item spaces.«Type») group.types k (in_of group.types k c)) in
      let named : RefersIn m x.space x.id (item spaces.«Type» k) = subst (λ (s : Space). RefersIn m s x.id (item spaces.«Type» k)) (sym e) (inr (group, has, ex, there)) in
      sound.live (item spaces.«Type» k) (refers r named)

  sound_plain : (x : Item) → IsReached m pushed x → IsPlainIn m x.space x.id
  sound_plain x r = record { whole = sound_whole x r; grouped = sound_grouped x r }

-- ---- passes in other words

not_local : (s : Space) (id : ℕ) → space_number s < 8 → IsShared (item s id)
not_local s id below = low_at s below

brought_shared : (kind : ImportKind) → IsShared (brought kind)
brought_shared (kinds.Function id) = not_local spaces.Function id (omega arith)
brought_shared (kinds.Table id) = not_local spaces.Table id (omega arith)
brought_shared (kinds.Memory id) = not_local spaces.Memory id (omega arith)
brought_shared (kinds.Global id) = not_local spaces.Global id (omega arith)
brought_shared (kinds.Tag id) = not_local spaces.Tag id (omega arith)

module _ (P Q : Item → Type 0) (same : (x : Item) → IsShared x → P x ↔ Q x) where
  other_words : (s : Space) → space_number s < 8 → (id : ℕ) (b : Bool) → Decides b (P (item s id)) → Decides b (Q (item s id))
  other_words s below id b d = (λ e. (same (item s id) (not_local s id below)).0 (d.0 e), λ q. d.1 ((same (item s id) (not_local s id below)).1 q))

  just_as : (u : Used) → HasJust P u → HasJust Q u
  just_as u h = record {
    of_types = λ id. other_words spaces.«Type» (omega arith) id _ (h.of_types id);
    of_funcs = λ id. other_words spaces.Function (omega arith) id _ (h.of_funcs id);
    of_tables = λ id. other_words spaces.Table (omega arith) id _ (h.of_tables id);
    of_memories = λ id. other_words spaces.Memory (omega arith) id _ (h.of_memories id);
    of_tags = λ id. other_words spaces.Tag (omega arith) id _ (h.of_tags id);
    of_globals = λ id. other_words spaces.Global (omega arith) id _ (h.of_globals id);
    of_elements = λ id. other_words spaces.Element (omega arith) id _ (h.of_elements id);
    of_data_segments = λ id. other_words spaces.Data (omega arith) id _ (h.of_data_segments id);
  }

  by_id : {T : Type 0} (s : Space) → space_number s < 8 → (a b : Arena T) → Rest (λ id _. P (item s id)) a b → Rest (λ id _. Q (item s id)) a b
  by_id s below a b r =
      rest_as (λ id _. P (item s id)) (λ id _. Q (item s id)) a b (λ id _. (same (item s id) (not_local s id below)).0) (λ id _. (same (item s id) (not_local s id below)).1) r

  shared_part : (m n : Module) → IsPart P m n → IsPart Q m n
  shared_part m n p = record {
    types = types_as (λ id. P (item spaces.«Type» id)) (λ id. Q (item spaces.«Type» id)) m.types n.types
        (λ id. (same (item spaces.«Type» id) (not_local spaces.«Type» id (omega arith))).0) (λ id. (same (item spaces.«Type» id) (not_local spaces.«Type» id (omega arith))).1) p.types;
    funcs = by_id spaces.Function (omega arith) m.funcs n.funcs p.funcs;
    tables = by_id spaces.Table (omega arith) m.tables n.tables p.tables;
    memories = by_id spaces.Memory (omega arith) m.memories n.memories p.memories;
    tags = by_id spaces.Tag (omega arith) m.tags n.tags p.tags;
    globals = by_id spaces.Global (omega arith) m.globals n.globals p.globals;
    elements = by_id spaces.Element (omega arith) m.elements n.elements p.elements;
    data_segments = by_id spaces.Data (omega arith) m.data_segments n.data_segments p.data_segments;
    imports = rest_as (λ _ (import : Import). P (brought import.kind)) (λ _ (import : Import). Q (brought import.kind)) m.imports n.imports
        (λ _ import. (same (brought import.kind) (brought_shared import.kind)).0) (λ _ import. (same (brought import.kind) (brought_shared import.kind)).1) p.imports;
    others = p.others;
  }

module _ (plain : WalkIsPlain) (nested : HeldAreNested) (trees : TreesAreNested) (tell : ExprsTellOps) (told : BodiesNameWhatIsTold) where
  pub references_meant : ReferencesAreMeant
  references_meant m linked grouped x y sx sy = refs_both plain nested trees tell told m grouped x y (linked_plain m linked x) sx sy

  pub kept_meant : KeptIsMeant
  kept_meant m pushed linked grouped push x shared = kept_both plain nested trees tell told m grouped pushed push (λ y r. linked_plain m linked y) x shared

  pub passes_meant : PassesKeepWhatIsMeant
  passes_meant m pushed sound grouped push =
      let both = kept_both plain nested trees tell told m grouped pushed push (sound_plain m pushed sound) in
      record {
        kept = both;
        used = λ u h. just_as (Kept m pushed) (IsKeptMeant m pushed) both u h;
        left = λ n p. shared_part (Kept m pushed) (IsKeptMeant m pushed) both m n p;
      }
