-- The segments of a table and of a memory are what they refer to.
use Rattle.std.proofs.Common.{◌≡◌, ◌∙◌, ◌⊎◌, ◌==◌, ◌++◌, ℕ, zero, suc, Bool, true, false, List, [], ◌∷◌, Option, Some, None, Contains, get_or, length, ◌<◌, refl, sym, ap, subst, inl, inr, arith, if◌then◌else◌}
use Rattle.std.specs.Prelude.{◌↔◌, is_some, MatchOption}
use Rattle.std.specs.HashSet.{keys}
use Rattle.std.proofs.lemmas.Bool.{eq-eqb, eqb-true}
use Rattle.std.proofs.lemmas.List.Elements.{Contains-append_left, Contains-append_right, Contains-append_cases}
use Rattle.wasm_formats.specs.declared.fault.Space.{Space}
use Rattle.wasm_formats.specs.declared.fault.Space.TheVariants as spaces
use Rattle.walrus_arena.specs.Arena.{Arena, item_at, IsLive}
use Rattle.walrus_used.specs.walrus_module_items.declared.data.Data.{Data}
use Rattle.walrus_used.specs.walrus_module_items.declared.data.DataKind.{DataKind}
use Rattle.walrus_used.specs.walrus_module_items.declared.data.DataKind.TheVariants as datas
use Rattle.walrus_used.specs.walrus_module_items.declared.element.Element.{Element}
use Rattle.walrus_used.specs.walrus_module_items.declared.element.ElementKind.{ElementKind}
use Rattle.walrus_used.specs.walrus_module_items.declared.element.ElementKind.TheVariants as elements
use Rattle.walrus_used.specs.walrus_module_items.declared.memory.Memory.{Memory}
use Rattle.walrus_used.specs.walrus_module_items.declared.table.Table.{Table}
use Rattle.walrus_used.specs.walrus_module.Parts.{Module}
use Rattle.walrus_used.specs.walrus_references.References.{HasData, HasElement, IsActiveIn, IsCopiedInto, Named, RefersIn, named_by, table_items}
use Rattle.walrus_roots.specs.declared.item.Item.{Item}
use Rattle.walrus_roots.specs.Items.{item}
use Rattle.walrus_reasons.specs.Picks.{picked}
use Rattle.walrus_reasons.specs.Segments.{copied_data, filled_element, listed_for_memory, listed_for_table, live_items}
use Rattle.walrus_reasons.proofs.AddedLemmas.{none_in}
use Rattle.walrus_reasons.proofs.PickLemmas.{picked_back, picked_forth}

pub first_in : {X : Type 0} (x : X) (xs : List X) → Contains (x ∷ xs) x
first_in x xs = (0, omega arith, refl)

pub later_in : {X : Type 0} (y : X) (xs : List X) (x : X) → Contains xs x → Contains (y ∷ xs) x
later_in y xs x c = (suc c.0, omega (arith, c.1), c.2)

at_cases : {X : Type 0} (y : X) (xs : List X) (x : X) (k : ℕ) → k < length (y ∷ xs) → get_or (y ∷ xs) k x ≡ x → (y ≡ x) ⊎ Contains xs x
at_cases y xs x zero below e = inl e
at_cases y xs x (suc k) below e = inr (k, omega arith, e)

pub cases_in : {X : Type 0} (y : X) (xs : List X) (x : X) → Contains (y ∷ xs) x → (y ≡ x) ⊎ Contains xs x
cases_in y xs x c = at_cases y xs x c.0 c.1 c.2

pub only_in : {X : Type 0} (y x : X) → Contains (y ∷ []) x → y ≡ x
only_in y x c = elim (cases_in y [] x c) as (λ _. y ≡ x) [ inl e ↦ e | inr d ↦ absurd (none_in x d) ]

pub one_there : {X : Type 0} (b : Bool) (i y : X) → Contains (if b then i ∷ [] else []) y → (b ≡ true) × (i ≡ y)
one_there true i y c = (refl, only_in i y c)
one_there false i y c = absurd (none_in y c)

pub one_back : {X : Type 0} (b : Bool) (i y : X) → b ≡ true → i ≡ y → Contains (if b then i ∷ [] else []) y
one_back true i y e same = subst (λ z. Contains (i ∷ []) z) same (first_in i [])
one_back false i y e same = absurd cc

module _ {T : Type 0} (a : Arena T) (space : Space) where
  live_forth : (ids : List ℕ) (y : Item) → Contains (live_items a space ids) y → (id : ℕ) × (y ≡ item space id) × Contains ids id × IsLive a id
  live_forth [] y c = absurd (none_in y c)
  live_forth (i ∷ ids) y c = elim (Contains-append_cases (if is_some (item_at a i) then item space i ∷ [] else []) (live_items a space ids) y c) as (λ _. (id : ℕ) × (y ≡ item space id) × Contains (i ∷ ids) id × IsLive a id) [
    | inl l ↦ (let h = one_there (is_some (item_at a i)) (item space i) y l in (i, sym h.1, first_in i ids, h.0))
    | inr r ↦ (let h = live_forth ids y r in (h.0, h.1, later_in i ids h.0 h.2, h.3))
  ]

  live_back : (ids : List ℕ) (y : Item) (id : ℕ) → y ≡ item space id → Contains ids id → IsLive a id → Contains (live_items a space ids) y
  live_back [] y id is c live = absurd (none_in id c)
  live_back (i ∷ ids) y id is c live = elim (cases_in i ids id c) as (λ _. Contains (live_items a space (i ∷ ids)) y) [
    | inl e ↦ Contains-append_left (if is_some (item_at a i) then item space i ∷ [] else []) (live_items a space ids) y
        (one_back (is_some (item_at a i)) (item space i) y (subst (λ k. IsLive a k) (sym e) live) (ap (item space) e ∙ sym is))
    | inr d ↦ Contains-append_right (if is_some (item_at a i) then item space i ∷ [] else []) (live_items a space ids) y (live_back ids y id is d live)
  ]

-- ---- one segment
element_forth : (t e : ℕ) (kind : ElementKind) (y : Item) → Contains (filled_element t e kind) y → (y ≡ item spaces.Element e) × IsActiveIn t kind
element_forth t e (elements.Active table offset) y c = (let h = one_there (table == t) (item spaces.Element e) y c in (sym h.1, eqb-true table t h.0))
element_forth t e elements.Passive y c = absurd (none_in y c)
element_forth t e elements.Declared y c = absurd (none_in y c)

element_back : (t e : ℕ) (kind : ElementKind) (y : Item) → y ≡ item spaces.Element e → IsActiveIn t kind → Contains (filled_element t e kind) y
element_back t e (elements.Active table offset) y is h = one_back (table == t) (item spaces.Element e) y (eq-eqb table t h) (sym is)
element_back t e elements.Passive y is h = absurd h
element_back t e elements.Declared y is h = absurd h

data_forth : (x d : ℕ) (kind : DataKind) (y : Item) → Contains (copied_data x d kind) y → (y ≡ item spaces.Data d) × IsCopiedInto x kind
data_forth x d (datas.Active memory offset) y c = (let h = one_there (memory == x) (item spaces.Data d) y c in (sym h.1, eqb-true memory x h.0))
data_forth x d datas.Passive y c = absurd (none_in y c)

data_back : (x d : ℕ) (kind : DataKind) (y : Item) → y ≡ item spaces.Data d → IsCopiedInto x kind → Contains (copied_data x d kind) y
data_back x d (datas.Active memory offset) y is h = one_back (memory == x) (item spaces.Data d) y (eq-eqb memory x h) (sym is)
data_back x d datas.Passive y is h = absurd h

at_element : (t e : ℕ) (o : Option Element) (y : Item) → MatchOption o ⊥ (λ (element : Element). Contains (filled_element t e element.kind) y) → (y ≡ item spaces.Element e) × MatchOption o ⊥ (λ (element : Element). IsActiveIn t element.kind)
at_element t e None y h = absurd h
at_element t e (Some element) y h = element_forth t e element.kind y h

to_element : (t e : ℕ) (o : Option Element) (y : Item) → y ≡ item spaces.Element e → MatchOption o ⊥ (λ (element : Element). IsActiveIn t element.kind) → MatchOption o ⊥ (λ (element : Element). Contains (filled_element t e element.kind) y)
to_element t e None y is h = absurd h
to_element t e (Some element) y is h = element_back t e element.kind y is h

at_data : (x d : ℕ) (o : Option Data) (y : Item) → MatchOption o ⊥ (λ (segment : Data). Contains (copied_data x d segment.kind) y) → (y ≡ item spaces.Data d) × MatchOption o ⊥ (λ (segment : Data). IsCopiedInto x segment.kind)
at_data x d None y h = absurd h
at_data x d (Some segment) y h = data_forth x d segment.kind y h

to_data : (x d : ℕ) (o : Option Data) (y : Item) → y ≡ item spaces.Data d → MatchOption o ⊥ (λ (segment : Data). IsCopiedInto x segment.kind) → MatchOption o ⊥ (λ (segment : Data). Contains (copied_data x d segment.kind) y)
to_data x d None y is h = absurd h
to_data x d (Some segment) y is h = data_back x d segment.kind y is h

-- ---- those of a table, and of a memory
module _ (m : Module) (id : ℕ) where
  abbrev filled : ℕ → Element → List Item
  filled e element = filled_element id e element.kind

  abbrev copied : ℕ → Data → List Item
  copied d segment = copied_data id d segment.kind

  table_forth : (o : Option Table) (y : Item) → Contains (named_by (listed_for_table m id) o) y → Contains (named_by table_items o) y ⊎ Named o (λ t. HasElement m id t y)
  table_forth None y c = absurd (none_in y c)
  table_forth (Some t) y c = elim (Contains-append_cases (table_items t ++ picked filled m.elements) (live_items m.elements spaces.Element (keys t.elem_segments)) y c) as (λ _. Contains (table_items t) y ⊎ HasElement m id t y) [
    | inl l ↦ elim (Contains-append_cases (table_items t) (picked filled m.elements) y l) as (λ _. Contains (table_items t) y ⊎ HasElement m id t y) [
      | inl own ↦ inl own
      | inr at ↦ (let h = picked_forth filled m.elements y at in let e = at_element id h.0 (item_at m.elements h.0) y h.1 in inr (h.0, e.0, inl e.1))
    ]
    | inr listed ↦ (let h = live_forth m.elements spaces.Element (keys t.elem_segments) y listed in inr (h.0, h.1, inr (h.2, h.3)))
  ]

  table_back : (o : Option Table) (y : Item) → Contains (named_by table_items o) y ⊎ Named o (λ t. HasElement m id t y) → Contains (named_by (listed_for_table m id) o) y
  table_back None y (inl c) = absurd (none_in y c)
  table_back None y (inr h) = absurd h
  table_back (Some t) y (inl c) = Contains-append_left (table_items t ++ picked filled m.elements) (live_items m.elements spaces.Element (keys t.elem_segments)) y (Contains-append_left (table_items t) (picked filled m.elements) y c)
  table_back (Some t) y (inr (e, is, inl act)) =
      Contains-append_left (table_items t ++ picked filled m.elements) (live_items m.elements spaces.Element (keys t.elem_segments)) y
      (Contains-append_right (table_items t) (picked filled m.elements) y (picked_back filled m.elements e y (to_element id e (item_at m.elements e) y is act)))
  table_back (Some t) y (inr (e, is, inr listed)) =
      Contains-append_right (table_items t ++ picked filled m.elements) (live_items m.elements spaces.Element (keys t.elem_segments)) y (live_back m.elements spaces.Element (keys t.elem_segments) y e is listed.0 listed.1)

  pub table_is : (y : Item) → Contains (named_by (listed_for_table m id) (item_at m.tables id)) y ↔ RefersIn m spaces.Table id y
  table_is y = (table_forth (item_at m.tables id) y, table_back (item_at m.tables id) y)

  memory_forth : (o : Option Memory) (y : Item) → Contains (named_by (listed_for_memory m id) o) y → Named o (λ x. HasData m id x y)
  memory_forth None y c = absurd (none_in y c)
  memory_forth (Some x) y c = elim (Contains-append_cases (picked copied m.data_segments) (live_items m.data_segments spaces.Data (keys x.data_segments)) y c) as (λ _. HasData m id x y) [
    | inl at ↦ (let h = picked_forth copied m.data_segments y at in let d = at_data id h.0 (item_at m.data_segments h.0) y h.1 in (h.0, d.0, inl d.1))
    | inr listed ↦ (let h = live_forth m.data_segments spaces.Data (keys x.data_segments) y listed in (h.0, h.1, inr (h.2, h.3)))
  ]

  memory_back : (o : Option Memory) (y : Item) → Named o (λ x. HasData m id x y) → Contains (named_by (listed_for_memory m id) o) y
  memory_back None y h = absurd h
  memory_back (Some x) y (d, is, inl act) = Contains-append_left (picked copied m.data_segments) (live_items m.data_segments spaces.Data (keys x.data_segments)) y (picked_back copied m.data_segments d y (to_data id d (item_at m.data_segments d) y is act))
  memory_back (Some x) y (d, is, inr listed) = Contains-append_right (picked copied m.data_segments) (live_items m.data_segments spaces.Data (keys x.data_segments)) y (live_back m.data_segments spaces.Data (keys x.data_segments) y d is listed.0 listed.1)

  pub memory_is : (y : Item) → Contains (named_by (listed_for_memory m id) (item_at m.memories id)) y ↔ RefersIn m spaces.Memory id y
  memory_is y = (memory_forth (item_at m.memories id) y, memory_back (item_at m.memories id) y)
