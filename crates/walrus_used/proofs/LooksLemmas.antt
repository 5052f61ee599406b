-- What is looked at reaches what references reach.
use Rattle.std.proofs.Common.{◌≡◌, ◌∙◌, ◌⊎◌, ◌<◌, ◌==◌, ℕ, zero, suc, Bool, true, false, List, [], ◌∷◌, ◌++◌, length, map, get_or, Option, Some, None, Contains, refl, sym, ap, subst, inl, inr, arith, if◌then◌else◌}
use Rattle.std.specs.Prelude.{is_some, MatchOption}
use Rattle.std.specs.HashSet.{keys}
use Rattle.std.proofs.lemmas.List.{get_or_past}
use Rattle.std.proofs.lemmas.List.Elements.{Contains-append_left, Contains-append_right, Contains-append_cases}
use Rattle.std.proofs.lemmas.Bool.{cases_eq, cases_lt, eq-eqb, ne_eqb}
use Rattle.wasm_formats.specs.declared.fault.Space.{Space}
use Rattle.wasm_formats.specs.declared.fault.Space.TheVariants as spaces
use Rattle.walrus_arena.specs.Arena.{Arena, item_at, IsLive}
use Rattle.walrus_items.specs.Items.{Group}
use Rattle.walrus_types.specs.Table.{HasMember}
use Rattle.walrus_references.specs.walrus_module_items.declared.table.Table.{Table}
use Rattle.walrus_references.specs.walrus_module_items.declared.memory.Memory.{Memory}
use Rattle.walrus_references.specs.walrus_module_items.declared.data.Data.{Data}
use Rattle.walrus_references.specs.walrus_module_items.declared.data.DataKind.{DataKind}
use Rattle.walrus_references.specs.walrus_module_items.declared.data.DataKind.TheVariants as datas
use Rattle.walrus_references.specs.walrus_module.Parts.{Module}
use Rattle.walrus_roots.specs.declared.item.Item.{Item}
use Rattle.walrus_roots.specs.Items.{item}
use Rattle.walrus_marks.specs.Chains.{Chain, root, refers}
use Rattle.walrus_references.specs.References.{Refers, RefersIn, Named, named_by, table_items, HasElement, HasData, IsCopiedInto}
use Rattle.walrus_references.specs.Roots.{Root, is_active}
use Rattle.walrus_used.specs.Looks.{Looks, LooksIn, AreActive, group_items, live_items, table_looks, memory_looks}

pub none_in : {X : Type 0} (x : X) → Contains [] x → ⊥
none_in x c = omega (arith, c.1)

pub first_in : {X : Type 0} (x : X) (xs : List X) → Contains (x ∷ xs) x
first_in x xs = (0, omega arith, refl)

later_in : {X : Type 0} (y : X) (xs : List X) (x : X) → Contains xs x → Contains (y ∷ xs) x
later_in y xs x c = (suc c.0, omega (arith, c.1), c.2)

at_cases : {X : Type 0} (y : X) (xs : List X) (x : X) (k : ℕ) → k < length (y ∷ xs) → get_or (y ∷ xs) k x ≡ x → (y ≡ x) ⊎ Contains xs x
at_cases y xs x zero below e = inl e
at_cases y xs x (suc k) below e = inr (k, omega arith, e)

pub cases_in : {X : Type 0} (y : X) (xs : List X) (x : X) → Contains (y ∷ xs) x → (y ≡ x) ⊎ Contains xs x
cases_in y xs x c = at_cases y xs x c.0 c.1 c.2

pub only_in : {X : Type 0} (y x : X) → Contains (y ∷ []) x → y ≡ x
only_in y x c = elim (cases_in y [] x c) as (λ _. y ≡ x) [ inl e ↦ e | inr d ↦ absurd (none_in x d) ]

-- ---- groups
in_group : (id : ℕ) (members : List ℕ) (y : Item) → Contains (group_items id members) y → Contains (map (item spaces.Type) members) y
in_group id [] y c = c
in_group id (first ∷ rest) y c =
    elim (id == first) as (λ b. Contains (if b then map (item spaces.Type) (first ∷ rest) else item spaces.Type first ∷ []) y → Contains (map (item spaces.Type) (first ∷ rest)) y) [
      | true ↦ λ d. d
      | false ↦ λ d. Contains-append_left (item spaces.Type first ∷ []) (map (item spaces.Type) rest) y d
    ] c

by_first : (id first : ℕ) (rest : List ℕ) (y : Item) → id ≡ first → Contains (map (item spaces.Type) (first ∷ rest)) y → Contains (group_items id (first ∷ rest)) y
by_first id first rest y e c = rw (eq-eqb id first e) c

to_first : (id first : ℕ) (rest : List ℕ) → (id ≡ first → ⊥) → Contains (group_items id (first ∷ rest)) (item spaces.Type first)
to_first id first rest other = rw (ne_eqb id first other) (first_in (item spaces.Type first) [])

-- ---- segments that are listed
pub one_live : (b : Bool) (i y : Item) → Contains (if b then i ∷ [] else []) y → (b ≡ true) × (i ≡ y)
one_live true i y c = (refl, only_in i y c)
one_live false i y c = absurd (none_in y c)

pub one_back : (b : Bool) (i y : Item) → b ≡ true → i ≡ y → Contains (if b then i ∷ [] else []) y
one_back true i y e same = subst (λ z. Contains (i ∷ []) z) same (first_in i [])
one_back false i y e same = absurd cc

module _ {T : Type 0} (a : Arena T) (space : Space) where
  live_forth : (ids : List ℕ) (y : Item) → Contains (live_items a space ids) y → (id : ℕ) × (y ≡ item space id) × Contains ids id × IsLive a id
  live_forth [] y c = absurd (none_in y c)
  live_forth (i ∷ ids) y c = elim (Contains-append_cases (if is_some (item_at a i) then item space i ∷ [] else []) (live_items a space ids) y c) as (λ _. (id : ℕ) × (y ≡ item space id) × Contains (i ∷ ids) id × IsLive a id) [
    | inl l ↦ (let h = one_live (is_some (item_at a i)) (item space i) y l in (i, sym h.1, first_in i ids, h.0))
    | inr r ↦ (let h = live_forth ids y r in (h.0, h.1, later_in i ids h.0 h.2, h.3))
  ]

  live_back : (ids : List ℕ) (y : Item) (id : ℕ) → y ≡ item space id → Contains ids id → IsLive a id → Contains (live_items a space ids) y
  live_back [] y id is c live = absurd (none_in id c)
  live_back (i ∷ ids) y id is c live = elim (cases_in i ids id c) as (λ _. Contains (live_items a space (i ∷ ids)) y) [
    | inl e ↦ Contains-append_left (if is_some (item_at a i) then item space i ∷ [] else []) (live_items a space ids) y
        (one_back (is_some (item_at a i)) (item space i) y (subst (λ k. IsLive a k) (sym e) live) (ap (item space) e ∙ sym is))
    | inr d ↦ Contains-append_right (if is_some (item_at a i) then item space i ∷ [] else []) (live_items a space ids) y (live_back ids y id is d live)
  ]

-- ---- what is there has an id
pub named_below : {A : Type 0} (f : A → List Item) (slots : List (Option A)) (id : ℕ) (y : Item) → Contains (named_by f (get_or slots id None)) y → id < length slots
named_below f slots id y c = elim (cases_lt id (length slots)) as (λ _. id < length slots) [
  | inl below ↦ below
  | inr past ↦ absurd (none_in y (subst (λ o. Contains (named_by f o) y) (get_or_past slots id None past) c))
]

module _ (m : Module) (active : List (List Item)) (ok : AreActive m active) where
  table_forth : (id : ℕ) (o : Option Table) (y : Item) → Contains (named_by (table_looks m active id) o) y → Contains (named_by table_items o) y ⊎ Named o (λ t. HasElement m id t y)
  table_forth id None y c = inl c
  table_forth id (Some t) y c = elim (Contains-append_cases (table_items t ++ live_items m.elements spaces.Element (keys t.elem_segments)) (get_or active id []) y c) as (λ _. Contains (table_items t) y ⊎ HasElement m id t y) [
    | inl l ↦ elim (Contains-append_cases (table_items t) (live_items m.elements spaces.Element (keys t.elem_segments)) y l) as (λ _. Contains (table_items t) y ⊎ HasElement m id t y) [
      | inl own ↦ inl own
      | inr listed ↦ (let h = live_forth m.elements spaces.Element (keys t.elem_segments) y listed in inr (h.0, h.1, inr (h.2, h.3)))
    ]
    | inr at ↦ (let h = ok.only id y at in inr (h.0, h.1, inl h.2))
  ]

  memory_forth : (id : ℕ) (o : Option Memory) (y : Item) → Contains (named_by (memory_looks m) o) y → Named o (λ x. HasData m id x y)
  memory_forth id None y c = absurd (none_in y c)
  memory_forth id (Some x) y c = (let h = live_forth m.data_segments spaces.Data (keys x.data_segments) y c in (h.0, h.1, inr (h.2, h.3)))

  looks_in : (space : Space) (id : ℕ) (y : Item) → LooksIn m active space id y → RefersIn m space id y
  looks_in spaces.Type id y (inl c) = inl c
  looks_in spaces.Type id y (inr h) = inr (h.0, h.1, h.2, in_group id h.0.types y h.3)
  looks_in spaces.Function id y h = h
  looks_in spaces.Table id y h = table_forth id (item_at m.tables id) y h
  looks_in spaces.Memory id y h = memory_forth id (item_at m.memories id) y h
  looks_in spaces.Tag id y h = h
  looks_in spaces.Global id y h = h
  looks_in spaces.Element id y h = h
  looks_in spaces.Data id y h = h
  looks_in spaces.Local id y h = h
  looks_in spaces.Label id y h = h

  pub looks_refer : (x y : Item) → Looks m active x y → Refers m x y
  looks_refer x y h = looks_in x.space x.id y h

  module _ (pushed : List Item) where
    abbrev Looked : Item → Type 0
    Looked x = Chain (Root m pushed) (Looks m active) x

    group_on : (id : ℕ) (group : Group) (y : Item) → Looked (item spaces.Type id) → HasMember m.types id group → group.explicit ≡ true → (members : List ℕ) → group.types ≡ members → Contains (map (item spaces.Type) members) y → Looked y
    group_on id group y k has ex [] is c = absurd (none_in y c)
    group_on id group y k has ex (first ∷ rest) is c = elim (cases_eq id first) as (λ _. Looked y) [
      | inl e ↦ refers k (inr (group, has, ex, subst (λ (ms : List ℕ). Contains (group_items id ms) y) (sym is) (by_first id first rest y e c)))
      | inr other ↦
          let one : Looked (item spaces.Type first) = refers k (inr (group, has, ex, subst (λ (ms : List ℕ). Contains (group_items id ms) (item spaces.Type first)) (sym is) (to_first id first rest other))) in
          let has_first : HasMember m.types first group = record { place = has.place; live = has.live; listed = subst (λ (ms : List ℕ). Contains ms first) (sym is) (first_in first rest) } in
          refers one (inr (group, has_first, ex, subst (λ (ms : List ℕ). Contains (group_items first ms) y) (sym is) (by_first first first rest y refl c)))
    ]

    table_back : (id : ℕ) (o : Option Table) (y : Item) → id < length m.tables.slots ⊎ (o ≡ None) → Contains (named_by table_items o) y ⊎ Named o (λ t. HasElement m id t y) → Contains (named_by (table_looks m active id) o) y
    table_back id None y below (inl c) = c
    table_back id None y below (inr h) = absurd h
    table_back id (Some t) y below (inl c) = Contains-append_left (table_items t ++ live_items m.elements spaces.Element (keys t.elem_segments)) (get_or active id []) y (Contains-append_left (table_items t) (live_items m.elements spaces.Element (keys t.elem_segments)) y c)
    table_back id (Some t) y below (inr (e, is, inr listed)) =
        Contains-append_left (table_items t ++ live_items m.elements spaces.Element (keys t.elem_segments)) (get_or active id []) y
        (Contains-append_right (table_items t) (live_items m.elements spaces.Element (keys t.elem_segments)) y (live_back m.elements spaces.Element (keys t.elem_segments) y e is listed.0 listed.1))
    table_back id (Some t) y (inl below) (inr (e, is, inl act)) =
        Contains-append_right (table_items t ++ live_items m.elements spaces.Element (keys t.elem_segments)) (get_or active id []) y (ok.all id y below (e, is, act))
    table_back id (Some t) y (inr none) (inr (e, is, inl act)) = absurd (let h : Some t ≡ None = none in cc)

    table_there : (id : ℕ) → id < length m.tables.slots ⊎ (item_at m.tables id ≡ None)
    table_there id = elim (cases_lt id (length m.tables.slots)) as (λ _. id < length m.tables.slots ⊎ (item_at m.tables id ≡ None)) [ inl below ↦ inl below | inr past ↦ inr (get_or_past m.tables.slots id None past) ]

    active_kind : (d x : ℕ) (segment : Data) (kind : DataKind) → item_at m.data_segments d ≡ Some segment → segment.kind ≡ kind → IsCopiedInto x kind → Looked (item spaces.Data d)
    active_kind d x segment (datas.Active memory offset) at is h = root (is_active d memory offset segment at is)
    active_kind d x segment datas.Passive at is h = absurd h

    active_root : (d x : ℕ) (o : Option Data) → item_at m.data_segments d ≡ o → MatchOption o ⊥ (λ segment. IsCopiedInto x segment.kind) → Looked (item spaces.Data d)
    active_root d x None at h = absurd h
    active_root d x (Some segment) at h = active_kind d x segment segment.kind at refl h

    memory_on : (id : ℕ) (o : Option Memory) (y : Item) → item_at m.memories id ≡ o → Looked (item spaces.Memory id) → Named o (λ x. HasData m id x y) → Looked y
    memory_on id None y at k h = absurd h
    memory_on id (Some x) y at k (d, is, inl act) = subst Looked (sym is) (active_root d id (item_at m.data_segments d) refl act)
    memory_on id (Some x) y at k (d, is, inr listed) =
        refers k (subst (λ (o : Option Memory). Contains (named_by (memory_looks m) o) y) (sym at) (live_back m.data_segments spaces.Data (keys x.data_segments) y d is listed.0 listed.1))

    refers_on : (space : Space) (id : ℕ) (y : Item) → Looked (item space id) → RefersIn m space id y → Looked y
    refers_on spaces.Type id y k (inl c) = refers k (inl c)
    refers_on spaces.Type id y k (inr h) = group_on id h.0 y k h.1 h.2 h.0.types refl h.3
    refers_on spaces.Function id y k h = refers k h
    refers_on spaces.Table id y k h = refers k (table_back id (item_at m.tables id) y (table_there id) h)
    refers_on spaces.Memory id y k h = memory_on id (item_at m.memories id) y refl k h
    refers_on spaces.Tag id y k h = refers k h
    refers_on spaces.Global id y k h = refers k h
    refers_on spaces.Element id y k h = refers k h
    refers_on spaces.Data id y k h = refers k h
    refers_on spaces.Local id y k h = refers k h
    refers_on spaces.Label id y k h = absurd h

    pub reached_looked : (x : Item) → Chain (Root m pushed) (Refers m) x → Looked x
    reached_looked x (root r) = root r
    reached_looked y (refers {x} k r) = refers_on x.space x.id y (reached_looked x k) r

    pub looked_reached : (x : Item) → Looked x → Chain (Root m pushed) (Refers m) x
    looked_reached x (root r) = root r
    looked_reached y (refers {x} k r) = refers (looked_reached x k) (looks_refer x y r)
