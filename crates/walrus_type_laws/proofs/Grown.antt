-- Tables with one more group, and what is kept of them by adds and by parsing.
use Rattle.std.proofs.Common.{◌≡◌, ◌∙◌, ℕ, zero, suc, ◌+◌, ◌<◌, ◌⊎◌, inl, inr, Bool, true, false, Contains, List, [], ◌∷◌, ◌++◌, length, map, Option, Some, None, if◌then◌else◌, refl, sym, ap, subst, arith}
use Rattle.std.specs.Prelude.{slice_index_or, MatchOption}
use Rattle.std.specs.List.{slice_get, range_with_len}
use Rattle.std.proofs.lemmas.Bool.{false≢true}
use Rattle.std.proofs.lemmas.List.Elements.{All-head, All-tail, All-map}
use Rattle.std.proofs.lemmas.List.FromFn.{length-range_with_len}
use Rattle.std.proofs.lemmas.Option.{slice_get_within, get_or_from_slice_get, same_Some, none-some, MatchOption-at_none}
use Rattle.walrus_arena.proofs.ArenaLemmas.{live-within}
use Rattle.walrus_forms.specs.Kinds.{Kind}
use Rattle.walrus_forms.specs.Records.{TypeGroup}
use Rattle.walrus_forms.specs.Renaming.{at, renamed_kind}
use Rattle.walrus_types.specs.Items.{Item, Group}
use Rattle.walrus_types.specs.Groups.{new_items, group_slot}
use Rattle.walrus_types.specs.Table.{Table, type_at, group_at, next_id, names_itself, merges, latest_id, equal_type, Adds, Merges}
use Rattle.walrus_types.specs.TypeLaws.{IsLatest}
use Rattle.walrus_types.specs.Merged.{single_group, IsMerged, UnmarkedAreSingle, TypesHaveOwnIds}
use Rattle.walrus_types.specs.Parsing.{Parsed, with_group, merged, added, known_ids, parsed_group, parsed}
use Rattle.walrus_types.proofs.GroupLemmas.{new-some}
use Rattle.walrus_types.proofs.LawLemmas.{latest-law}
use Rattle.walrus_types.proofs.Places.{contains_has, at_range}
use Rattle.walrus_type_laws.specs.Ordinary.{IsOrdinary, AreOrdinary}

-- slots and more slots
pub slot_of : {X : Type 0} (xs ys : List (Option X)) (i : ℕ) (x : X) → slice_index_or (xs ++ ys) i None ≡ Some x
    → (slice_index_or xs i None ≡ Some x) ⊎ ((j : ℕ) × (length xs + j ≡ i) × (slice_index_or ys j None ≡ Some x))
slot_of [] ys i x is = inr (i, omega arith, is)
slot_of (z ∷ xs) ys zero x is = inl is
slot_of (z ∷ xs) ys (suc i) x is = elim (slot_of xs ys i x is) as (λ _. (slice_index_or (z ∷ xs) (suc i) None ≡ Some x) ⊎ ((j : ℕ) × (length (z ∷ xs) + j ≡ suc i) × (slice_index_or ys j None ≡ Some x))) [
  | inl old ↦ inl old
  | inr new ↦ inr (new.0, omega (arith, new.1), new.2)
]

pub slot_kept : {X : Type 0} (xs ys : List (Option X)) (i : ℕ) (x : X) → slice_index_or xs i None ≡ Some x → slice_index_or (xs ++ ys) i None ≡ Some x
slot_kept [] ys i x is = absurd (none-some x is)
slot_kept (z ∷ xs) ys zero x is = is
slot_kept (z ∷ xs) ys (suc i) x is = slot_kept xs ys i x is

pub slot_new : {X : Type 0} (xs ys : List (Option X)) (j i : ℕ) (x : X) → length xs + j ≡ i → slice_index_or ys j None ≡ Some x → slice_index_or (xs ++ ys) i None ≡ Some x
slot_new [] ys j i x place is = let e : j ≡ i = omega (arith, place) in ap (λ (n : ℕ). slice_index_or ys n None) (sym e) ∙ is
slot_new (z ∷ xs) ys j zero x place is = absurd (omega (arith, place))
slot_new (z ∷ xs) ys j (suc i) x place is = slot_new xs ys j i x (omega (arith, place)) is

-- a new type
item_new : (n : ℕ) (kinds : List Kind) (j : ℕ) (item : Item) → slice_index_or (new_items n kinds) j None ≡ Some item → (kind : Kind) × (slice_get kinds j ≡ Some kind) × (item.kind ≡ kind) × (item.id ≡ n + j)
item_new n [] j item is = absurd (none-some item is)
item_new n (k ∷ kinds) zero item is =
    let made : Item = record { id = n; kind = k; name = None } in
    let e : item ≡ made = same_Some item made (sym is) in
    (k, refl, ap (λ (x : Item). x.kind) e, omega (arith, ap (λ (x : Item). x.id) e))
item_new n (k ∷ kinds) (suc j) item is = let rest = item_new (n + 1) kinds j item is in (rest.0, rest.1, rest.2, omega (arith, rest.3))

-- a new group
group_new : (explicit : Bool) (ids : List ℕ) (j : ℕ) (g : Group) → slice_index_or (group_slot explicit ids) j None ≡ Some g → g ≡ record { explicit = explicit; types = ids }
group_new explicit [] j g is = absurd (none-some g is)
group_new explicit (id ∷ ids) zero g is = sym (same_Some (record { explicit = explicit; types = id ∷ ids }) g is)
group_new explicit (id ∷ ids) (suc j) g is = absurd (none-some g is)

one_kind : (kinds : List Kind) → length kinds ≡ 1 → (k : Kind) × (kinds ≡ k ∷ [])
one_kind [] one = absurd (omega (arith, one))
one_kind (k ∷ []) one = (k, refl)
one_kind (k ∷ l ∷ kinds) one = absurd (omega (arith, one))

at_one : (k kind : Kind) (j : ℕ) → slice_get (k ∷ []) j ≡ Some kind → (j ≡ 0) × (k ≡ kind)
at_one k kind zero is = (refl, same_Some k kind is)
at_one k kind (suc j) is = absurd (none-some kind is)

-- a group that is added to a table: an entry type is alone, one without a mark has one type, which merges with none
pub record Fits (explicit : Bool) (kinds : List Kind) (t : Table) : Type 0 where
  pub lone : (i : ℕ) (kind : Kind) → slice_get kinds i ≡ Some kind → kind.entry ≡ true → length kinds ≡ 1
  pub single : explicit ≡ false → length kinds ≡ 1
  pub apart : explicit ≡ false → (kind : Kind) → kinds ≡ kind ∷ [] → names_itself (next_id t) kind ≡ false → (a : ℕ) (x : Item) → type_at t a ≡ Some x → merges kind (a, x) ≡ false

pub record Inner (t : Table) : Type 0 where
  pub live : (place : ℕ) (group : Group) → group_at t place ≡ Some group → (id : ℕ) → Contains group.types id → (item : Item) × (type_at t id ≡ Some item)
  pub merged : IsMerged t
  pub single : UnmarkedAreSingle t

module _ (explicit : Bool) (kinds : List Kind) (t : Table) where
  abbrev n : ℕ
  n = next_id t

  abbrev ids : List ℕ
  ids = range_with_len (next_id t) (length kinds)

  abbrev u : Table
  u = with_group explicit kinds t

  old_item : (id : ℕ) (item : Item) → id < n → type_at u id ≡ Some item → type_at t id ≡ Some item
  old_item id item less is = elim (slot_of t.types (new_items n kinds) id item is) as (λ _. type_at t id ≡ Some item) [
    | inl old ↦ old
    | inr new ↦ absurd (omega (arith, new.1, less))
  ]

  -- a member of the new group
  record Member (id : ℕ) : Type 0 where
    place : ℕ
    small : place < length kinds
    is : id ≡ n + place

  member : (g : Group) (id : ℕ) → g ≡ record { explicit = explicit; types = ids } → Contains g.types id → Member id
  member g id made c =
      let h = contains_has ids id (subst (λ (w : Group). Contains w.types id) made c) in
      let r = at_range n (length kinds) h.0 id h.1 in
      record { place = h.0; small = r.0; is = r.1 }

  new_item : (id : ℕ) (item : Item) → type_at u id ≡ Some item → (j : ℕ) → id ≡ n + j → (kind : Kind) × (slice_get kinds j ≡ Some kind) × (item.kind ≡ kind) × (item.id ≡ id)
  new_item id item is j place = elim (slot_of t.types (new_items n kinds) id item is) as (λ _. (kind : Kind) × (slice_get kinds j ≡ Some kind) × (item.kind ≡ kind) × (item.id ≡ id)) [
    | inl old ↦ absurd (omega (arith, live-within t.types id item old, place))
    | inr new ↦
        let e : new.0 ≡ j = omega (arith, new.1, place) in
        let i = item_new n kinds new.0 item new.2 in
        (i.0, ap (λ (k : ℕ). slice_get kinds k) (sym e) ∙ i.1, i.2, omega (arith, i.3, new.1))
  ]

  pub grown_own : TypesHaveOwnIds t → TypesHaveOwnIds u
  grown_own own = λ id item is. elim (slot_of t.types (new_items n kinds) id item is) as (λ _. item.id ≡ id) [
    | inl old ↦ own id item old
    | inr new ↦ let i = item_new n kinds new.0 item new.2 in omega (arith, i.3, new.1)
  ]

  module _ (inner : Inner t) (fits : Fits explicit kinds t) where
    old_member : (place : ℕ) (g : Group) → group_at t place ≡ Some g → (id : ℕ) → Contains g.types id → id < n
    old_member place g is id c = let l = inner.live place g is id c in live-within t.types id l.0 l.1

    grown_live : (place : ℕ) (g : Group) → group_at u place ≡ Some g → (id : ℕ) → Contains g.types id → (item : Item) × (type_at u id ≡ Some item)
    grown_live place g is id c = elim (slot_of t.groups (group_slot explicit ids) place g is) as (λ _. (item : Item) × (type_at u id ≡ Some item)) [
      | inl old ↦ let l = inner.live place g old id c in (l.0, slot_kept t.types (new_items n kinds) id l.0 l.1)
      | inr new ↦
          let m = member g id (group_new explicit ids new.0 g new.2) c in
          let made = new-some n kinds m.place m.small in
          (made.0, slot_new t.types (new_items n kinds) m.place id made.0 (sym m.is) made.1)
    ]

    grown_apart : (place a b : ℕ) (x y : Item) → group_at u place ≡ Some (single_group b) → type_at u b ≡ Some y → names_itself b y.kind ≡ false
        → a < b → type_at u a ≡ Some x → merges y.kind (a, x) ≡ false
    grown_apart place a b x y is is_b apart_b less is_a = elim (slot_of t.groups (group_slot explicit ids) place (single_group b) is) as (λ _. merges y.kind (a, x) ≡ false) [
      | inl old ↦
          let small : b < n = old_member place (single_group b) old b (0, omega arith, refl) in
          inner.merged.apart place a b x y old (old_item b y small is_b) apart_b less (old_item a x (omega (arith, less, small)) is_a)
      | inr new ↦
          let made = group_new explicit ids new.0 (single_group b) new.2 in
          let unmarked : explicit ≡ false = sym (ap (λ (g : Group). g.explicit) made) in
          let one = one_kind kinds (fits.single unmarked) in
          let m = member (single_group b) b made (0, omega arith, refl) in
          let i = new_item b y is_b m.place m.is in
          let same = at_one one.0 i.0 m.place (ap (λ (ks : List Kind). slice_get ks m.place) (sym one.1) ∙ i.1) in
          let kind : one.0 ≡ y.kind = same.1 ∙ sym i.2 in
          let here : b ≡ n = omega (arith, m.is, same.0) in
          let apart_n : names_itself n one.0 ≡ false = ap (λ (k : Kind). names_itself n k) kind ∙ ap (λ (z : ℕ). names_itself z y.kind) (sym here) ∙ apart_b in
          ap (λ (k : Kind). merges k (a, x)) (sym kind) ∙ fits.apart unmarked one.0 one.1 apart_n a x (old_item a x (omega (arith, less, here)) is_a)
    ]

    grown_entries : (place : ℕ) (g : Group) → group_at u place ≡ Some g → (id : ℕ) (item : Item) → Contains g.types id → type_at u id ≡ Some item → item.kind.entry ≡ true → g.types ≡ id ∷ []
    grown_entries place g is id item c is_id entry = elim (slot_of t.groups (group_slot explicit ids) place g is) as (λ _. g.types ≡ id ∷ []) [
      | inl old ↦ inner.merged.entries place g old id item c (old_item id item (old_member place g old id c) is_id) entry
      | inr new ↦
          let made = group_new explicit ids new.0 g new.2 in
          let m = member g id made c in
          let i = new_item id item is_id m.place m.is in
          let one : length kinds ≡ 1 = fits.lone m.place i.0 i.1 (ap (λ (k : Kind). k.entry) (sym i.2) ∙ entry) in
          let small = m.small in
          let here : n ≡ id = omega (arith, m.is, small, one) in
          ap (λ (w : Group). w.types) made ∙ ap (λ (c : ℕ). range_with_len n c) one ∙ ap (λ (z : ℕ). z ∷ []) here
    ]

    pub grown_inner : Inner u
    grown_inner = record {
      live = grown_live;
      merged = record { apart = grown_apart; entries = grown_entries };
      single = λ place g is unmarked. elim (slot_of t.groups (group_slot explicit ids) place g is) as (λ _. length g.types ≡ 1) [
        | inl old ↦ inner.single place g old unmarked
        | inr new ↦
            let made = group_new explicit ids new.0 g new.2 in
            ap (λ (w : Group). length w.types) made ∙ length-range_with_len n (length kinds) ∙ fits.single (sym (ap (λ (w : Group). w.explicit) made) ∙ unmarked)
      ];
    }

-- a single type with which none merges
fits_single : (t : Table) (kind : Kind) → equal_type kind t ≡ None → Fits false (kind ∷ []) t
fits_single t kind none = record {
  lone = λ i k is entry. refl;
  single = λ unmarked. refl;
  apart = λ unmarked k is apart a x live.
      let same : kind ≡ k = same_Some kind k (ap (λ (ks : List Kind). slice_get ks 0) is) in
      let free : names_itself (next_id t) kind ≡ false = ap (λ (y : Kind). names_itself (next_id t) y) same ∙ apart in
      let latest : latest_id (merges kind) t ≡ None = ap (λ (b : Bool). if b then None else latest_id (merges kind) t) (sym free) ∙ none in
      let fails = MatchOption-at_none ((id : ℕ) (item : Item) → type_at t id ≡ Some item → merges kind (id, item) ≡ false) (IsLatest (merges kind) t) latest (latest-law t (merges kind)) in
      ap (λ (y : Kind). merges y (a, x)) (sym same) ∙ fails a x live;
}

abbrev pub PlainKinds : List Kind → Type 0
PlainKinds kinds = (i : ℕ) (kind : Kind) → slice_get kinds i ≡ Some kind → kind.entry ≡ false

pub fits_marked : (t : Table) (kinds : List Kind) → PlainKinds kinds → Fits true kinds t
fits_marked t kinds plain = record {
  lone = λ i kind is entry. absurd (false≢true (sym (plain i kind is) ∙ entry));
  single = λ unmarked. absurd (false≢true (sym unmarked));
  apart = λ unmarked kind is apart a x live. absurd (false≢true (sym unmarked));
}

-- what each add of a group keeps is kept
module _ (P : Table → Type 0) (step : (explicit : Bool) (kinds : List Kind) (t : Table) → P t → Fits explicit kinds t → P (with_group explicit kinds t)) where
  adds_kept : (kind : Kind) (id : ℕ) (old new : Table) → equal_type kind old ≡ None → Adds kind id old new → P old → P new
  adds_kept kind id old new none adds p =
      let slots : List (Option Item) = old.types ++ Some (record { id = next_id old; kind = kind; name = None }) ∷ [] in
      let types : new.types ≡ slots = adds.types ∙ ap (λ (i : ℕ). old.types ++ Some (record { id = i; kind = kind; name = None }) ∷ []) adds.given in
      let groups : new.groups ≡ old.groups ++ Some (single_group (next_id old)) ∷ [] = adds.groups ∙ ap (λ (i : ℕ). old.groups ++ Some (single_group i) ∷ []) adds.given in
      let is : new ≡ with_group false (kind ∷ []) old =
      ap (λ (xs : List (Option Item)). let t : Table = record { types = xs; groups = new.groups } in t) types
      ∙ ap (λ (gs : List (Option Group)). let t : Table = record { types = slots; groups = gs } in t) groups in
      subst P (sym is) (step false (kind ∷ []) old p (fits_single old kind none))

  pub merges_kept : (kind : Kind) (id : ℕ) (old new : Table) → Merges kind id old new → P old → P new
  merges_kept kind id old new it p =
      elim (equal_type kind old) as (λ o. equal_type kind old ≡ o → MatchOption o (Adds kind id old new) (λ found. (id ≡ found) × (new ≡ old)) → P new) [
        | None ↦ λ none adds. adds_kept kind id old new none adds p
        | Some found ↦ λ is same. subst P (sym same.1) p
      ] refl it

  merged_kept : (found : Option ℕ) (kind : Kind) (s : Parsed) → equal_type kind s.table ≡ found → P s.table → P (merged found kind s).table
  merged_kept None kind s none p = step false (kind ∷ []) s.table p (fits_single s.table kind none)
  merged_kept (Some found) kind s is p = p

  added_kept : (marked : Bool) (kinds : List Kind) (s : Parsed) → PlainKinds kinds → P s.table → P (added marked kinds s).table
  added_kept true kinds s plain p = step true kinds s.table p (fits_marked s.table kinds plain)
  added_kept false [] s plain p = step true [] s.table p (fits_marked s.table [] plain)
  added_kept false (kind ∷ []) s plain p = merged_kept (equal_type kind s.table) kind s refl p
  added_kept false (kind ∷ other ∷ kinds) s plain p = step true (kind ∷ other ∷ kinds) s.table p (fits_marked s.table (kind ∷ other ∷ kinds) plain)

  pub parsed_kept : (groups : List TypeGroup) (s : Parsed) → AreOrdinary groups → P s.table → P (parsed groups s).table
  parsed_kept [] s ordinary p = p
  parsed_kept (group ∷ groups) s ordinary p =
      let r : ℕ → ℕ = at (known_ids group s) in
      let kinds : List Kind = map (renamed_kind r) group.kinds in
      let plain : PlainKinds kinds =
      λ i kind is.
      let all = All-map (λ (k : Kind). k.entry ≡ false) (renamed_kind r) group.kinds (All-head IsOrdinary group groups ordinary) in
      subst (λ (k : Kind). k.entry ≡ false) (get_or_from_slice_get kinds i kind kind is) (all i kind (slice_get_within kinds i kind is)) in
      parsed_kept groups (parsed_group group s) (All-tail IsOrdinary group groups ordinary)
      (added_kept group.marked kinds s plain p)
