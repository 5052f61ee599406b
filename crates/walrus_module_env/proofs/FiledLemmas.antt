-- Lemmas: groups that were read into a new table are filed there, whatever was added behind them.
use Rattle.std.proofs.Common.{◌≡◌, ◌∙◌, ◌⊎◌, inl, inr, ◌<◌, ◌≤◌, ◌-◌, ℕ, zero, suc, ◌+◌, Bool, true, false, List, [], ◌∷◌, ◌++◌, length, map, All, refl, sym, ap, subst, arith, if◌then◌else◌}
use Rattle.std.proofs.lemmas.Bool.{cases_lt}
use Rattle.std.proofs.lemmas.List.{length-append}
use Rattle.std.proofs.lemmas.List.Elements.{All-nil, All-cons, All-head, All-tail}
use Rattle.std.proofs.lemmas.Option.{slice_get_within}
use Rattle.std.specs.Prelude.{Option, Some, None, IfSome, MatchOption, slice_get, slice_index_or}
use Rattle.std.specs.List.{flat_map, range_with_len}
use Rattle.walrus_forms.specs.declared.value.ValType.{ValType}
use Rattle.walrus_forms.specs.declared.value.FieldType.{FieldType}
use Rattle.walrus_forms.specs.Forms.{Form, FunctionForm, StructForm, ArrayForm}
use Rattle.walrus_forms.specs.Kinds.{Kind}
use Rattle.walrus_forms.specs.Records.{TypeGroup}
use Rattle.walrus_forms.specs.Renaming.{FieldBelow, FormBelow, KindBelow, ValueBelow, at, renamed_kind}
use Rattle.walrus_forms.specs.Values.{value_name, field_name}
use Rattle.walrus_types.specs.Items.{Item}
use Rattle.walrus_types.specs.Groups.{new_items}
use Rattle.walrus_types.specs.Table.{Table, next_id, type_at, names_itself, latest_id, merges, equal_type}
use Rattle.walrus_types.specs.TypeLaws.{IsLatest}
use Rattle.walrus_types.specs.Parsing.{AreBelow, Parsed, added, known_ids, merged, parsed, parsed_group, unparsed, with_group}
use Rattle.walrus_types.proofs.LawLemmas.{latest-law}
use Rattle.walrus_types.proofs.MergerLemmas.{get-left, kind-at}
use Rattle.walrus_types.proofs.Places.{range_at}
use Rattle.walrus_functions_into.specs.walrus_types_into.Into.{TypesStand, no_types}
use Rattle.walrus_module_env.specs.Filled.{AreRising, AreFiled, HasBehind}
use Rattle.walrus_module_env.proofs.PickLemmas.{some_is, none_some}

get_right : {X : Type 0} (xs ys : List X) (i j : ℕ) → length xs + i ≡ j → slice_get (xs ++ ys) j ≡ slice_get ys i
get_right [] ys i j is = let e : j ≡ i = omega (arith, is) in ap (λ (k : ℕ). slice_get ys k) e
get_right (x ∷ xs) ys i zero is = absurd (omega (arith, is))
get_right (x ∷ xs) ys i (suc j) is = get_right xs ys i j (omega (arith, is))

within : {X : Type 0} (xs : List (Option X)) (i : ℕ) (x : X) → slice_index_or xs i None ≡ Some x → i < length xs
within [] i x e = absurd cc
within (y ∷ ys) zero x e = omega arith
within (y ∷ ys) (suc i) x e = let lt = within ys i x e in omega (arith, lt)

-- what stands in two lists one behind the other
placed : {X : Type 0} (xs ys : List X) (i : ℕ) (x : X) → slice_get (xs ++ ys) i ≡ Some x → ((i < length xs) × (slice_get xs i ≡ Some x)) ⊎ ((j : ℕ) × (i ≡ length xs + j) × (slice_get ys j ≡ Some x))
placed [] ys i x e = inr (i, omega arith, e)
placed (y ∷ xs) ys zero x e = inl (omega arith, e)
placed (y ∷ xs) ys (suc i) x e = go (placed xs ys i x e)
  where
    go : ((i < length xs) × (slice_get xs i ≡ Some x)) ⊎ ((j : ℕ) × (i ≡ length xs + j) × (slice_get ys j ≡ Some x))
        → ((suc i < length (y ∷ xs)) × (slice_get xs i ≡ Some x)) ⊎ ((j : ℕ) × (suc i ≡ length (y ∷ xs) + j) × (slice_get ys j ≡ Some x))
    go (inl (lt, is)) = inl (omega (arith, lt), is)
    go (inr (j, at, is)) = inr (j, omega (arith, at), is)

counted : (first count j id : ℕ) → slice_get (range_with_len first count) j ≡ Some id → (j < count) × (id ≡ first + j)
counted first zero j id e = absurd cc
counted first (suc count) zero id e = let is : first ≡ id = some_is first id e in (omega arith, omega (arith, is))
counted first (suc count) (suc j) id e = let c = counted (first + 1) count j id e in (omega (arith, c.0), omega (arith, c.1))

-- ---- each id of the table is that of an index, and the ids of the table alone are; they rise

record IsOrderly (s : Parsed) : Type 0 where
  named : (id : ℕ) → id < next_id s.table → (n : ℕ) × (slice_get s.ids n ≡ Some id)
  below : (n id : ℕ) → slice_get s.ids n ≡ Some id → id < next_id s.table
  rising : AreRising s.ids

items_count : (id : ℕ) (kinds : List Kind) → length (new_items id kinds) ≡ length kinds
items_count id [] = refl
items_count id (kind ∷ kinds) = ap suc (items_count (id + 1) kinds)

before_named : (ids more : List ℕ) (id : ℕ) → (n : ℕ) × (slice_get ids n ≡ Some id) → (n : ℕ) × (slice_get (ids ++ more) n ≡ Some id)
before_named ids more id named = (named.0, get-left ids more named.0 (slice_get_within ids named.0 id named.1) ∙ named.1)

-- among the ids before others they rise as before
before_rise : (ids more : List ℕ) (n x y : ℕ) → n < length ids → (x < y) ⊎ ((k : ℕ) × (k < n) × (slice_get ids k ≡ Some y)) → (x < y) ⊎ ((k : ℕ) × (k < n) × (slice_get (ids ++ more) k ≡ Some y))
before_rise ids more n x y lt (inl less) = inl less
before_rise ids more n x y lt (inr (k, before, is)) = inr (k, before, get-left ids more k (omega (arith, before, lt)) ∙ is)

group_orderly : (explicit : Bool) (kinds : List Kind) (s : Parsed) → IsOrderly s
    → IsOrderly (record { ids = s.ids ++ range_with_len (next_id s.table) (length kinds); table = with_group explicit kinds s.table })
group_orderly explicit kinds s o = record { named = λ id lt. named id lt (cases_lt id first); below = λ n id e. below n id (placed s.ids news n id e); rising = λ m n x y lt e f. rise m n x y lt (placed s.ids news m x e) (placed s.ids news n y f) }
  where
    first : ℕ
    first = next_id s.table

    news : List ℕ
    news = range_with_len first (length kinds)

    size : length (s.table.types ++ new_items first kinds) ≡ first + length kinds
    size = length-append s.table.types (new_items first kinds) ∙ ap (λ (n : ℕ). first + n) (items_count first kinds)

    named : (id : ℕ) → id < length (s.table.types ++ new_items first kinds) → (id < first) ⊎ (first ≤ id) → (n : ℕ) × (slice_get (s.ids ++ news) n ≡ Some id)
    named id lt (inl before) = before_named s.ids news id (o.named id before)
    named id lt (inr le) =
        let within : id - first < length kinds = omega (arith, lt, le, size) in
        let same : first + (id - first) ≡ id = omega (arith, le) in (
          length s.ids + (id - first),
          get_right s.ids news (id - first) (length s.ids + (id - first)) refl ∙ range_at first (length kinds) (id - first) within ∙ ap (λ (n : ℕ). Some n) same,
        )

    below : (n id : ℕ) → ((n < length s.ids) × (slice_get s.ids n ≡ Some id)) ⊎ ((j : ℕ) × (n ≡ length s.ids + j) × (slice_get news j ≡ Some id)) → id < length (s.table.types ++ new_items first kinds)
    below n id (inl (lt, e)) = let less = o.below n id e in omega (arith, less, size)
    below n id (inr (j, at, e)) = let c = counted first (length kinds) j id e in omega (arith, c.0, c.1, size)

    rise : (m n x y : ℕ) → m < n → ((m < length s.ids) × (slice_get s.ids m ≡ Some x)) ⊎ ((j : ℕ) × (m ≡ length s.ids + j) × (slice_get news j ≡ Some x))
        → ((n < length s.ids) × (slice_get s.ids n ≡ Some y)) ⊎ ((j : ℕ) × (n ≡ length s.ids + j) × (slice_get news j ≡ Some y))
        → (x < y) ⊎ ((k : ℕ) × (k < n) × (slice_get (s.ids ++ news) k ≡ Some y))
    rise m n x y lt (inl (a, e)) (inl (b, f)) = before_rise s.ids news n x y b (o.rising m n x y lt e f)
    rise m n x y lt (inr (i, at, e)) (inl (b, f)) = absurd (omega (arith, lt, at, b))
    rise m n x y lt (inl (a, e)) (inr (j, at, f)) = let less = o.below m x e in let c = counted first (length kinds) j y f in inl (omega (arith, less, c.1))
    rise m n x y lt (inr (i, at, e)) (inr (j, bt, f)) =
        let c = counted first (length kinds) i x e in
        let d = counted first (length kinds) j y f in
        inl (omega (arith, lt, at, bt, c.1, d.1))

one_only : {X : Type 0} (x y : X) (j : ℕ) → slice_get (x ∷ []) j ≡ Some y → x ≡ y
one_only x y zero e = some_is x y e
one_only x y (suc j) e = absurd cc

merged_orderly : (o : Option ℕ) (kind : Kind) (s : Parsed) → ((found : ℕ) → o ≡ Some found → found < next_id s.table) → IsOrderly s → IsOrderly (merged o kind s)
merged_orderly None kind s there h = group_orderly false (kind ∷ []) s h
merged_orderly (Some found) kind s there h = record {
  named = λ id lt. before_named s.ids (found ∷ []) id (h.named id lt);
  below = λ n id e. below n id (placed s.ids (found ∷ []) n id e);
  rising = λ m n x y lt e f. rise m n x y lt e (placed s.ids (found ∷ []) n y f);
}
  where
    lives : found < next_id s.table
    lives = there found refl

    below : (n id : ℕ) → ((n < length s.ids) × (slice_get s.ids n ≡ Some id)) ⊎ ((j : ℕ) × (n ≡ length s.ids + j) × (slice_get (found ∷ []) j ≡ Some id)) → id < next_id s.table
    below n id (inl (lt, e)) = h.below n id e
    below n id (inr (j, at, e)) = subst (λ (x : ℕ). x < next_id s.table) (one_only found id j e) lives

    rise : (m n x y : ℕ) → m < n → slice_get (s.ids ++ found ∷ []) m ≡ Some x → ((n < length s.ids) × (slice_get s.ids n ≡ Some y)) ⊎ ((j : ℕ) × (n ≡ length s.ids + j) × (slice_get (found ∷ []) j ≡ Some y))
        → (x < y) ⊎ ((k : ℕ) × (k < n) × (slice_get (s.ids ++ found ∷ []) k ≡ Some y))
    rise m n x y lt e (inl (b, f)) = before_rise s.ids (found ∷ []) n x y b (h.rising m n x y lt (sym (get-left s.ids (found ∷ []) m (omega (arith, lt, b))) ∙ e) f)
    rise m n x y lt e (inr (j, at, f)) =
        let k = h.named found lives in
        let within = slice_get_within s.ids k.0 found k.1 in
        inr (k.0, omega (arith, at, within), get-left s.ids (found ∷ []) k.0 within ∙ k.1 ∙ ap (λ (z : ℕ). Some z) (one_only found y j f))

-- the type that a new one stands for has an id of the table
equal_below : (kind : Kind) (t : Table) (found : ℕ) → equal_type kind t ≡ Some found → found < next_id t
equal_below kind t found e = go (names_itself (next_id t) kind) e
  where
    go : (b : Bool) → (if b then None else latest_id (merges kind) t) ≡ Some found → found < next_id t
    go true e = none_some found e
    go false e =
        let latest : IsLatest (merges kind) t found = subst (λ (o : Option ℕ). MatchOption o ((id : ℕ) (item : Item) → type_at t id ≡ Some item → merges kind (id, item) ≡ false) (IsLatest (merges kind) t)) e (latest-law t (merges kind)) in
        within t.types found latest.item latest.live

added_orderly : (explicit : Bool) (kinds : List Kind) (s : Parsed) → IsOrderly s → IsOrderly (added explicit kinds s)
added_orderly true kinds s h = group_orderly true kinds s h
added_orderly false [] s h = group_orderly true [] s h
added_orderly false (kind ∷ []) s h = merged_orderly (equal_type kind s.table) kind s (equal_below kind s.table) h
added_orderly false (kind ∷ (k ∷ ks)) s h = group_orderly true (kind ∷ (k ∷ ks)) s h

all_orderly : (groups : List TypeGroup) (s : Parsed) → IsOrderly s → IsOrderly (parsed groups s)
all_orderly [] s h = h
all_orderly (g ∷ groups) s h = all_orderly groups (parsed_group g s) (added_orderly g.marked (map (renamed_kind (at (known_ids g s))) g.kinds) s h)

none_orderly : IsOrderly (unparsed no_types)
none_orderly = record { named = λ id lt. absurd (omega (arith, lt)); below = λ n id e. none_some id e; rising = λ m n x y lt e f. none_some x e }

-- ---- each names types that are there

all_more : {X : Type 0} (P Q : X → Type 0) → ((x : X) → P x → Q x) → (xs : List X) → All P xs → All Q xs
all_more P Q f [] h = All-nil Q
all_more P Q f (x ∷ xs) h = All-cons Q x xs (f x (All-head P x xs h)) (all_more P Q f xs (All-tail P x xs h))

name_more : (m n : ℕ) → m ≤ n → (o : Option ℕ) → IfSome o (λ name. name < m) → IfSome o (λ name. name < n)
name_more m n le None h = h
name_more m n le (Some name) h = omega (arith, le, h)

form_more : (m n : ℕ) → m ≤ n → (form : Form) → FormBelow m form → FormBelow n form
form_more m n le (FunctionForm params results) h =
    let value : (ty : ValType) → ValueBelow m ty → ValueBelow n ty = λ ty h. name_more m n le (value_name ty) h in
    (all_more (ValueBelow m) (ValueBelow n) value params h.0, all_more (ValueBelow m) (ValueBelow n) value results h.1)
form_more m n le (StructForm fields) h = all_more (FieldBelow m) (FieldBelow n) (λ (field : FieldType) h. name_more m n le (field_name field) h) fields h
form_more m n le (ArrayForm field) h = name_more m n le (field_name field) h

kind_more : (m n : ℕ) → m ≤ n → (kind : Kind) → KindBelow m kind → KindBelow n kind
kind_more m n le kind h = (form_more m n le kind.form h.0, name_more m n le kind.supertype h.1)

abbrev kinds_of : List TypeGroup → List Kind
kinds_of groups = flat_map (λ (g : TypeGroup). g.kinds) groups

names_there : (groups : List TypeGroup) (n index : ℕ) (kind : Kind) → AreBelow n groups → slice_get (kinds_of groups) index ≡ Some kind → KindBelow (n + length (kinds_of groups)) kind
names_there [] n index kind below there = absurd cc
names_there (g ∷ groups) n index kind below there = go (cases_lt index (length g.kinds)) (λ i there. names_there groups (n + length g.kinds) i kind below.1 there)
  where
    size : length (kinds_of (g ∷ groups)) ≡ length g.kinds + length (kinds_of groups)
    size = length-append g.kinds (kinds_of groups)

    go : (index < length g.kinds) ⊎ (length g.kinds ≤ index)
        → ((i : ℕ) → slice_get (kinds_of groups) i ≡ Some kind → KindBelow (n + length g.kinds + length (kinds_of groups)) kind)
        → KindBelow (n + length (kinds_of (g ∷ groups))) kind
    go (inl before) later =
        kind_more (n + length g.kinds) (n + length (kinds_of (g ∷ groups))) (omega (arith, size)) kind
        (kind-at (KindBelow (n + length g.kinds)) g.kinds index kind (sym (get-left g.kinds (kinds_of groups) index before) ∙ there) below.0)
    go (inr le) later =
        let same : length g.kinds + (index - length g.kinds) ≡ index = omega (arith, le) in
        kind_more (n + length g.kinds + length (kinds_of groups)) (n + length (kinds_of (g ∷ groups))) (omega (arith, size)) kind
        (later (index - length g.kinds) (sym (get_right g.kinds (kinds_of groups) (index - length g.kinds) index same) ∙ there))

-- ---- and stands in a table with more behind

front : {X : Type 0} (xs ys : List (Option X)) (i : ℕ) → i < length xs → slice_index_or (xs ++ ys) i None ≡ slice_index_or xs i None
front [] ys i lt = absurd (omega (arith, lt))
front (x ∷ xs) ys zero lt = refl
front (x ∷ xs) ys (suc i) lt = front xs ys i (omega (arith, lt))

filed : (groups : List TypeGroup) (p : Parsed) (t : Table) → AreBelow 0 groups → IsOrderly p → TypesStand groups p.ids p.table → HasBehind p.table t → AreFiled (kinds_of groups) p.ids (next_id p.table) t
filed groups p t below o s h = record {
  sized = s.sized;
  stand = λ index kind there.
      let x = s.stand index kind there in
      let lt = within p.table.types x.0 _ x.2 in
      record { id = x.0; named = x.1; owned = lt; item = record { id = x.0; kind = renamed_kind (at p.ids) kind; name = None }; live = ap (λ (l : List (Option Item)). slice_index_or l x.0 None) h.behind ∙ front p.table.types h.more x.0 lt ∙ x.2; kind_is = refl };
  only = λ id item lt live. o.named id lt;
  names = λ index kind there.
      let size : 0 + length (kinds_of groups) ≡ length (kinds_of groups) = omega arith in
      subst (λ (n : ℕ). KindBelow n kind) (size ∙ sym s.sized) (names_there groups 0 index kind below there);
  apart = h.apart;
  rising = o.rising;
}

pub types_are_filed : (groups : List TypeGroup) (t : Table) → AreBelow 0 groups → TypesStand groups (parsed groups (unparsed no_types)).ids (parsed groups (unparsed no_types)).table
    → HasBehind (parsed groups (unparsed no_types)).table t → AreFiled (kinds_of groups) (parsed groups (unparsed no_types)).ids (next_id (parsed groups (unparsed no_types)).table) t
types_are_filed groups t below s h = filed groups (parsed groups (unparsed no_types)) t below (all_orderly groups (unparsed no_types) none_orderly) s h
