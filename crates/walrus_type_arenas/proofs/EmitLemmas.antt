-- The order and the indices of the types that are written.
use Rattle.std.proofs.Common.{◌≡◌, ℕ, ◌+◌, ◌<◌, ◌≤◌, ◌⊎◌, zero, suc, Bor, Bool, true, false, Ordering, List, [], ◌∷◌, ◌++◌, length, get_or, map, take, drop, flat_map, All, Option, Some, None, IsSome, refl, sym, ap, subst, ◌∙◌, inl, inr, arith}
use Rattle.walrus_type_arenas.specs.declared.error.IrError.TheVariants.{Memory, WrongCount, Dead, EntryOnly, Later}
use Rattle.std.specs.Prelude.{nat_lt, is_some, slice_get, slice_index_or, slice_set}
use Rattle.std.specs.List.{range_with_len}
use Rattle.std.specs.Prelude.{if◌then◌else◌}
use Rattle.std.specs.List.{filter_map, cons_option}
use Rattle.std.specs.Option.{option_map, option_map_or, option_or, option_and_then}
use Rattle.std.proofs.Math.ListN.{length-map}
use Rattle.std.proofs.lemmas.List.FromFn.{length-range_with_len, get_or-range_with_len}
use Rattle.std.proofs.lemmas.List.Sorted.{All-permutation}
use Rattle.std.proofs.Math.Seq.{get_or-append_seam}
use Rattle.std.proofs.Math.ListN.{get_or-append}
use Rattle.std.proofs.lemmas.Bool.{cases_eq, false≢true}
use Rattle.std.proofs.lemmas.List.{append-nil, length-append, length-set, get_or-set_same, get_or-set_other, take_more, drop_more, length-take-le, map-append, get_or-map, take-map}
use Rattle.std.proofs.lemmas.List.Folds.{length-flat_map-take}
use Rattle.std.proofs.lemmas.List.Elements.{Contains-push_cases, filter_map-append, filter_passes, All-nil, All-append, All-weaker}
use Rattle.std.proofs.lemmas.Option.{slice_get-get_or, slice_get_within, get_or_from_slice_get, same_Some, none-some}
use Rattle.walrus_type_index.specs.walrus_items.walrus_forms.Kinds.{Kind, kind_names}
use Rattle.walrus_type_index.specs.walrus_items.walrus_forms.Order.{kind_cmp}
use Rattle.walrus_type_index.specs.walrus_items.walrus_forms.Records.{TypeGroup}
use Rattle.walrus_type_index.specs.walrus_items.walrus_forms.Renaming.{renamed_kind}
use Rattle.walrus_type_order.specs.Order.{IsEmissionOrder}
use Rattle.walrus_type_order.specs.Views.{ordered_by, ordered_under}
use Rattle.walrus_type_index.specs.walrus_items.declared.subtype.Type.{«Type» as TypeItem}
use Rattle.walrus_type_index.specs.walrus_items.contracts.subtype.TypeOrd.TheImpl.{ghosts as type_ord}
use Rattle.walrus_type_index.specs.walrus_items.declared.subtype.RecGroup.{RecGroup}
use Rattle.walrus_type_arenas.specs.declared.error.IrError.{IrError}
use Rattle.walrus_type_index.specs.walrus_items.Items.{Item, Group, kind_of, item_of, group_of}
use Rattle.walrus_type_arenas.specs.Table.{Table, table_of, type_at}
use Rattle.walrus_type_arenas.specs.Emission.{key_of, written_groups, no_group, AreInOrder, AreIndices, shown_kind, written_kind, written_in, written_types, is_written, first_fault, fault_at, group_names, groups_fault, index_at, described_group, AreArranged, HasFault, IsRefusal}
use Rattle.walrus_type_arenas.specs.Ranks.{ranked}
use Rattle.walrus_type_index.proofs.OrderLemmas.{type_ord-kinds}
use Rattle.walrus_type_arenas.proofs.RankLemmas.{rank-first}
use Rattle.std.specs.Ordering.{ordering_then, nat_cmp}

-- a key seen through its type's kind
abbrev seen : ℕ × Bor TypeItem → ℕ × Kind
seen key = (key.0, kind_of key.1.now)

-- how keys are compared: by rank, and then by type
abbrev pub key-cmp : ℕ × Bor TypeItem → ℕ × Bor TypeItem → Ordering
key-cmp a b = ordering_then (nat_cmp a.0 b.0) (type_ord.cmp a.1.now b.1.now)

abbrev ranked-cmp : ℕ × Kind → ℕ × Kind → Ordering
ranked-cmp a b = ordering_then (nat_cmp a.0 b.0) (kind_cmp a.1 b.1)

-- an order by ranked types is one by their kinds
pub order-seen : (keys : List (Option (ℕ × Bor TypeItem))) (kinds : List (Option Kind)) (order : List ℕ) → map (option_map seen) keys ≡ map (option_map ranked) kinds →
    IsEmissionOrder key-cmp keys order → IsEmissionOrder kind_cmp kinds order
order-seen keys kinds order are is =
    ordered_under ranked kind_cmp ranked-cmp rank-first kinds order (subst (λ (ks : List (Option (ℕ × Kind))). IsEmissionOrder ranked-cmp ks order) are
    (ordered_by seen key-cmp ranked-cmp (λ a b. ap (λ (o : Ordering). ordering_then (nat_cmp a.0 b.0) o) (type_ord-kinds a.1.now b.1.now)) keys order is))

range-below : (n : ℕ) → All (λ i. i < n) (range_with_len 0 n)
range-below n = λ k d below.
    let len : length (range_with_len 0 n) ≡ n = length-range_with_len 0 n in
    let at : get_or (range_with_len 0 n) k d ≡ 0 + k = get_or-range_with_len 0 n k d (omega arith) in
    omega arith

-- the positions of an order are those of its list
pub order-below : {K : Type 0} (cmp : K → K → Ordering) (entries : List (Option K)) (order : List ℕ) (n : ℕ) → length entries ≡ n → IsEmissionOrder cmp entries order → All (λ i. i < n) order
order-below cmp entries order n len is = All-permutation (λ i. i < n) (range_with_len 0 (length entries)) order is.whole (subst (λ m. All (λ i. i < m) (range_with_len 0 (length entries))) len (range-below (length entries)))

pub in-order : (t : Table) (gs us : List Group) (order : List ℕ) → gs ≡ written_groups t → IsEmissionOrder kind_cmp (map (key_of t) gs) order → us ≡ map (λ i. slice_index_or gs i no_group) order → AreInOrder t us
in-order t gs us order are is places = record {
  order = order;
  ordered = subst (λ (xs : List Group). IsEmissionOrder kind_cmp (map (key_of t) xs) order) are is;
  places = places ∙ ap (λ (xs : List Group). map (λ i. slice_index_or xs i no_group) order) are;
}

last-index : (xs : List ℕ) (x : ℕ) → slice_get (xs ++ x ∷ []) (length xs) ≡ Some x
last-index xs x =
    let len : length (xs ++ x ∷ []) ≡ length xs + 1 = length-append xs (x ∷ []) in
    slice_get-get_or (xs ++ x ∷ []) (length xs) x (omega arith) ∙ ap (λ y. Some y) (get_or-append_seam xs x [] x)

kept-index : (xs : List ℕ) (x k y : ℕ) → slice_get xs k ≡ Some y → slice_get (xs ++ x ∷ []) k ≡ Some y
kept-index xs x k y at =
    let inside : k < length xs = slice_get_within xs k y at in
    let len : length (xs ++ x ∷ []) ≡ length xs + 1 = length-append xs (x ∷ []) in
    slice_get-get_or (xs ++ x ∷ []) k x (omega arith) ∙ ap (λ z. Some z) (get_or-append xs (x ∷ []) x k inside ∙ get_or_from_slice_get xs k y x at)

-- one more type has the next index
indices-more : (count : ℕ) (types : List ℕ) (indices : List (Option ℕ)) (x i : ℕ) → AreIndices count types indices → x < count → i ≡ length types → AreIndices count (types ++ x ∷ []) (slice_set indices x (Some i))
indices-more count types indices x i are below is =
    let len : length indices ≡ count = are.sized in
    let here : slice_index_or (slice_set indices x (Some i)) x None ≡ Some i = get_or-set_same indices x (Some i) None (omega arith) in
    record {
      sized = length-set indices x (Some i) ∙ are.sized;
      place = λ id index at. elim (cases_eq id x) as (λ _. slice_get (types ++ x ∷ []) index ≡ Some id) [
        | inl e ↦
            let same : i ≡ index = same_Some i index (sym here ∙ subst (λ n. slice_index_or (slice_set indices x (Some i)) n None ≡ Some index) e at) in
            subst (λ n. slice_get (types ++ x ∷ []) index ≡ Some n) (sym e) (subst (λ n. slice_get (types ++ x ∷ []) n ≡ Some x) (sym is ∙ same) (last-index types x))
        | inr other ↦ kept-index types x index id (are.place id index (sym (get_or-set_other indices x id (Some i) None other) ∙ at))
      ];
      each = λ id c. elim (cases_eq id x) as (λ _. IsSome (slice_index_or (slice_set indices x (Some i)) id None)) [
        | inl e ↦ subst (λ n. IsSome (slice_index_or (slice_set indices x (Some i)) n None)) (sym e) (subst IsSome (sym here) refl)
        | inr other ↦ subst IsSome (sym (get_or-set_other indices x id (Some i) None other)) (elim (Contains-push_cases types x id c) as (λ _. IsSome (slice_index_or indices id None)) [
          | inl before ↦ are.each id before
          | inr e ↦ absurd (other (sym e))
        ])
      ];
    }

pub indices-step : (count : ℕ) (types : List ℕ) (indices : List (Option ℕ)) (x i : ℕ) → All (λ id. id < count) types → i < length types → x ≡ get_or types i x → AreIndices count (take i types) indices → AreIndices count (take (i + 1) types) (slice_set indices x (Some i))
indices-step count types indices x i within small is are =
    let below : get_or types i x < count = within i x small in
    subst (λ (xs : List ℕ). AreIndices count xs (slice_set indices x (Some i))) (ap (λ y. take i types ++ y ∷ []) is ∙ sym (take_more types i x small))
    (indices-more count (take i types) indices x i are (subst (λ n. n < count) (sym is) below) (sym (length-take-le i types (omega arith))))

-- what is wrong with the first of two lists of names
pub or-assoc : (a b c : Option IrError) → option_or (option_or a b) c ≡ option_or a (option_or b c)
or-assoc None b c = refl
or-assoc (Some a) b c = refl

pub first-fault-append : (f : ℕ → Option IrError) (xs ys : List ℕ) → first_fault f (xs ++ ys) ≡ option_or (first_fault f xs) (first_fault f ys)
first-fault-append f [] ys = refl
first-fault-append f (x ∷ xs) ys = ap (option_or (f x)) (first-fault-append f xs ys) ∙ sym (or-assoc (f x) (first_fault f xs) (first_fault f ys))

abbrev names-from : (ℕ → Option IrError) → (ℕ → Option Kind) → List ℕ → Option IrError
names-from f kind ids = first_fault f (flat_map kind_names (filter_map kind ids))

-- the types from one that isn't written on, and from one that is
pub names-skip : (f : ℕ → Option IrError) (kind : ℕ → Option Kind) (ids : List ℕ) (i id : ℕ) → i < length ids → id ≡ get_or ids i id → None ≡ kind id →
    first_fault f (flat_map kind_names (filter_map kind (drop (i + 1) ids))) ≡ first_fault f (flat_map kind_names (filter_map kind (drop i ids)))
names-skip f kind ids i id small is none =
    ap (λ (k : Option Kind). first_fault f (flat_map kind_names (cons_option k (filter_map kind (drop (i + 1) ids))))) (none ∙ ap kind is) ∙ ap (names-from f kind) (sym (drop_more ids i id small))

pub names-step : (f : ℕ → Option IrError) (kind : ℕ → Option Kind) (ids : List ℕ) (i id : ℕ) (k : Kind) → i < length ids → id ≡ get_or ids i id → Some k ≡ kind id →
    option_or (first_fault f (kind_names k)) (first_fault f (flat_map kind_names (filter_map kind (drop (i + 1) ids)))) ≡ first_fault f (flat_map kind_names (filter_map kind (drop i ids)))
names-step f kind ids i id k small is some =
    sym (first-fault-append f (kind_names k) (flat_map kind_names (filter_map kind (drop (i + 1) ids))))
    ∙ ap (λ (o : Option Kind). first_fault f (flat_map kind_names (cons_option o (filter_map kind (drop (i + 1) ids))))) (some ∙ ap kind is) ∙ ap (names-from f kind) (sym (drop_more ids i id small))

-- a type that is written isn't an entry type
shown-entry : (entry : Bool) (kind k : Kind) → Some k ≡ (if entry then None else Some kind) → entry ≡ kind.entry → k.entry ≡ false
shown-entry true kind k is e = absurd (none-some k (sym is))
shown-entry false kind k is e = ap (λ (x : Kind). x.entry) (same_Some k kind is) ∙ sym e

item-entry : (item : Option Item) (k : Kind) → Some k ≡ option_and_then (λ x. shown_kind x.kind) item → k.entry ≡ false
item-entry None k is = absurd (none-some k (sym is))
item-entry (Some item) k is = shown-entry item.kind.entry item.kind k is refl

pub written-entry : (t : Table) (id : ℕ) (k : Kind) → Some k ≡ written_kind t id → k.entry ≡ false
written-entry t id k is = item-entry (type_at t id) k is

filter_map-more : (kind : ℕ → Option Kind) (ids : List ℕ) (i id : ℕ) → i < length ids → id ≡ get_or ids i id → filter_map kind (take (i + 1) ids) ≡ filter_map kind (take i ids) ++ cons_option (kind id) []
filter_map-more kind ids i id small is =
    ap (filter_map kind) (take_more ids i id small ∙ ap (λ x. take i ids ++ x ∷ []) (sym is)) ∙ filter_map-append kind (take i ids) (id ∷ [])

-- one more record
pub records-skip : (r : ℕ → ℕ) (kind : ℕ → Option Kind) (ids : List ℕ) (i id : ℕ) (kinds : List Kind) → i < length ids → id ≡ get_or ids i id → None ≡ kind id →
    kinds ≡ map (renamed_kind r) (filter_map kind (take i ids)) → kinds ≡ map (renamed_kind r) (filter_map kind (take (i + 1) ids))
records-skip r kind ids i id kinds small is none are =
    are ∙ ap (map (renamed_kind r)) (sym (append-nil (filter_map kind (take i ids))) ∙ ap (λ (o : Option Kind). filter_map kind (take i ids) ++ cons_option o []) none ∙ sym (filter_map-more kind ids i id small is))

pub records-step : (r : ℕ → ℕ) (kind : ℕ → Option Kind) (ids : List ℕ) (i id : ℕ) (kinds : List Kind) (k : Kind) → i < length ids → id ≡ get_or ids i id → Some k ≡ kind id → k.entry ≡ false →
    kinds ≡ map (renamed_kind r) (filter_map kind (take i ids)) → kinds ++ record (renamed_kind r k) { entry = false } ∷ [] ≡ map (renamed_kind r) (filter_map kind (take (i + 1) ids))
records-step r kind ids i id kinds k small is some plain are =
    ap (λ (ks : List Kind). ks ++ record (renamed_kind r k) { entry = false } ∷ []) are
    ∙ ap (λ (b : Bool). map (renamed_kind r) (filter_map kind (take i ids)) ++ record (renamed_kind r k) { entry = b } ∷ []) (sym plain)
    ∙ sym (map-append (renamed_kind r) (filter_map kind (take i ids)) (k ∷ []))
    ∙ ap (map (renamed_kind r)) (ap (λ (o : Option Kind). filter_map kind (take i ids) ++ cons_option o []) some ∙ sym (filter_map-more kind ids i id small is))

-- the types of the groups so far and of one more are among all
pub count-fits : (t : Table) (gs : List (Bor RecGroup)) (i : ℕ) (g : Bor RecGroup) → i < length gs → g ≡ get_or gs i g →
    length (written_types t (map (λ (x : Bor RecGroup). group_of x.now) (take i gs))) + length (written_in t (group_of g.now)) ≤ length (written_types t (map (λ (x : Bor RecGroup). group_of x.now) gs))
count-fits t gs i g small is =
    let shown : List (Bor RecGroup) → List Group = λ xs. map (λ (x : Bor RecGroup). group_of x.now) xs in
    let len : length (shown gs) ≡ length gs = length-map gs (λ (x : Bor RecGroup). group_of x.now) in
    let at : get_or (shown gs) i (group_of g.now) ≡ group_of g.now = get_or-map (λ (x : Bor RecGroup). group_of x.now) gs i g (group_of g.now) small ∙ ap (λ (x : Bor RecGroup). group_of x.now) (sym is) in
    subst (λ (x : Group). length (written_types t (shown (take i gs))) + length (written_in t x) ≤ length (written_types t (shown gs))) at
    (subst (λ (xs : List Group). length (written_types t xs) + length (written_in t (get_or (shown gs) i (group_of g.now))) ≤ length (written_types t (shown gs))) (take-map (λ (x : Bor RecGroup). group_of x.now) i gs)
    (length-flat_map-take (written_in t) (shown gs) i (group_of g.now) (omega arith)))

-- the types that are written were given out
item-within : (types : List (Option Item)) (id : ℕ) → is_some (option_and_then (λ x. shown_kind x.kind) (slice_index_or types id None)) ≡ true → id < length types
item-within [] id h = absurd (false≢true h)
item-within (item ∷ types) zero h = omega arith
item-within (item ∷ types) (suc id) h = let below : id < length types = item-within types id h in omega arith

pub written-below : (t : Table) (groups : List Group) → All (λ id. id < length t.types) (written_types t groups)
written-below t [] = All-nil (λ id. id < length t.types)
written-below t (group ∷ groups) =
    All-append (λ id. id < length t.types) (written_in t group) (written_types t groups)
    (All-weaker (λ id. is_written t id ≡ true) (λ id. id < length t.types) (λ id h. item-within t.types id h) (written_in t group) (filter_passes (is_written t) group.types)) (written-below t groups)

-- what is wrong doesn't rest on the table's groups
pub same-fault : (types : List (Option Item)) (some other : List (Option Group)) (index : ℕ → ℕ) (start : ℕ) (groups : List Group) →
    groups_fault (record { types = types; groups = some }) index start groups ≡ groups_fault (record { types = types; groups = other }) index start groups
same-fault types some other index start [] = refl
same-fault types some other index start (group ∷ groups) =
    let t : Table = record { types = types; groups = other } in
    ap (option_or (first_fault (fault_at t index (start + length (written_in t group))) (group_names t group))) (same-fault types some other index (start + length (written_in t group)) groups)

or-cases : (a b : Option IrError) (x : IrError) → option_or a b ≡ Some x → (a ≡ Some x) ⊎ (b ≡ Some x)
or-cases None b x e = inr e
or-cases (Some a) b x e = inl e

abbrev Never : Option IrError → Type 0
Never fault = fault ≡ Some WrongCount → ⊥

never-or : (a b : Option IrError) → Never a → Never b → Never (option_or a b)
never-or a b na nb e = elim (or-cases a b WrongCount e) as (λ _. ⊥) [ inl h ↦ na h | inr h ↦ nb h ]

never-first : (f : ℕ → Option IrError) → ((name : ℕ) → Never (f name)) → (names : List ℕ) → Never (first_fault f names)
never-first f never [] e = none-some WrongCount e
never-first f never (name ∷ names) e = never-or (f name) (first_fault f names) (never name) (never-first f never names) e

is-later : IrError → Bool
is-later WrongCount = true
is-later _ = false

never-tests : (a b : Bool) → Never (if a then Some EntryOnly else if b then None else Some Later)
unfolding is-later
never-tests true b e = false≢true (ap is-later (same_Some EntryOnly WrongCount e))
never-tests false true e = none-some WrongCount e
never-tests false false e = false≢true (ap is-later (same_Some Later WrongCount e))

never-at : (item : Option Item) (below : Bool) → Never (option_map_or (λ x. if x.kind.entry then Some EntryOnly else if below then None else Some Later) item (Some Dead))
unfolding is-later
never-at None below e = false≢true (ap is-later (same_Some Dead WrongCount e))
never-at (Some item) below e = never-tests item.kind.entry below e

never-groups : (t : Table) (index : ℕ → ℕ) (start : ℕ) (groups : List Group) → Never (groups_fault t index start groups)
never-groups t index start [] e = none-some WrongCount e
never-groups t index start (group ∷ groups) e =
    let end = start + length (written_in t group) in
    never-or (first_fault (fault_at t index end) (group_names t group)) (groups_fault t index end groups)
    (never-first (fault_at t index end) (λ name. never-at (type_at t name) (nat_lt (index name) end)) (group_names t group)) (never-groups t index end groups) e

-- a fault is why a table isn't written
pub fault-refuses : (t : Table) (fault : IrError) → HasFault t fault → IsRefusal t fault
fault-refuses t Memory h = tt
fault-refuses t WrongCount h = never-groups t (index_at h.indices) 0 h.groups h.found
fault-refuses t Dead h = h
fault-refuses t EntryOnly h = h
fault-refuses t Later h = h

abbrev pub shown-groups : List (Bor RecGroup) → List Group
shown-groups gs = map (λ (g : Bor RecGroup). group_of g.now) gs

-- the code's lists are those of the definition
pub arranged-by : (types : List (Option TypeItem)) (groups : List (Option RecGroup)) (gs lent : List (Bor RecGroup)) (ws passed : List ℕ) (count : ℕ) (indices : List (Option ℕ)) →
    AreInOrder (table_of types groups) (shown-groups gs) → lent ≡ gs → ws ≡ written_types (table_of types []) (shown-groups lent) → passed ≡ ws → count ≡ length types → AreIndices count passed indices →
    AreArranged (table_of types groups) (shown-groups gs) indices
arranged-by types groups gs lent ws passed count indices in_order same is given counted are = record {
  in_order = in_order;
  indexed = subst (λ n. AreIndices n (written_types (table_of types groups) (shown-groups gs)) indices) (counted ∙ sym (length-map types (option_map item_of)))
      (subst (λ (ns : List ℕ). AreIndices count ns indices) (given ∙ is ∙ ap (λ (xs : List (Bor RecGroup)). written_types (table_of types []) (shown-groups xs)) same) are);
}

pub fault-by : (types : List (Option TypeItem)) (groups : List (Option RecGroup)) (gs lent : List (Bor RecGroup)) (indices passed : List (Option ℕ)) (fault : Option IrError) →
    lent ≡ gs → passed ≡ indices → fault ≡ groups_fault (table_of types []) (index_at passed) 0 (shown-groups lent) → groups_fault (table_of types groups) (index_at indices) 0 (shown-groups gs) ≡ fault
fault-by types groups gs lent indices passed fault same given is =
    same-fault (map (option_map item_of) types) (map (option_map group_of) groups) [] (index_at indices) 0 (shown-groups gs)
    ∙ sym (is ∙ ap (λ (xs : List (Bor RecGroup)). groups_fault (table_of types []) (index_at passed) 0 (shown-groups xs)) same ∙ ap (λ (ixs : List (Option ℕ)). groups_fault (table_of types []) (index_at ixs) 0 (shown-groups gs)) given)

pub described-by : (types : List (Option TypeItem)) (groups : List (Option RecGroup)) (gs lent : List (Bor RecGroup)) (indices passed : List (Option ℕ)) (records : List TypeGroup) →
    lent ≡ gs → passed ≡ indices → records ≡ map (described_group (table_of types []) (index_at passed)) (shown-groups lent) → records ≡ map (described_group (table_of types groups) (index_at indices)) (shown-groups gs)
described-by types groups gs lent indices passed records same given is =
    is ∙ ap (λ (xs : List (Bor RecGroup)). map (described_group (table_of types []) (index_at passed)) (shown-groups xs)) same ∙ ap (λ (ixs : List (Option ℕ)). map (described_group (table_of types []) (index_at ixs)) (shown-groups gs)) given

pub below-by : (types : List (Option TypeItem)) (gs : List (Bor RecGroup)) (ws passed : List ℕ) (count : ℕ) → ws ≡ written_types (table_of types []) (shown-groups gs) → passed ≡ ws → count ≡ length types → All (λ id. id < count) passed
below-by types gs ws passed count is given counted =
    subst (λ n. All (λ id. id < n) passed) (length-map types (option_map item_of) ∙ sym counted)
    (subst (λ (ns : List ℕ). All (λ id. id < length (map (option_map item_of) types)) ns) (sym (given ∙ is)) (written-below (table_of types []) (shown-groups gs)))
