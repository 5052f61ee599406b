-- Tables that differ by their ids, where two neighbouring groups changed places or none did.
use Rattle.std.proofs.Common.{◌≡◌, ◌≢◌, ◌∙◌, ℕ, zero, suc, ◌+◌, ◌-◌, ◌<◌, ◌≤◌, ◌⊎◌, inl, inr, Bool, true, false, cond, ◌||◌, All, List, [], ◌∷◌, ◌++◌, length, map, filter, Option, Some, None, slice_index_or, slice_set, is_some, refl, sym, ap, subst, arith, length-append, map-id, Equal}
use Rattle.std.specs.Prelude.{IsPermutation, Contains, AllPairs, slice_get}
use Rattle.std.specs.List.{range_with_len, list_any, swap}
use Rattle.std.specs.Option.{option_map, option_map_or, option_and_then}
use Rattle.std.proofs.lemmas.Bool.{cases_lt, cases_eq}
use Rattle.std.proofs.lemmas.Option.{slice_get-map, slice_get-get_or, same_Some, none-some}
use Rattle.std.proofs.lemmas.List.{get_or_append_left, get_or-append-add, get_or-set_same, get_or-set_other, length-set, same_lists}
use Rattle.std.proofs.lemmas.List.Elements.{All-cons, All-nil, All-filter, filter-append}
use Rattle.std.proofs.lemmas.List.FromFn.{length-range_with_len, get_or-range_with_len, length-map-range_with_len, get_or-map-range_with_len, fill_by_all}
use Rattle.std.proofs.lemmas.List.Sorted.{IsPermutation-refl, IsPermutation-swap}
use Rattle.walrus_arena.specs.Arena.{entries_from}
use Rattle.walrus_arena.proofs.ArenaLemmas.{live-within}
use Rattle.walrus_type_order.specs.Order.{HasAnchor}
use Rattle.walrus_forms.specs.Kinds.{Kind, kind_names}
use Rattle.walrus_forms.specs.Order.{kind_cmp}
use Rattle.walrus_forms.specs.Renaming.{renamed_kind}
use Rattle.walrus_forms.proofs.RenamingLemmas.{In}
use Rattle.walrus_types.specs.Items.{Item, Group}
use Rattle.walrus_types.specs.Table.{Table, next_id, type_at}
use Rattle.walrus_types.specs.Parsing.{Parsed}
use Rattle.walrus_types.specs.Emission.{shown_kind, written_kind, is_written, written_groups, loose_kind, key_of, no_group}
use Rattle.walrus_type_laws.specs.Alike.{keys_of, members, renamed_group, AreHomed, Alike}
use Rattle.walrus_type_laws.specs.Swap.{swapped}
use Rattle.walrus_type_laws.proofs.Exchange.{goes, goes-back, goes-low, goes-high, stays-below, stays-above, turned}
use Rattle.walrus_type_laws.proofs.Filled.{live, listed, HasType, Filled}
use Rattle.walrus_type_laws.proofs.Follows.{Follows}
use Rattle.walrus_type_laws.proofs.Renamed.{renamed_item}
use Rattle.walrus_type_index.proofs.Tied.{tied}

-- numbers of lists
pub in-left : (xs ys : List ℕ) (m : ℕ) → In m xs → In m (xs ++ ys)
in-left [] ys m h = absurd h
in-left (x ∷ xs) ys m (inl e) = inl e
in-left (x ∷ xs) ys m (inr h) = inr (in-left xs ys m h)

pub in-right : (xs ys : List ℕ) (m : ℕ) → In m ys → In m (xs ++ ys)
in-right [] ys m h = h
in-right (x ∷ xs) ys m h = inr (in-right xs ys m h)

pub in-split : (xs ys : List ℕ) (m : ℕ) → In m (xs ++ ys) → In m xs ⊎ In m ys
in-split [] ys m h = inr h
in-split (x ∷ xs) ys m (inl e) = inl (inl e)
in-split (x ∷ xs) ys m (inr h) = elim (in-split xs ys m h) as (λ _. In m (x ∷ xs) ⊎ In m ys) [ inl i ↦ inl (inr i) | inr i ↦ inr i ]

pub in-range : (n : ℕ) (a m : ℕ) → In m (range_with_len a n) → (a ≤ m) × (m < a + n)
in-range zero a m h = absurd h
in-range (suc n) a m (inl e) = (omega (arith, e), omega (arith, e))
in-range (suc n) a m (inr h) = let rest = in-range n (a + 1) m h in (omega (arith, rest.0), omega (arith, rest.1))

-- the kind of a type that is written
written-at : (t : Table) (id bound : ℕ) (h : HasType t id bound) → written_kind t id ≡ Some h.item.kind
written-at t id bound h =
    ap (λ (o : Option Item). option_and_then (λ item. shown_kind item.kind) o) h.found
    ∙ ap (λ (b : Bool). let o : Option Kind = cond b None (Some h.item.kind) in o) h.shown

pub all-written : (s : Parsed) → Filled s → (id : ℕ) → id < next_id s.table → is_written s.table id ≡ true
all-written s f id less = ap (λ (o : Option Kind). is_some o) (written-at s.table id (next_id s.table) (f.types id less))

written-some : (o : Option Item) → is_some (option_and_then (λ item. shown_kind item.kind) o) ≡ true → (item : Item) × (o ≡ Some item)
written-some None e = absurd cc
written-some (Some item) e = (item, refl)

-- the members of the groups that are written are those of all
kept-listed : (w : ℕ → Bool) (marked : Bool) (ids : List ℕ) (rest others : List Group) → ((x : ℕ) → In x ids → w x ≡ true) → listed others ≡ listed rest
    → listed (cond (list_any w ids) (record { explicit = marked; types = ids } ∷ others) others) ≡ ids ++ listed rest
kept-listed w marked [] rest others each same = same
kept-listed w marked (x ∷ xs) rest others each same =
    let g : Group = record { explicit = marked; types = x ∷ xs } in
    ap (λ (b : Bool). listed (cond (b || list_any w xs) (g ∷ others) others)) (each x (inl refl)) ∙ ap (λ (ys : List ℕ). (x ∷ xs) ++ ys) same

all-listed : (w : ℕ → Bool) (gs : List Group) → ((x : ℕ) → In x (listed gs) → w x ≡ true) → listed (filter (λ (g : Group). list_any w g.types) gs) ≡ listed gs
all-listed w [] each = refl
all-listed w (g ∷ gs) each =
    kept-listed w g.explicit g.types gs (filter (λ (g : Group). list_any w g.types) gs) (λ x i. each x (in-left g.types (listed gs) x i))
    (all-listed w gs (λ x i. each x (in-right g.types (listed gs) x i)))

members-are : (s : Parsed) → Filled s → members s.table ≡ range_with_len 0 (next_id s.table)
members-are s f =
    all-listed (is_written s.table) (live s.table)
    (λ x i.
    let h = (in-range (next_id s.table) 0 x (subst (λ (xs : List ℕ). In x xs) f.groups i)).1 in
    all-written s f x (omega (arith, h)))
    ∙ f.groups

pub filled-homed : (s : Parsed) → Filled s → AreHomed s.table
filled-homed s f =
    let n : ℕ = next_id s.table in
    let len : length (range_with_len 0 n) ≡ n = length-range_with_len 0 n in
    record {
      homed = λ id. (
        λ c.
            let d : Contains (range_with_len 0 n) id = subst (λ (xs : List ℕ). Contains xs id) (members-are s f) c in
            let less : d.0 < n = omega (arith, d.1, len) in
            let is : 0 + d.0 ≡ id = sym (get_or-range_with_len 0 n d.0 id less) ∙ d.2 in
            all-written s f id (omega (arith, is, less)),
        λ w.
            let some = written-some (type_at s.table id) w in
            let less : id < n = live-within s.table.types id some.0 some.1 in
            let d : Contains (range_with_len 0 n) id = (id, omega (arith, less, len), get_or-range_with_len 0 n id id less ∙ omega arith) in
            subst (λ (xs : List ℕ). Contains xs id) (sym (members-are s f)) d,
      );
      once = subst (λ (xs : List ℕ). AllPairs (λ id other. id ≢ other) xs) (sym (members-are s f))
          (λ i j d before small e.
          omega (arith, e, before, get_or-range_with_len 0 n i d (omega (arith, before, small, len)), get_or-range_with_len 0 n j d (omega (arith, small, len))));
    }

-- the other table writes what the first does
shown-alike : (r : ℕ → ℕ) (kind : Kind) (b : Bool) → (let o : Option Kind = cond b None (Some (renamed_kind r kind)) in o) ≡ option_map (renamed_kind r) (cond b None (Some kind))
shown-alike r kind true = refl
shown-alike r kind false = refl

item-alike : (r : ℕ → ℕ) (o : Option Item) → option_and_then (λ item. shown_kind item.kind) (option_map (renamed_item r) o) ≡ option_map (renamed_kind r) (option_and_then (λ item. shown_kind item.kind) o)
item-alike r None = refl
item-alike r (Some item) = shown-alike r item.kind item.kind.entry

kinds-alike : (r turn : ℕ → ℕ) (s t : Parsed) → Follows r turn s t → (id : ℕ) → written_kind t.table (r id) ≡ option_map (renamed_kind r) (written_kind s.table id)
kinds-alike r turn s t f id = ap (λ (o : Option Item). option_and_then (λ item. shown_kind item.kind) o) (f.types id) ∙ item-alike r (type_at s.table id)

some-map : (r : ℕ → ℕ) (o : Option Kind) → is_some (option_map (renamed_kind r) o) ≡ is_some o
some-map r None = refl
some-map r (Some k) = refl

any-agree : (v w : ℕ → Bool) (xs : List ℕ) → ((x : ℕ) → In x xs → v x ≡ w x) → list_any v xs ≡ list_any w xs
any-agree v w [] each = refl
any-agree v w (x ∷ xs) each = ap (λ (b : Bool). b || list_any v xs) (each x (inl refl)) ∙ ap (λ (b : Bool). w x || b) (any-agree v w xs (λ y i. each y (inr i)))

groups-agree : (v w : ℕ → Bool) (gs : List Group) → ((x : ℕ) → In x (listed gs) → v x ≡ w x)
    → filter (λ (g : Group). list_any v g.types) gs ≡ filter (λ (g : Group). list_any w g.types) gs
groups-agree v w [] each = refl
groups-agree v w (g ∷ gs) each =
    ap (λ (b : Bool). cond b (g ∷ filter (λ (g : Group). list_any v g.types) gs) (filter (λ (g : Group). list_any v g.types) gs))
    (any-agree v w g.types (λ x i. each x (in-left g.types (listed gs) x i)))
    ∙ ap (λ (hs : List Group). cond (list_any w g.types) (g ∷ hs) hs) (groups-agree v w gs (λ x i. each x (in-right g.types (listed gs) x i)))

-- ids that were given out stay among these
inside : (r turn : ℕ → ℕ) (s t : Parsed) (x : ℕ) → Follows r turn s t → x < next_id s.table → r x < next_id s.table
inside r turn s t x f less =
    elim (cases_lt (r x) (next_id s.table)) as (λ _. r x < next_id s.table) [
      | inl low ↦ low
      | inr past ↦ let e : r (r x) ≡ r x = f.above (r x) past in absurd (omega (arith, e, f.twice x, past, less))
    ]

same-groups : (r turn : ℕ → ℕ) (s t : Parsed) → Follows r turn s t → Filled s → written_groups t.table ≡ written_groups s.table
same-groups r turn s t f filled =
    let w : ℕ → Bool = is_written t.table in
    ap (λ (gs : List (Option Group)). filter (λ (g : Group). list_any w g.types) (map (λ (e : ℕ × Group). e.1) (entries_from 0 gs))) f.groups
    ∙ groups-agree w (is_written s.table) (live s.table) (λ x i.
    let h = (in-range (next_id s.table) 0 x (subst (λ (xs : List ℕ). In x xs) filled.groups i)).1 in
    let less : x < next_id s.table = omega (arith, h) in
    let low : r x < next_id s.table = inside r turn s t x f less in
    ap w (sym (f.twice x)) ∙ ap (λ (o : Option Kind). is_some o) (kinds-alike r turn s t f (r x)) ∙ some-map r (written_kind s.table (r x))
    ∙ all-written s filled (r x) low ∙ sym (all-written s filled x less))

-- the tables are alike if the groups' places are
lists-twice : {X Y Z : Type 0} (g : Y → Z) (f : X → Y) (xs : List X) → map g (map f xs) ≡ map (λ x. g (f x)) xs
lists-twice g f [] = refl
lists-twice {X} {Y} {Z} g f (x ∷ xs) = ap (λ (zs : List Z). g (f x) ∷ zs) (lists-twice g f xs)

abbrev positions : Table → List ℕ
positions t = range_with_len 0 (length (written_groups t))

record Moves (r move : ℕ → ℕ) (t : Table) : Type 0 where
  whole : IsPermutation (positions t) (map move (positions t))
  groups : (i : ℕ) → i < length (written_groups t)
      → renamed_group r (slice_index_or (written_groups t) (move i) no_group) ≡ slice_index_or (written_groups t) i no_group
  anchored : (i j : ℕ) → i < j → j < length (written_groups t) → HasAnchor (keys_of t) (move j) (move i) → ⊥
  stable : (i j : ℕ) → i < j → j < length (written_groups t) → (a b : Kind) → slice_get (keys_of t) (move i) ≡ Some (Some a)
      → slice_get (keys_of t) (move j) ≡ Some (Some b) → kind_cmp a b ≡ Equal → move i < move j

alike-by : (r turn move : ℕ → ℕ) (s t : Parsed) → Follows r turn s t → Filled s → Moves r move s.table → Alike r s.table t.table
alike-by r turn move s t f filled m =
    let ws : List Group = written_groups s.table in
    let n : ℕ = length ws in
    let order : List ℕ = map move (range_with_len 0 n) in
    let len : length order ≡ n = length-map-range_with_len move 0 n in
    let place : (i d : ℕ) → i < n → slice_index_or order i d ≡ move i = λ i d less. get_or-map-range_with_len move 0 n i i d less (omega arith) in
    record {
      turn = order;
      whole = m.whole;
      groups = same-groups r turn s t f filled
          ∙ fill_by_all (λ (i : ℕ). renamed_group r (slice_index_or ws (move i) no_group)) ws n no_group refl (λ k less. sym (m.groups k less))
          ∙ sym (lists-twice (λ (i : ℕ). renamed_group r (slice_index_or ws i no_group)) move (range_with_len 0 n));
      kinds = λ id c. kinds-alike r turn s t f id;
      one = λ id other c d e. sym (f.twice id) ∙ ap r e ∙ f.twice other;
      anchored = λ i j d before small has.
          let less : j < n = omega (arith, small, len) in
          m.anchored i j before less
          (subst (λ (x : ℕ). HasAnchor (keys_of s.table) x (move i)) (place j d less)
          (subst (λ (x : ℕ). HasAnchor (keys_of s.table) (slice_index_or order j d) x) (place i d (omega (arith, before, less))) has));
      stable = λ i j d before small a b at_a at_b e.
          let less : j < n = omega (arith, small, len) in
          let here = place i d (omega (arith, before, less)) in
          let there = place j d less in
          let h = m.stable i j before less a b (ap (λ (x : ℕ). slice_get (keys_of s.table) x) (sym here) ∙ at_a) (ap (λ (x : ℕ). slice_get (keys_of s.table) x) (sym there) ∙ at_b) e in
          omega (arith, h, here, there);
    }

-- where no id changes, no group does
pub alike-still : (turn : ℕ → ℕ) (s t : Parsed) → Follows (λ x. x) turn s t → Filled s → Alike (λ x. x) s.table t.table
alike-still turn s t f filled =
    let ws : List Group = written_groups s.table in
    alike-by (λ x. x) turn (λ x. x) s t f filled (record {
      whole = subst (λ (xs : List ℕ). IsPermutation (positions s.table) xs) (sym (map-id (positions s.table))) (IsPermutation-refl (positions s.table));
      groups = λ i less.
          let g : Group = slice_index_or ws i no_group in
          ap (λ (xs : List ℕ). let h : Group = record { explicit = g.explicit; types = xs } in h) (map-id g.types);
      anchored = λ i j before less has. omega (arith, has.from, has.upto, before);
      stable = λ i j before less a b at_a at_b e. before;
    })

-- the group of one type
abbrev pub alone : ℕ → Group
alone id = record { explicit = false; types = id ∷ [] }

-- two types without names that stand alone, one after the other, and are of two kinds
pub record Pair (t : Table) (m : ℕ) (a b : Kind) : Type 0 where
  pub front : List Group
  pub back : List Group
  pub groups : live t ≡ front ++ alone m ∷ alone (m + 1) ∷ back
  pub low : (x : ℕ) → In x (listed front) → x < m
  pub high : (x : ℕ) → In x (listed back) → m + 2 ≤ x
  pub first : type_at t m ≡ Some (record { id = m; kind = a; name = None })
  pub second : type_at t (m + 1) ≡ Some (record { id = m + 1; kind = b; name = None })
  pub under : m + 2 ≤ next_id t
  pub nameless_a : kind_names a ≡ []
  pub nameless_b : kind_names b ≡ []
  pub apart : a ≢ b

fixed-map : (r : ℕ → ℕ) (xs : List ℕ) → ((x : ℕ) → In x xs → r x ≡ x) → map r xs ≡ xs
fixed-map r [] each = refl
fixed-map r (x ∷ xs) each = ap (λ (y : ℕ). y ∷ map r xs) (each x (inl refl)) ∙ ap (λ (ys : List ℕ). x ∷ ys) (fixed-map r xs (λ y i. each y (inr i)))

fixed-groups : (r : ℕ → ℕ) (gs : List Group) → ((x : ℕ) → In x (listed gs) → r x ≡ x) → All (λ (g : Group). renamed_group r g ≡ g) gs
fixed-groups r [] each = All-nil (λ (g : Group). renamed_group r g ≡ g)
fixed-groups r (g ∷ gs) each =
    All-cons (λ (g : Group). renamed_group r g ≡ g) g gs
    (ap (λ (xs : List ℕ). let h : Group = record { explicit = g.explicit; types = xs } in h) (fixed-map r g.types (λ x i. each x (in-left g.types (listed gs) x i))))
    (fixed-groups r gs (λ x i. each x (in-right g.types (listed gs) x i)))

two-kept : (p : Group → Bool) (x y : Group) (gs : List Group) → p x ≡ true → p y ≡ true → filter p (x ∷ y ∷ gs) ≡ x ∷ y ∷ filter p gs
two-kept p x y gs one other =
    ap (λ (b : Bool). cond b (x ∷ filter p (y ∷ gs)) (filter p (y ∷ gs))) one
    ∙ ap (λ (b : Bool). x ∷ cond b (y ∷ filter p gs) (filter p gs)) other

-- positions where two neighbours change places
swap-at : (n p k d : ℕ) → p + 1 < suc n → k < suc n → slice_index_or (map (swapped p) (range_with_len 0 (suc n))) k d ≡ slice_index_or (swap (range_with_len 0 (suc n)) p (p + 1)) k d
swap-at n p k d fits less =
    let xs : List ℕ = range_with_len 0 (suc n) in
    let len : length xs ≡ suc n = length-range_with_len 0 (suc n) in
    let at_p : slice_index_or xs p 0 ≡ 0 + p = get_or-range_with_len 0 (suc n) p 0 (omega (arith, fits)) in
    let at_q : slice_index_or xs (p + 1) 0 ≡ 0 + (p + 1) = get_or-range_with_len 0 (suc n) (p + 1) 0 fits in
    let ys : List ℕ = slice_set xs p (slice_index_or xs (p + 1) 0) in
    let here : slice_index_or (map (swapped p) xs) k d ≡ swapped p k = get_or-map-range_with_len (swapped p) 0 (suc n) k k d less (omega arith) in
    elim (goes p k) as (λ _. slice_index_or (map (swapped p) xs) k d ≡ slice_index_or (slice_set ys (p + 1) (slice_index_or xs p 0)) k d) [
      | inl a ↦
          let e : slice_index_or (slice_set ys (p + 1) (slice_index_or xs p 0)) k d ≡ slice_index_or ys k d = get_or-set_other ys (p + 1) k (slice_index_or xs p 0) d (λ e. omega (arith, e, a.0)) in
          let h : slice_index_or ys k d ≡ slice_index_or xs (p + 1) 0 =
          ap (λ (z : ℕ). slice_index_or ys z d) a.0 ∙ get_or-set_same xs p (slice_index_or xs (p + 1) 0) d (omega (arith, fits, len)) in
          omega (arith, here, a.1, e, h, at_q)
      | inr other ↦ elim other as (λ _. slice_index_or (map (swapped p) xs) k d ≡ slice_index_or (slice_set ys (p + 1) (slice_index_or xs p 0)) k d) [
        | inl a ↦
            let e : slice_index_or (slice_set ys (p + 1) (slice_index_or xs p 0)) k d ≡ slice_index_or xs p 0 =
            ap (λ (z : ℕ). slice_index_or (slice_set ys (p + 1) (slice_index_or xs p 0)) z d) a.0
            ∙ get_or-set_same ys (p + 1) (slice_index_or xs p 0) d (omega (arith, fits, len, length-set xs p (slice_index_or xs (p + 1) 0))) in
            omega (arith, here, a.1, e, at_p)
        | inr a ↦
            let e : slice_index_or (slice_set ys (p + 1) (slice_index_or xs p 0)) k d ≡ slice_index_or ys k d = get_or-set_other ys (p + 1) k (slice_index_or xs p 0) d a.1 in
            let h : slice_index_or ys k d ≡ slice_index_or xs k d = get_or-set_other xs p k (slice_index_or xs (p + 1) 0) d a.0 in
            omega (arith, here, a.2, e, h, get_or-range_with_len 0 (suc n) k d less)
      ]
    ]

swap-length : (n p : ℕ) → length (swap (range_with_len 0 (suc n)) p (p + 1)) ≡ suc n
swap-length n p =
    let xs : List ℕ = range_with_len 0 (suc n) in
    let ys : List ℕ = slice_set xs p (slice_index_or xs (p + 1) 0) in
    length-set ys (p + 1) (slice_index_or xs p 0) ∙ length-set xs p (slice_index_or xs (p + 1) 0) ∙ length-range_with_len 0 (suc n)

turn-whole : (n p : ℕ) → p + 1 < n → IsPermutation (range_with_len 0 n) (map (swapped p) (range_with_len 0 n))
turn-whole zero p fits = absurd (omega (arith, fits))
turn-whole (suc n) p fits =
    let xs : List ℕ = range_with_len 0 (suc n) in
    let len : length xs ≡ suc n = length-range_with_len 0 (suc n) in
    let count : length (map (swapped p) xs) ≡ suc n = length-map-range_with_len (swapped p) 0 (suc n) in
    IsPermutation-swap xs (map (swapped p) xs) p (p + 1) (omega (arith, fits, len)) (omega (arith, fits, len))
    (same_lists (map (swapped p) xs) (swap xs p (p + 1)) (count ∙ sym (swap-length n p)) (λ k d less. swap-at n p k d fits (omega (arith, less, count))))

-- the places of the groups around the two
moved-group : (r : ℕ → ℕ) (front back : List Group) (x y : Group) → renamed_group r y ≡ x → renamed_group r x ≡ y
    → All (λ (g : Group). renamed_group r g ≡ g) front → All (λ (g : Group). renamed_group r g ≡ g) back
    → (i : ℕ) → i < length (front ++ x ∷ y ∷ back)
    → renamed_group r (slice_index_or (front ++ x ∷ y ∷ back) (swapped (length front) i) no_group) ≡ slice_index_or (front ++ x ∷ y ∷ back) i no_group
moved-group r front back x y to_x to_y before behind i less =
    let p : ℕ = length front in
    let all : List Group = front ++ x ∷ y ∷ back in
    let total : length all ≡ p + suc (suc (length back)) = length-append front (x ∷ y ∷ back) in
    let zeroth : p ≡ p + 0 = omega arith in
    let at_x : slice_index_or all p no_group ≡ x = ap (λ (k : ℕ). slice_index_or all k no_group) zeroth ∙ get_or-append-add front (x ∷ y ∷ back) 0 no_group in
    let at_y : slice_index_or all (p + 1) no_group ≡ y = get_or-append-add front (x ∷ y ∷ back) 1 no_group in
    elim (goes p i) as (λ _. renamed_group r (slice_index_or all (swapped p i) no_group) ≡ slice_index_or all i no_group) [
      | inl a ↦
          ap (λ (k : ℕ). renamed_group r (slice_index_or all k no_group)) a.1 ∙ ap (renamed_group r) at_y ∙ to_x ∙ sym at_x
          ∙ ap (λ (k : ℕ). slice_index_or all k no_group) (sym a.0)
      | inr other ↦ elim other as (λ _. renamed_group r (slice_index_or all (swapped p i) no_group) ≡ slice_index_or all i no_group) [
        | inl a ↦
            ap (λ (k : ℕ). renamed_group r (slice_index_or all k no_group)) a.1 ∙ ap (renamed_group r) at_x ∙ to_y ∙ sym at_y
            ∙ ap (λ (k : ℕ). slice_index_or all k no_group) (sym a.0)
        | inr a ↦
            ap (λ (k : ℕ). renamed_group r (slice_index_or all k no_group)) a.2
            ∙ elim (cases_lt i p) as (λ _. renamed_group r (slice_index_or all i no_group) ≡ slice_index_or all i no_group) [
              | inl low ↦
                  let e : slice_index_or all i no_group ≡ slice_index_or front i no_group = get_or_append_left front (x ∷ y ∷ back) no_group i low in
                  ap (renamed_group r) e ∙ before i no_group low ∙ sym e
              | inr high ↦
                  let j : ℕ = i - p - 2 in
                  let past : p + 2 ≤ i =
                  elim (cases_eq i p) as (λ _. p + 2 ≤ i) [
                    | inl e ↦ absurd (a.0 e)
                    | inr one ↦ elim (cases_eq i (p + 1)) as (λ _. p + 2 ≤ i) [
                      | inl e ↦ absurd (a.1 e)
                      | inr two ↦ omega (arith, high, one, two)
                    ]
                  ] in
                  let is : i ≡ p + suc (suc j) = omega (arith, past) in
                  let e : slice_index_or all i no_group ≡ slice_index_or back j no_group =
                  ap (λ (k : ℕ). slice_index_or all k no_group) is ∙ get_or-append-add front (x ∷ y ∷ back) (suc (suc j)) no_group in
                  ap (renamed_group r) e ∙ behind j no_group (omega (arith, less, total, is)) ∙ sym e
            ]
      ]
    ]

-- the keys of the two
key-alone : (t : Table) (id : ℕ) (k : Kind) → type_at t id ≡ Some (record { id = id; kind = k; name = None }) → kind_names k ≡ [] → key_of t (alone id) ≡ Some k
key-alone t id k found none =
    ap (λ (o : Option Item). option_map_or (λ item. loose_kind (kind_names item.kind) item.kind) o None) found
    ∙ ap (λ (ns : List ℕ). loose_kind ns k) none

pub alike-turned : (turn : ℕ → ℕ) (s t : Parsed) (m : ℕ) (a b : Kind) → Follows (swapped m) turn s t → Filled s → Pair s.table m a b → Alike (swapped m) s.table t.table
alike-turned turn s t m a b f filled pair =
    let p : Group → Bool = λ g. list_any (is_written s.table) g.types in
    let front : List Group = filter p pair.front in
    let back : List Group = filter p pair.back in
    let x : Group = alone m in
    let y : Group = alone (m + 1) in
    let ws : List Group = written_groups s.table in
    let place : ℕ = length front in
    let wrote : (id : ℕ) → id < next_id s.table → p (alone id) ≡ true = λ id less. ap (λ (v : Bool). v || false) (all-written s filled id less) in
    let under = pair.under in
    let split : ws ≡ front ++ x ∷ y ∷ back =
    ap (filter p) pair.groups ∙ filter-append p pair.front (x ∷ y ∷ pair.back)
    ∙ ap (λ (gs : List Group). front ++ gs) (two-kept p x y pair.back (wrote m (omega (arith, under))) (wrote (m + 1) (omega (arith, under)))) in
    let total : length ws ≡ place + suc (suc (length back)) = ap (λ (gs : List Group). length gs) split ∙ length-append front (x ∷ y ∷ back) in
    let to_x : renamed_group (swapped m) y ≡ x = ap (λ (v : ℕ). alone v) (goes-high m) in
    let to_y : renamed_group (swapped m) x ≡ y = ap (λ (v : ℕ). alone v) (goes-low m) in
    let before : All (λ (g : Group). renamed_group (swapped m) g ≡ g) front =
    All-filter p (λ (g : Group). renamed_group (swapped m) g ≡ g) pair.front (fixed-groups (swapped m) pair.front (λ v i. stays-below m v (pair.low v i))) in
    let behind : All (λ (g : Group). renamed_group (swapped m) g ≡ g) back =
    All-filter p (λ (g : Group). renamed_group (swapped m) g ≡ g) pair.back (fixed-groups (swapped m) pair.back (λ v i. stays-above m v (pair.high v i))) in
    let key : (i : ℕ) (g : Group) → i < length ws → slice_index_or ws i no_group ≡ g → slice_get (keys_of s.table) i ≡ Some (key_of s.table g) =
    λ i g less is.
    slice_get-map (key_of s.table) ws i
    ∙ ap (λ (o : Option Group). option_map (key_of s.table) o) (slice_get-get_or ws i no_group less ∙ ap (λ (h : Group). Some h) is) in
    let zeroth : place ≡ place + 0 = omega arith in
    let at_x : slice_index_or ws place no_group ≡ x =
    ap (λ (gs : List Group). slice_index_or gs place no_group) split ∙ ap (λ (k : ℕ). slice_index_or (front ++ x ∷ y ∷ back) k no_group) zeroth ∙ get_or-append-add front (x ∷ y ∷ back) 0 no_group in
    let at_y : slice_index_or ws (place + 1) no_group ≡ y =
    ap (λ (gs : List Group). slice_index_or gs (place + 1) no_group) split ∙ get_or-append-add front (x ∷ y ∷ back) 1 no_group in
    let key_a : slice_get (keys_of s.table) place ≡ Some (Some a) =
    key place x (omega (arith, total)) at_x ∙ ap (λ (k : Option Kind). Some k) (key-alone s.table m a pair.first pair.nameless_a) in
    let key_b : slice_get (keys_of s.table) (place + 1) ≡ Some (Some b) =
    key (place + 1) y (omega (arith, total)) at_y ∙ ap (λ (k : Option Kind). Some k) (key-alone s.table (m + 1) b pair.second pair.nameless_b) in
    let back_turn : (i j : ℕ) → i < j → swapped place j ≤ swapped place i → (i ≡ place) × (j ≡ place + 1) =
    λ i j less le.
    let apart : swapped place i ≢ swapped place j = λ e. let one : i ≡ j = sym (goes-back place i) ∙ ap (swapped place) e ∙ goes-back place j in omega (arith, one, less) in
    elim (cases_lt (swapped place j) (swapped place i)) as (λ _. (i ≡ place) × (j ≡ place + 1)) [
      | inl under ↦ turned place i j less under
      | inr over ↦ absurd (apart (omega (arith, over, le)))
    ] in
    alike-by (swapped m) turn (swapped place) s t f filled (record {
      whole = turn-whole (length ws) place (omega (arith, total));
      groups = subst (λ (gs : List Group). (i : ℕ) → i < length gs → renamed_group (swapped m) (slice_index_or gs (swapped place i) no_group) ≡ slice_index_or gs i no_group) (sym split)
          (moved-group (swapped m) front back x y to_x to_y before behind);
      anchored = λ i j less small has.
          let are = back_turn i j less (let h = has.from in let g = has.upto in omega (arith, h, g)) in
          let low : swapped place j ≡ place = ap (swapped place) are.1 ∙ goes-high place in
          let high : swapped place i ≡ place + 1 = ap (swapped place) are.0 ∙ goes-low place in
          elim (cases_eq has.position place) as (λ _. ⊥) [
            | inl e ↦
                let wrong : Some None ≡ Some (Some a) = sym has.anchor ∙ ap (λ (k : ℕ). slice_get (keys_of s.table) k) e ∙ key_a in
                none-some a (same_Some None (Some a) wrong)
            | inr other ↦
                let e : has.position ≡ place + 1 = let h = has.from in let g = has.upto in omega (arith, h, g, low, high, other) in
                let wrong : Some None ≡ Some (Some b) = sym has.anchor ∙ ap (λ (k : ℕ). slice_get (keys_of s.table) k) e ∙ key_b in
                none-some b (same_Some None (Some b) wrong)
          ];
      stable = λ i j less small c d at_c at_d e.
          elim (cases_lt (swapped place i) (swapped place j)) as (λ _. swapped place i < swapped place j) [
            | inl under ↦ under
            | inr over ↦
                let are = back_turn i j less over in
                let low : swapped place j ≡ place = ap (swapped place) are.1 ∙ goes-high place in
                let high : swapped place i ≡ place + 1 = ap (swapped place) are.0 ∙ goes-low place in
                let c_is : b ≡ c = same_Some b c (same_Some (Some b) (Some c) (sym key_b ∙ ap (λ (k : ℕ). slice_get (keys_of s.table) k) (sym high) ∙ at_c)) in
                let d_is : a ≡ d = same_Some a d (same_Some (Some a) (Some d) (sym key_a ∙ ap (λ (k : ℕ). slice_get (keys_of s.table) k) (sym low) ∙ at_d)) in
                absurd (pair.apart (d_is ∙ sym (tied c d e) ∙ sym c_is))
          ];
    })
