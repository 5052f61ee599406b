-- Two single types that name no type are parsed in either order.
use Rattle.std.proofs.Common.{◌≡◌, ◌≢◌, ◌∙◌, ℕ, ◌+◌, ◌<◌, ◌≤◌, ◌⊎◌, inl, inr, true, false, not, ◌==◌, cond, List, [], ◌∷◌, ◌++◌, length, Option, Some, None, refl, sym, ap, subst, arith, append_assoc, length-append}
use Rattle.std.specs.List.{list_any}
use Rattle.std.specs.Option.{option_map}
use Rattle.std.proofs.lemmas.Bool.{cases_Bool, cases_lt, and_left, and_from, cond-true, cond-false, false≢true}
use Rattle.std.proofs.lemmas.Option.{none-some}
use Rattle.std.proofs.lemmas.List.{get_or_append_left, get_or-append-add, get_or_past}
use Rattle.walrus_arena.specs.Arena.{entries_from}
use Rattle.walrus_forms.specs.Kinds.{Kind, kind_names}
use Rattle.walrus_forms.specs.Renaming.{at, renamed_kind}
use Rattle.walrus_forms.specs.Same.{same_kind}
use Rattle.walrus_forms.proofs.EqLemmas.{same-kind-law}
use Rattle.walrus_forms.proofs.RenamingLemmas.{In}
use Rattle.walrus_types.specs.Items.{Item, Group}
use Rattle.walrus_types.specs.Groups.{new_items, group_slot}
use Rattle.walrus_types.specs.Table.{Table, next_id, type_at, names_itself, merges, latest_in, latest_id, equal_type}
use Rattle.walrus_types.specs.Parsing.{Parsed, with_group, merged, known_ids, parsed_group}
use Rattle.walrus_types.proofs.GroupLemmas.{entries_from-append, latest_in-append}
use Rattle.walrus_type_laws.specs.Swap.{single, swapped}
use Rattle.walrus_type_laws.proofs.Exchange.{goes, goes-back, goes-low, goes-high, stays-below, stays-above, stays-within, turned}
use Rattle.walrus_type_laws.proofs.Filled.{live, Filled, live-more, next-more}
use Rattle.walrus_type_laws.proofs.Follows.{Follows, at-left, at-right}
use Rattle.walrus_type_laws.proofs.Renamed.{renamed_item, item-fixed, kind-fixed, plain-fixed}
use Rattle.walrus_type_laws.proofs.Turned.{in-range, alone, Pair}

-- the table with one more single type
abbrev with_one : Kind → Table → Table
with_one kind t = with_group false (kind ∷ []) t

abbrev item_at : ℕ → Kind → Item
item_at id kind = record { id = id; kind = kind; name = None }

abbrev found : Kind → Table → Option ℕ
found kind t = latest_id (merges kind) t

-- a single type that names none
plain-parsed : (kind : Kind) (s : Parsed) → kind_names kind ≡ [] → parsed_group (single kind) s ≡ merged (found kind s.table) kind s
plain-parsed kind s none =
    ap (λ (k : Kind). merged (equal_type k s.table) k s) (plain-fixed (at (known_ids (single kind) s)) kind none)
    ∙ ap (λ (ns : List ℕ). merged (cond (list_any (λ name. name == next_id s.table) ns) None (found kind s.table)) kind s) none

both-parsed : (a b : Kind) (s : Parsed) → kind_names a ≡ [] → kind_names b ≡ []
    → parsed_group (single b) (parsed_group (single a) s) ≡ merged (found b (merged (found a s.table) a s).table) b (merged (found a s.table) a s)
both-parsed a b s none_a none_b =
    plain-parsed b (parsed_group (single a) s) none_b ∙ ap (λ (x : Parsed). merged (found b x.table) b x) (plain-parsed a s none_a)

-- what is found behind one more type
found-more : (kind other : Kind) (t : Table) → found kind (with_one other t) ≡ cond (merges kind (next_id t, item_at (next_id t) other)) (Some (next_id t)) (found kind t)
found-more kind other t =
    ap (λ (es : List (ℕ × Item)). latest_in (merges kind) None es) (entries_from-append 0 t.types (Some (item_at (next_id t) other) ∷ []) (next_id t) (omega arith))
    ∙ latest_in-append (entries_from 0 t.types) ((next_id t, item_at (next_id t) other) ∷ []) (merges kind) None

found-other : (kind other : Kind) (t : Table) → other ≢ kind → found kind (with_one other t) ≡ found kind t
found-other kind other t apart =
    let differs : same_kind other kind ≡ false =
    elim (cases_Bool (same_kind other kind)) as (λ _. same_kind other kind ≡ false) [
      | inl same ↦ absurd (apart ((same-kind-law other kind).0 same))
      | inr fails ↦ fails
    ] in
    found-more kind other t
    ∙ cond-false (merges kind (next_id t, item_at (next_id t) other)) (Some (next_id t)) (found kind t)
    (and_left (same_kind other kind) (not (names_itself (next_id t) other)) differs)

found-itself : (kind : Kind) (t : Table) → kind_names kind ≡ [] → found kind (with_one kind t) ≡ Some (next_id t)
found-itself kind t none =
    let apart : not (names_itself (next_id t) kind) ≡ true = ap (λ (ns : List ℕ). not (list_any (λ name. name == next_id t) ns)) none in
    found-more kind kind t
    ∙ cond-true (merges kind (next_id t, item_at (next_id t) kind)) (Some (next_id t)) (found kind t)
    (and_from (same_kind kind kind) (not (names_itself (next_id t) kind)) ((same-kind-law kind kind).1 refl) apart)

-- the ids of two more types
abbrev with_two : List ℕ → ℕ → ℕ → List ℕ
with_two ids x y = (ids ++ x ∷ []) ++ y ∷ []

length-two : (ids : List ℕ) (x y : ℕ) → length (with_two ids x y) ≡ length ids + 2
length-two ids x y = omega (arith, length-append (ids ++ x ∷ []) (y ∷ []), length-append ids (x ∷ []))

two-below : (ids : List ℕ) (x y i : ℕ) → i < length ids → at (with_two ids x y) i ≡ at ids i
two-below ids x y i less =
    at-left (ids ++ x ∷ []) (y ∷ []) i (omega (arith, less, length-append ids (x ∷ []))) ∙ at-left ids (x ∷ []) i less

two-first : (ids : List ℕ) (x y : ℕ) → at (with_two ids x y) (length ids) ≡ x
two-first ids x y =
    at-left (ids ++ x ∷ []) (y ∷ []) (length ids) (omega (arith, length-append ids (x ∷ []))) ∙ at-right ids (x ∷ []) (length ids) 0 (length ids) refl (omega arith)

two-second : (ids : List ℕ) (x y : ℕ) → at (with_two ids x y) (length ids + 1) ≡ y
two-second ids x y = at-right (ids ++ x ∷ []) (y ∷ []) (length ids + 1) 0 (length ids + 1) (length-append ids (x ∷ [])) (omega arith)

two-swapped : (f : ℕ → ℕ) (ids : List ℕ) (x y u v : ℕ) → ((i : ℕ) → i < length ids → f (at ids i) ≡ at ids i) → f x ≡ u → f y ≡ v
    → (i : ℕ) → i < length (with_two ids x y) → at (with_two ids v u) (swapped (length ids) i) ≡ f (at (with_two ids x y) i)
two-swapped f ids x y u v each to_u to_v i less =
    let n : ℕ = length ids in
    elim (goes n i) as (λ _. at (with_two ids v u) (swapped n i) ≡ f (at (with_two ids x y) i)) [
      | inl a ↦
          ap (λ (k : ℕ). at (with_two ids v u) k) a.1 ∙ two-second ids v u ∙ sym to_u ∙ ap f (sym (two-first ids x y))
          ∙ ap (λ (k : ℕ). f (at (with_two ids x y) k)) (sym a.0)
      | inr other ↦ elim other as (λ _. at (with_two ids v u) (swapped n i) ≡ f (at (with_two ids x y) i)) [
        | inl a ↦
            ap (λ (k : ℕ). at (with_two ids v u) k) a.1 ∙ two-first ids v u ∙ sym to_v ∙ ap f (sym (two-second ids x y))
            ∙ ap (λ (k : ℕ). f (at (with_two ids x y) k)) (sym a.0)
        | inr a ↦
            let low : i < n =
            elim (cases_lt i n) as (λ _. i < n) [
              | inl low ↦ low
              | inr high ↦ elim (cases_lt i (n + 1)) as (λ _. i < n) [
                | inl one ↦ absurd (a.0 (omega (arith, high, one)))
                | inr two ↦ absurd (a.1 (omega (arith, two, less, length-two ids x y)))
              ]
            ] in
            ap (λ (k : ℕ). at (with_two ids v u) k) a.2 ∙ two-below ids v u i low ∙ sym (each i low) ∙ ap f (sym (two-below ids x y i low))
      ]
    ]

-- where at most one of the two is new, the tables are one
item-still : (o : Option Item) → o ≡ option_map (renamed_item (λ x. x)) o
item-still None = refl
item-still (Some x) = ap (λ (y : Item). Some y) (sym (item-fixed (λ x. x) x refl (kind-fixed (λ m. m) x.kind (λ m i. refl))))

still : (ids : List ℕ) (x y : ℕ) (t : Table)
    → Follows (λ v. v) (swapped (length ids)) (record { ids = with_two ids x y; table = t }) (record { ids = with_two ids y x; table = t })
still ids x y t =
    let n : ℕ = length ids in
    record {
      sized = length-two ids y x ∙ sym (length-two ids x y);
      near = λ i less. stays-within n i (length (with_two ids x y)) (omega (arith, length-two ids x y)) less;
      past = λ i high. stays-above n i (omega (arith, high, length-two ids x y));
      ids = two-swapped (λ v. v) ids x y x y (λ i less. refl) refl refl;
      next = refl;
      twice = λ v. refl;
      above = λ v high. refl;
      types = λ id. item-still (type_at t id);
      apart = λ v w a b less back at_v at_w same. omega (arith, less, back);
      groups = refl;
    }

-- two types more
abbrev with_pair : Kind → Kind → Table → Table
with_pair a b t = with_one b (with_one a t)

pair-next : (a b : Kind) (t : Table) → next_id (with_pair a b t) ≡ next_id t + 2
pair-next a b t = omega (arith, next-more false (a ∷ []) t, next-more false (b ∷ []) (with_one a t))

pair-below : (a b : Kind) (t : Table) (id : ℕ) → id < next_id t → type_at (with_pair a b t) id ≡ type_at t id
pair-below a b t id less =
    get_or_append_left (with_one a t).types (new_items (next_id (with_one a t)) (b ∷ [])) None id (omega (arith, less, next-more false (a ∷ []) t))
    ∙ get_or_append_left t.types (new_items (next_id t) (a ∷ [])) None id less

pair-first : (a b : Kind) (t : Table) → type_at (with_pair a b t) (next_id t) ≡ Some (item_at (next_id t) a)
pair-first a b t =
    let zeroth : next_id t ≡ next_id t + 0 = omega arith in
    get_or_append_left (with_one a t).types (new_items (next_id (with_one a t)) (b ∷ [])) None (next_id t) (omega (arith, next-more false (a ∷ []) t))
    ∙ ap (λ (i : ℕ). type_at (with_one a t) i) zeroth ∙ get_or-append-add t.types (new_items (next_id t) (a ∷ [])) 0 None

pair-second : (a b : Kind) (t : Table) → type_at (with_pair a b t) (next_id t + 1) ≡ Some (item_at (next_id t + 1) b)
pair-second a b t =
    let is : next_id (with_one a t) ≡ next_id t + 1 = next-more false (a ∷ []) t in
    let e : next_id t + 1 ≡ next_id (with_one a t) + 0 = omega (arith, is) in
    ap (λ (i : ℕ). type_at (with_pair a b t) i) e ∙ get_or-append-add (with_one a t).types (new_items (next_id (with_one a t)) (b ∷ [])) 0 None
    ∙ ap (λ (i : ℕ). let o : Option Item = Some (item_at i b) in o) is

pair-past : (a b : Kind) (t : Table) (id : ℕ) → next_id t + 2 ≤ id → type_at (with_pair a b t) id ≡ None
pair-past a b t id high = get_or_past (with_pair a b t).types id None (omega (arith, high, pair-next a b t))

-- the new types changed places
pair-types : (s : Parsed) (a b : Kind) → Filled s → kind_names a ≡ [] → kind_names b ≡ [] → (id : ℕ)
    → type_at (with_pair b a s.table) (swapped (next_id s.table) id) ≡ option_map (renamed_item (swapped (next_id s.table))) (type_at (with_pair a b s.table) id)
pair-types s a b f none_a none_b id =
    let t : Table = s.table in
    let m : ℕ = next_id t in
    let r : ℕ → ℕ = swapped m in
    let change : (i j : ℕ) (k : Kind) → r i ≡ j → kind_names k ≡ [] → renamed_item r (item_at i k) ≡ item_at j k =
    λ i j k to none. ap (λ (x : ℕ). let z : Item = record { id = x; kind = renamed_kind r k; name = None } in z) to ∙ ap (λ (x : Kind). item_at j x) (plain-fixed r k none) in
    elim (goes m id) as (λ _. type_at (with_pair b a t) (r id) ≡ option_map (renamed_item r) (type_at (with_pair a b t) id)) [
      | inl c ↦
          ap (λ (i : ℕ). type_at (with_pair b a t) i) c.1 ∙ pair-second b a t
          ∙ ap (λ (z : Item). Some z) (sym (change m (m + 1) a (goes-low m) none_a))
          ∙ ap (λ (o : Option Item). option_map (renamed_item r) o) (sym (ap (λ (i : ℕ). type_at (with_pair a b t) i) c.0 ∙ pair-first a b t))
      | inr other ↦ elim other as (λ _. type_at (with_pair b a t) (r id) ≡ option_map (renamed_item r) (type_at (with_pair a b t) id)) [
        | inl c ↦
            ap (λ (i : ℕ). type_at (with_pair b a t) i) c.1 ∙ pair-first b a t
            ∙ ap (λ (z : Item). Some z) (sym (change (m + 1) m b (goes-high m) none_b))
            ∙ ap (λ (o : Option Item). option_map (renamed_item r) o) (sym (ap (λ (i : ℕ). type_at (with_pair a b t) i) c.0 ∙ pair-second a b t))
        | inr c ↦
            ap (λ (i : ℕ). type_at (with_pair b a t) i) c.2
            ∙ elim (cases_lt id m) as (λ _. type_at (with_pair b a t) id ≡ option_map (renamed_item r) (type_at (with_pair a b t) id)) [
              | inl low ↦
                  let h = f.types id low in
                  let own : r h.item.id ≡ h.item.id = ap r h.own ∙ stays-below m id low ∙ sym h.own in
                  let fixed : renamed_item r h.item ≡ h.item = item-fixed r h.item own (kind-fixed r h.item.kind (λ x i. stays-below m x (h.below x i))) in
                  pair-below b a t id low ∙ h.found ∙ ap (λ (z : Item). Some z) (sym fixed)
                  ∙ ap (λ (o : Option Item). option_map (renamed_item r) o) (sym (pair-below a b t id low ∙ h.found))
              | inr high ↦
                  let past : m + 2 ≤ id =
                  elim (cases_lt id (m + 1)) as (λ _. m + 2 ≤ id) [
                    | inl one ↦ absurd (c.0 (omega (arith, high, one)))
                    | inr two ↦ elim (cases_lt id (m + 2)) as (λ _. m + 2 ≤ id) [
                      | inl one ↦ absurd (c.1 (omega (arith, two, one)))
                      | inr far ↦ far
                    ]
                  ] in
                  pair-past b a t id past ∙ ap (λ (o : Option Item). option_map (renamed_item r) o) (sym (pair-past a b t id past))
            ]
      ]
    ]

pair-follows : (s : Parsed) (a b : Kind) → Filled s → kind_names a ≡ [] → kind_names b ≡ [] → a ≢ b
    → Follows (swapped (next_id s.table)) (swapped (length s.ids))
    (record { ids = with_two s.ids (next_id s.table) (next_id (with_one a s.table)); table = with_pair a b s.table })
    (record { ids = with_two s.ids (next_id s.table) (next_id (with_one b s.table)); table = with_pair b a s.table })
pair-follows s a b f none_a none_b apart =
    let t : Table = s.table in
    let m : ℕ = next_id t in
    let n : ℕ = length s.ids in
    let x : ℕ = next_id (with_one a t) in
    let y : ℕ = next_id (with_one b t) in
    let x_is : x ≡ m + 1 = next-more false (a ∷ []) t in
    let y_is : y ≡ m + 1 = next-more false (b ∷ []) t in
    record {
      sized = length-two s.ids m y ∙ sym (length-two s.ids m x);
      near = λ i less. stays-within n i (length (with_two s.ids m x)) (omega (arith, length-two s.ids m x)) less;
      past = λ i high. stays-above n i (omega (arith, high, length-two s.ids m x));
      ids = two-swapped (swapped m) s.ids m x y m (λ i less. stays-below m (at s.ids i) (f.given i less)) (goes-low m ∙ sym y_is) (ap (swapped m) x_is ∙ goes-high m);
      next = pair-next b a t ∙ sym (pair-next a b t);
      twice = goes-back m;
      above = λ v high. stays-above m v (omega (arith, high, pair-next a b t));
      types = pair-types s a b f none_a none_b;
      apart = λ v w c d less back at_v at_w same.
          let are = turned m v w less back in
          let one : Some c ≡ Some (item_at m a) = sym at_v ∙ ap (λ (i : ℕ). type_at (with_pair a b t) i) are.0 ∙ pair-first a b t in
          let two : Some d ≡ Some (item_at (m + 1) b) = sym at_w ∙ ap (λ (i : ℕ). type_at (with_pair a b t) i) are.1 ∙ pair-second a b t in
          let c_is : c ≡ item_at m a = cc in
          let d_is : d ≡ item_at (m + 1) b = cc in
          apart (sym (ap (λ (z : Item). z.kind) c_is) ∙ same ∙ ap (λ (z : Item). z.kind) d_is);
      groups = ap (λ (k : ℕ). (t.groups ++ group_slot false (m ∷ [])) ++ group_slot false (k ∷ [])) (y_is ∙ sym x_is);
    }

pair-pair : (s : Parsed) (a b : Kind) → Filled s → kind_names a ≡ [] → kind_names b ≡ [] → a ≢ b → Pair (with_pair a b s.table) (next_id s.table) a b
pair-pair s a b f none_a none_b apart =
    let t : Table = s.table in
    let m : ℕ = next_id t in
    record {
      front = live t;
      back = [];
      groups = live-more false (b ∷ []) (with_one a t)
          ∙ ap (λ (gs : List Group). gs ++ alone (next_id (with_one a t)) ∷ []) (live-more false (a ∷ []) t)
          ∙ ap (λ (k : ℕ). (live t ++ alone m ∷ []) ++ alone k ∷ []) (next-more false (a ∷ []) t)
          ∙ append_assoc (live t) (alone m ∷ []) (alone (m + 1) ∷ []);
      low = λ x i. let h = (in-range m 0 x (subst (λ (xs : List ℕ). In x xs) f.groups i)).1 in omega (arith, h);
      high = λ x i. absurd i;
      first = pair-first a b t;
      second = pair-second a b t;
      under = omega (arith, pair-next a b t);
      nameless_a = none_a;
      nameless_b = none_b;
      apart = apart;
    }

-- both orders side by side
abbrev pub Starts : ℕ → ℕ → Kind → Kind → Parsed → Parsed → Type 0
Starts m n a b s t = Follows (λ v. v) (swapped n) s t ⊎ (Follows (swapped m) (swapped n) s t × Pair s.table m a b)

by-both : {X Y : Type 0} (P : X → Y → Type 0) (x u : X) (y v : Y) → x ≡ u → y ≡ v → P u v → P x y
by-both P x u y v e d p = subst (λ z. P z y) (sym e) (subst (λ z. P u z) (sym d) p)

starts-by : (s : Parsed) (a b : Kind) (p q : Option ℕ) → Filled s → kind_names a ≡ [] → kind_names b ≡ [] → found a s.table ≡ p → found b s.table ≡ q
    → Starts (next_id s.table) (length s.ids) a b (merged (found b (merged p a s).table) b (merged p a s)) (merged (found a (merged q b s).table) a (merged q b s))
starts-by s a b (Some x) (Some y) f none_a none_b is_a is_b =
    by-both (λ (o : Option ℕ) (p : Option ℕ). Starts (next_id s.table) (length s.ids) a b (merged o b (merged (Some x) a s)) (merged p a (merged (Some y) b s)))
    (found b s.table) (Some y) (found a s.table) (Some x) is_b is_a (inl (still s.ids x y s.table))
starts-by s a b (Some x) None f none_a none_b is_a is_b =
    let apart : b ≢ a = λ e. none-some x (sym is_b ∙ ap (λ (k : Kind). found k s.table) e ∙ is_a) in
    by-both (λ (o : Option ℕ) (p : Option ℕ). Starts (next_id s.table) (length s.ids) a b (merged o b (merged (Some x) a s)) (merged p a (merged None b s)))
    (found b s.table) None (found a (with_one b s.table)) (Some x) is_b (found-other a b s.table apart ∙ is_a) (inl (still s.ids x (next_id s.table) (with_one b s.table)))
starts-by s a b None (Some y) f none_a none_b is_a is_b =
    let apart : a ≢ b = λ e. none-some y (sym is_a ∙ ap (λ (k : Kind). found k s.table) e ∙ is_b) in
    by-both (λ (o : Option ℕ) (p : Option ℕ). Starts (next_id s.table) (length s.ids) a b (merged o b (merged None a s)) (merged p a (merged (Some y) b s)))
    (found b (with_one a s.table)) (Some y) (found a s.table) None (found-other b a s.table apart ∙ is_b) is_a (inl (still s.ids (next_id s.table) y (with_one a s.table)))
starts-by s a b None None f none_a none_b is_a is_b =
    let m : ℕ = next_id s.table in
    let n : ℕ = length s.ids in
    elim (cases_Bool (same_kind a b)) as (λ _. Starts m n a b (merged (found b (with_one a s.table)) b (merged None a s)) (merged (found a (with_one b s.table)) a (merged None b s))) [
      | inl same ↦
          subst (λ (k : Kind). Starts m n a k (merged (found k (with_one a s.table)) k (merged None a s)) (merged (found a (with_one k s.table)) a (merged None k s)))
          ((same-kind-law a b).0 same)
          (by-both (λ (o : Option ℕ) (p : Option ℕ). Starts m n a a (merged o a (merged None a s)) (merged p a (merged None a s)))
          (found a (with_one a s.table)) (Some m) (found a (with_one a s.table)) (Some m) (found-itself a s.table none_a) (found-itself a s.table none_a)
          (inl (still s.ids m m (with_one a s.table))))
      | inr fails ↦
          let apart : a ≢ b = λ e. false≢true (sym fails ∙ (same-kind-law a b).1 e) in
          by-both (λ (o : Option ℕ) (p : Option ℕ). Starts m n a b (merged o b (merged None a s)) (merged p a (merged None b s)))
          (found b (with_one a s.table)) None (found a (with_one b s.table)) None
          (found-other b a s.table apart ∙ is_b) (found-other a b s.table (λ e. apart (sym e)) ∙ is_a)
          (inr (pair-follows s a b f none_a none_b apart, pair-pair s a b f none_a none_b apart))
    ]

pub starts : (s : Parsed) (a b : Kind) → Filled s → kind_names a ≡ [] → kind_names b ≡ []
    → Starts (next_id s.table) (length s.ids) a b (parsed_group (single b) (parsed_group (single a) s)) (parsed_group (single a) (parsed_group (single b) s))
starts s a b f none_a none_b =
    let p : Option ℕ = found a s.table in
    let q : Option ℕ = found b s.table in
    by-both (λ (x : Parsed) (y : Parsed). Starts (next_id s.table) (length s.ids) a b x y)
    (parsed_group (single b) (parsed_group (single a) s)) (merged (found b (merged p a s).table) b (merged p a s))
    (parsed_group (single a) (parsed_group (single b) s)) (merged (found a (merged q b s).table) a (merged q b s))
    (both-parsed a b s none_a none_b) (both-parsed b a s none_b none_a) (starts-by s a b p q f none_a none_b refl refl)
