-- Reading what was emitted and emitting it again.
use Rattle.std.proofs.Common.{◌≡◌, ◌∙◌, ℕ, zero, suc, ◌+◌, ◌<◌, ◌≤◌, ◌⊎◌, inl, inr, Bool, true, false, not, List, [], ◌∷◌, ◌++◌, length, map, take, IsPermutation, Option, Some, None, if◌then◌else◌, refl, sym, ap, subst, arith}
use Rattle.std.specs.Prelude.{slice_index_or}
use Rattle.std.specs.List.{slice_get, range_with_len, flat_map, filter_map}
use Rattle.std.specs.Option.{option_map}
use Rattle.std.specs.declared.cmp.Ordering.TheVariants.{Equal}
use Rattle.std.specs.Ordering.{is_lt}
use Rattle.std.proofs.lemmas.Bool.{false≢true, cases_lt, cases_Bool, and_parts, ltb-true}
use Rattle.std.proofs.lemmas.List.{length-map, take-map, take_at}
use Rattle.std.proofs.lemmas.List.Concat.{flat_map-append}
use Rattle.std.proofs.lemmas.List.FromFn.{get_or-range_with_len}
use Rattle.std.proofs.lemmas.Option.{slice_get_within, get_or_from_slice_get, same_Some, none-some, MatchOption-at_some}
use Rattle.walrus_arena.proofs.ArenaLemmas.{live-within}
use Rattle.walrus_type_order.specs.Order.{HasAnchor, IsLess}
use Rattle.walrus_forms.specs.Kinds.{Kind, kind_names}
use Rattle.walrus_forms.specs.Order.{kind_cmp}
use Rattle.walrus_forms.specs.Records.{TypeGroup, type_group}
use Rattle.walrus_forms.specs.Renaming.{at, renamed_kind}
use Rattle.walrus_forms.specs.Same.{same_kind}
use Rattle.walrus_forms.proofs.EqLemmas.{same-kind-law}
use Rattle.walrus_forms.proofs.RenamingLemmas.{In, in-mapped, of-mapped, in-any, any-in, kinds-agree, kinds-twice, kinds-names}
use Rattle.walrus_types.specs.Items.{Item, Group}
use Rattle.walrus_types.specs.Table.{Table, next_id, type_at, names_itself, merges, latest_id, equal_type}
use Rattle.walrus_types.specs.TypeLaws.{IsLatest}
use Rattle.walrus_types.specs.Parsing.{Parsed}
use Rattle.walrus_types.specs.Mergers.{Entry, is_single, entries_of}
use Rattle.walrus_types.specs.Emission.{written_kind, is_written, written_groups, key_of, index_at, no_group, written_in, described_group, IsEmission}
use Rattle.walrus_types.proofs.GroupLemmas.{length-new_items}
use Rattle.walrus_types.proofs.LawLemmas.{latest-law}
use Rattle.walrus_type_laws.specs.Alike.{keys_of, renamed_group, AreHomed, Alike}
use Rattle.walrus_type_laws.specs.Rounds.{read, index_map, SecondRoundIsFirst}
use Rattle.walrus_type_laws.proofs.AlikeLemmas.{alike-law}
use Rattle.walrus_type_laws.proofs.CarriedLemmas.{front_at, section_plain}
use Rattle.walrus_type_laws.proofs.Dense.{dense_groups, dense_written, items_at, one_group, one_is}
use Rattle.walrus_type_laws.proofs.Faults.{names_written}
use Rattle.walrus_type_laws.proofs.KindOrder.{kinds-kept}
use Rattle.walrus_types.proofs.OnceLemmas.{reordered}
use Rattle.walrus_types.proofs.Places.{Pairs, get, map_at, at_map, maps_twice, pairs_of, pairs_to, seat, unseat, start, starts_rise, left_at, right_at}
use Rattle.walrus_type_laws.proofs.ShapeRun.{shape_read}
use Rattle.walrus_type_laws.proofs.Steady.{Steady, shape_steady}
use Rattle.walrus_type_laws.proofs.Straight.{kinds_in, all_kinds, groups_from, straight, kinds_entries, kinds_length, Goes, straight_read, straight_dense}
use Rattle.walrus_type_laws.proofs.Written.{types_of, AllWritten, filter_all, written_all, Indexed, indexed, kind_of, group_kinds, group_kind_at, make_entry, described_length, described_at, written_item}

-- a type that names itself does so renamed
itself_renamed : (r : ℕ → ℕ) (id : ℕ) (x : Kind) → names_itself id x ≡ true → names_itself (r id) (renamed_kind r x) ≡ true
itself_renamed r id x h =
    in-any (kind_names (renamed_kind r x)) (r id) (subst (λ (xs : List ℕ). In (r id) xs) (sym (kinds-names r x)) (in-mapped r (kind_names x) id (any-in (kind_names x) id h)))

apart_back : (r : ℕ → ℕ) (id : ℕ) (x : Kind) → names_itself (r id) (renamed_kind r x) ≡ false → names_itself id x ≡ false
apart_back r id x apart = elim (cases_Bool (names_itself id x)) as (λ _. names_itself id x ≡ false) [
  | inl itself ↦ absurd (false≢true (sym apart ∙ itself_renamed r id x itself))
  | inr other ↦ other
]

-- what an equal type that was found is
found_is : (t : Table) (kind : Kind) (found : ℕ) → equal_type kind t ≡ Some found → IsLatest (merges kind) t found × (names_itself (next_id t) kind ≡ false)
found_is t kind found is = elim (cases_Bool (names_itself (next_id t) kind)) as (λ _. IsLatest (merges kind) t found × (names_itself (next_id t) kind ≡ false)) [
  | inl itself ↦ absurd (none-some found (ap (λ (b : Bool). if b then None else latest_id (merges kind) t) (sym itself) ∙ is))
  | inr apart ↦
      let latest : latest_id (merges kind) t ≡ Some found = ap (λ (b : Bool). if b then None else latest_id (merges kind) t) (sym apart) ∙ is in
      (MatchOption-at_some ((id : ℕ) (x : Item) → type_at t id ≡ Some x → merges kind (id, x) ≡ false) (IsLatest (merges kind) t) found latest (latest-law t (merges kind)), apart)
]

not_true : (b : Bool) → not b ≡ true → b ≡ false
not_true true h = absurd (false≢true h)
not_true false h = refl

-- a list of one
one_of : (xs : List ℕ) (x : ℕ) → length xs ≡ 1 → slice_get xs 0 ≡ Some x → xs ≡ x ∷ []
one_of [] x one is = absurd (none-some x is)
one_of (y ∷ []) x one is = ap (λ (z : ℕ). z ∷ []) (same_Some y x is)
one_of (y ∷ z ∷ xs) x one is = absurd (omega (arith, one))

-- the group of a type is of it alone, or an anchor
alone_or_anchor : (t : Table) (explicit : Bool) (ids : List ℕ) (k id : ℕ) → slice_get ids k ≡ Some id
    → ((let g : Group = record { explicit = explicit; types = ids } in g) ≡ record { explicit = false; types = id ∷ [] }) ⊎ (key_of t (record { explicit = explicit; types = ids }) ≡ None)
alone_or_anchor t true ids k id is = inr refl
alone_or_anchor t false [] k id is = absurd (none-some id is)
alone_or_anchor t false (x ∷ []) zero id is = inl (ap (λ (y : ℕ). let g : Group = record { explicit = false; types = y ∷ [] } in g) (same_Some x id is))
alone_or_anchor t false (x ∷ []) (suc k) id is = absurd (none-some id is)
alone_or_anchor t false (x ∷ y ∷ ids) k id is = inr refl

map_range : (r : ℕ → ℕ) (b : ℕ) (ids : List ℕ) → ((k id : ℕ) → slice_get ids k ≡ Some id → r id ≡ b + k) → map r ids ≡ range_with_len b (length ids)
map_range r b [] all = refl
map_range r b (id ∷ ids) all =
    let e : b + 0 ≡ b = omega arith in
    ap (λ (n : ℕ). n ∷ map r ids) (all 0 id refl ∙ e)
    ∙ ap (λ (ns : List ℕ). b ∷ ns) (map_range r (b + 1) ids (λ k i is. let n : b + suc k ≡ b + 1 + k = omega arith in all (suc k) i is ∙ n))

-- the groups of what is emitted, by the indices of their types
from_described : (t : Table) (r : ℕ → ℕ) (b : ℕ) (gs : List Group) → AllWritten t gs → ((p : ℕ) (g : Group) → slice_get gs p ≡ Some g → 0 < length g.types)
    → ((j id : ℕ) → slice_get (flat_map types_of gs) j ≡ Some id → r id ≡ b + j) → groups_from b (map (described_group t r) gs) ≡ map (renamed_group r) gs
from_described t r b [] all filled places = refl
from_described t r b (g ∷ gs) all filled places =
    let d : TypeGroup = described_group t r g in
    let len : length d.kinds ≡ length g.types = length-map (filter_map (written_kind t) g.types) (renamed_kind r) ∙ group_kinds t g (λ k id is. all 0 k g id refl is) in
    let some = filled 0 g refl in
    let own : map r g.types ≡ range_with_len b (length g.types) = map_range r b g.types (λ k id is. places k id (left_at g.types (flat_map types_of gs) k id is)) in
    let head : one_group g.explicit (range_with_len b (length d.kinds)) ≡ renamed_group r g ∷ [] =
    ap (λ (n : ℕ). one_group g.explicit (range_with_len b n)) len
    ∙ ap (λ (xs : List ℕ). one_group g.explicit xs) (sym own)
    ∙ one_is g.explicit (map r g.types) (omega (arith, some, length-map g.types r)) in
    ap (λ (hs : List Group). hs ++ groups_from (b + length d.kinds) (map (described_group t r) gs)) head
    ∙ ap (λ (hs : List Group). renamed_group r g ∷ hs)
    (from_described t r (b + length d.kinds) gs (λ p k h id at_p at_k. all (suc p) k h id at_p at_k) (λ p h is. filled (suc p) h is)
    (λ j id is.
    let n : b + (length g.types + j) ≡ b + length d.kinds + j = omega (arith, len) in
    places (length g.types + j) id (right_at g.types (flat_map types_of gs) j (length g.types + j) id refl is) ∙ n))

module _ (t : Table) (steady : Steady t) (out : List TypeGroup) (indices : List (Option ℕ)) (emission : IsEmission t out indices) where
  abbrev pub r : ℕ → ℕ
  r = index_at indices

  abbrev pub hs : List Group
  hs = emission.groups

  abbrev flat : List ℕ
  flat = flat_map types_of emission.groups

  pub homed : AreHomed t
  homed = steady.homed

  pub idx : Indexed t hs r
  idx = indexed t hs indices homed emission.arranged

  front_written : (n : ℕ) → AllWritten t (take n hs)
  front_written n = λ i k h id at_i at_k. idx.all i k h id (front_at n hs i h at_i) at_k

  -- a type names types that are written, at places below the end of its group
  names_fit : (q k : ℕ) (g : Group) (id : ℕ) (x : Kind) (m : ℕ) → slice_get hs q ≡ Some g → slice_get g.types k ≡ Some id → written_kind t id ≡ Some x → In m (kind_names x)
      → (is_written t m ≡ true) × (r m < start types_of hs q + length g.types)
  names_fit q k g id x m at_q at_k is i =
      let w = names_written t r 0 hs emission.sound q k g id x m at_q at_k is i in
      let a : start (written_in t) hs q ≡ start types_of hs q = ap (λ (ids : List ℕ). length ids) (written_all t (take q hs) (front_written q)) in
      let b : length (written_in t g) ≡ length g.types = ap (λ (ids : List ℕ). length ids) (filter_all (is_written t) g.types (λ j y at_j. idx.all q j g y at_q at_j)) in
      let l = ltb-true (r m) (0 + start (written_in t) hs q + length (written_in t g)) w.1 in
      (w.0, omega (arith, l, a, b))

  names_live : (id : ℕ) (x : Kind) (m : ℕ) → is_written t id ≡ true → written_kind t id ≡ Some x → In m (kind_names x) → is_written t m ≡ true
  names_live id x m written is i =
      let s = seat types_of hs (r id) id (idx.there id written) in
      (names_fit s.piece s.place s.from id x m s.at_piece s.at_place is i).0

  -- the kinds of types that are written, from what is emitted
  undo : ℕ → ℕ
  undo j = slice_index_or flat j 0

  undone : (id : ℕ) (x : Kind) → is_written t id ≡ true → written_kind t id ≡ Some x → renamed_kind undo (renamed_kind r x) ≡ x
  unfolding undo
  undone id x written is =
      kinds-twice r undo x
      ∙ kinds-agree (λ m. undo (r m)) (λ m. m) x (λ m i. get_or_from_slice_get flat (r m) m 0 (idx.there m (names_live id x m written is i)))
      ∙ kinds-kept x

  out_is : out ≡ map (described_group t r) hs
  out_is = emission.described

  pub out_kind : (id : ℕ) (x : Kind) → is_written t id ≡ true → written_kind t id ≡ Some x → slice_get (all_kinds out) (r id) ≡ Some (renamed_kind r x)
  out_kind id x written is =
      let s = seat types_of hs (r id) id (idx.there id written) in
      let e : slice_get (entries_of out) (r id) ≡ Some (make_entry (is_single (described_group t r s.from)) (renamed_kind r x)) =
      ap (λ (gs : List TypeGroup). slice_get (entries_of gs) (r id)) out_is
      ∙ ap (λ (n : ℕ). slice_get (entries_of (map (described_group t r) hs)) n) s.is
      ∙ described_at t r hs idx.all s.piece s.place s.from id x s.at_piece s.at_place is in
      ap (λ (ks : List Kind). slice_get ks (r id)) (kinds_entries out)
      ∙ at_map (λ (y : Entry). y.kind) (entries_of out) (r id) (make_entry (is_single (described_group t r s.from)) (renamed_kind r x)) e

  out_length : length (all_kinds out) ≡ length flat
  out_length = kinds_length out ∙ ap (λ (gs : List TypeGroup). length (entries_of gs)) out_is ∙ described_length t r hs idx.all

  -- the type at a place of what is emitted
  pub record At (j : ℕ) : Type 0 where
    pub id : ℕ
    pub kind : Kind
    pub there : slice_get flat j ≡ Some id
    pub index : r id ≡ j
    pub written : is_written t id ≡ true
    pub is : written_kind t id ≡ Some kind
    pub found : slice_get (all_kinds out) j ≡ Some (renamed_kind r kind)

  pub at_place : (j : ℕ) → j < length (all_kinds out) → At j
  at_place j less =
      let x = get flat j (omega (arith, less, out_length)) in
      let s = seat types_of hs j x.0 x.1 in
      let w = idx.all s.piece s.place s.from x.0 s.at_piece s.at_place in
      let k = kind_of t x.0 w in
      let index = idx.back j x.0 x.1 in
      record {
        id = x.0;
        kind = k.0;
        there = x.1;
        index = index;
        written = w;
        is = k.1;
        found = ap (λ (n : ℕ). slice_get (all_kinds out) n) (sym index) ∙ out_kind x.0 k.0 w k.1;
      }

  -- the groups of what is emitted, each with the types of the group of the table
  record Of (before : List TypeGroup) (g : TypeGroup) : Type 0 where
    from : Group
    there : slice_get hs (length before) ≡ Some from
    described : described_group t r from ≡ g
    begins : length (all_kinds before) ≡ start types_of hs (length before)
    sized : length g.kinds ≡ length from.types

  of_split : (before after : List TypeGroup) (g : TypeGroup) → out ≡ before ++ g ∷ after → Of before g
  of_split before after g split =
      let q : ℕ = length before in
      let d : Group → TypeGroup = described_group t r in
      let at_g : slice_get (map d hs) q ≡ Some g = ap (λ (gs : List TypeGroup). slice_get gs q) (sym out_is ∙ split) ∙ right_at before (g ∷ after) 0 q g (omega arith) refl in
      let m = map_at d hs q g at_g in
      let front : before ≡ map d (take q hs) =
      sym (take_at before (g ∷ after) q refl) ∙ ap (λ (gs : List TypeGroup). take q gs) (sym split ∙ out_is) ∙ take-map d q hs in
      record {
        from = m.0;
        there = m.1;
        described = m.2;
        begins = kinds_length before ∙ ap (λ (gs : List TypeGroup). length (entries_of gs)) front ∙ described_length t r (take q hs) (front_written q);
        sized = ap (λ (w : TypeGroup). length w.kinds) (sym m.2) ∙ length-map (filter_map (written_kind t) (m.0).types) (renamed_kind r)
            ∙ group_kinds t m.0 (λ k id at_k. idx.all q k m.0 id m.1 at_k);
      }

  -- a type of such a group
  record Type_of (from : Group) (i : ℕ) (k : Kind) : Type 0 where
    id : ℕ
    kind : Kind
    place : slice_get from.types i ≡ Some id
    written : is_written t id ≡ true
    is : written_kind t id ≡ Some kind
    renamed : renamed_kind r kind ≡ k

  type_of : (before : List TypeGroup) (g : TypeGroup) (of : Of before g) (i : ℕ) (k : Kind) → slice_get g.kinds i ≡ Some k → Type_of of.from i k
  type_of before g of i k at_i =
      let from : Group = of.from in
      let all : (j id : ℕ) → slice_get from.types j ≡ Some id → is_written t id ≡ true = λ j id at_j. idx.all (length before) j from id of.there at_j in
      let m = map_at (renamed_kind r) (filter_map (written_kind t) from.types) i k (ap (λ (w : TypeGroup). slice_get w.kinds i) of.described ∙ at_i) in
      let x = get from.types i (omega (arith, slice_get_within g.kinds i k at_i, of.sized)) in
      let w = all i x.0 x.1 in
      let known = kind_of t x.0 w in
      let same : known.0 ≡ m.0 = same_Some known.0 m.0 (sym (group_kind_at t from all i x.0 known.0 x.1 known.1) ∙ m.1) in
      record { id = x.0; kind = known.0; place = x.1; written = w; is = known.1; renamed = ap (λ (y : Kind). renamed_kind r y) same ∙ m.2 }

  goes_below : (before : List TypeGroup) (g : TypeGroup) → Of before g → (i : ℕ) (k : Kind) (m : ℕ) → slice_get g.kinds i ≡ Some k → In m (kind_names k) → m < length (all_kinds before) + length g.kinds
  goes_below before g of i k m at_i h =
      let x = type_of before g of i k at_i in
      let from = of-mapped r (kind_names x.kind) m (subst (λ (xs : List ℕ). In m xs) (kinds-names r x.kind) (subst (λ (y : Kind). In m (kind_names y)) (sym x.renamed) h)) in
      let fits = (names_fit (length before) i of.from x.id x.kind from.0 of.there x.place x.is from.1).1 in
      omega (arith, fits, from.2, of.begins, of.sized)

  -- where a group of hs stands in the table
  record Home (q : ℕ) (g : Group) : Type 0 where
    turn : ℕ
    ordered : slice_get emission.arranged.in_order.order q ≡ Some turn
    group : slice_get (written_groups t) turn ≡ Some g

  home : (q : ℕ) (g : Group) → slice_get hs q ≡ Some g → Home q g
  home q g at_q =
      let b = (reordered t hs emission.arranged.in_order).back q g at_q in
      record { turn = b.0; ordered = b.1; group = b.2 }

  -- a single type equals no type written before it, unless one of them names itself
  no_twin : (q other_q other_place a b : ℕ) (g h : Group) (x : Kind) → slice_get hs q ≡ Some g → g ≡ record { explicit = false; types = b ∷ [] } → slice_get hs other_q ≡ Some h → slice_get h.types other_place ≡ Some a
      → other_q < q → written_kind t a ≡ Some x → written_kind t b ≡ Some x → names_itself a x ≡ false → names_itself b x ≡ false → ⊥
  no_twin q other_q other_place a b g h x at_q single at_o at_a before is_a is_b apart_a apart_b =
      let home_g = home q g at_q in
      let home_h = home other_q h at_o in
      let wg : List Group = written_groups t in
      let in_g : slice_get g.types 0 ≡ Some b = ap (λ (w : Group). slice_get w.types 0) single in
      elim (cases_lt a b) as (λ _. ⊥) [
        | inl less ↦ steady.twins home_g.turn a b x (home_g.group ∙ ap Some single) less is_a is_b apart_a apart_b
        | inr upto ↦ elim (alone_or_anchor t h.explicit h.types other_place a at_a) as (λ _. ⊥) [
          | inl alone ↦ elim (cases_lt b a) as (λ _. ⊥) [
            | inl less ↦ steady.twins home_h.turn b a x (home_h.group ∙ ap Some alone) less is_b is_a apart_b apart_a
            | inr both ↦
                let e : b ≡ a = omega (arith, upto, both) in
                let f = idx.back (start types_of hs q + 0) b (unseat types_of hs q 0 g b at_q in_g) in
                let m = idx.back (start types_of hs other_q + other_place) a (unseat types_of hs other_q other_place h a at_o at_a) in
                let small = slice_get_within h.types other_place a at_a in
                let rise = starts_rise types_of hs other_q q h before at_o in
                omega (arith, f, m, ap r e, small, rise)
          ]
          | inr anchor ↦
              let key : slice_get (keys_of t) home_h.turn ≡ Some None = at_map (key_of t) wg home_h.turn h home_h.group ∙ ap (λ (o : Option Kind). let y : Option (Option Kind) = Some o in y) anchor in
              let low : home_g.turn ≤ home_h.turn =
              elim (cases_lt home_h.turn home_g.turn) as (λ _. home_g.turn ≤ home_h.turn) [
                | inl under ↦
                    absurd (omega (arith, upto, steady.rising home_h.turn home_g.turn other_place 0 a b h g under home_h.group home_g.group at_a in_g))
                | inr le ↦ le
              ] in
              let anchored = pairs_of (λ i j. HasAnchor (keys_of t) j i → ⊥) emission.arranged.in_order.order emission.arranged.in_order.ordered.anchored in
              anchored other_q q home_h.turn home_g.turn before home_h.ordered home_g.ordered (record { position = home_h.turn; anchor = key; from = low; upto = omega arith })
        ]
      ]

  -- so no equal type is found
  not_found : (before after : List TypeGroup) (g : TypeGroup) → out ≡ before ++ g ∷ after → (of : Of before g) → (k : Kind) → g.marked ≡ false → g.kinds ≡ k ∷ [] → (found : ℕ)
      → equal_type k (straight before).table ≡ Some found → ⊥
  not_found before after g split of k unmarked one found is =
      let u : Table = (straight before).table in
      let ks : List Kind = all_kinds before in
      let q : ℕ = length before in
      let next : next_id u ≡ length ks = length-new_items 0 ks in
      let f = found_is u k found is in
      let l = f.0 in
      let item : Item = l.item in
      let parts = and_parts (same_kind item.kind k) (not (names_itself found item.kind)) l.passes in
      let item_k : item.kind ≡ k = (same-kind-law item.kind k).0 parts.0 in
      let small : found < length ks = omega (arith, live-within u.types found item l.live, next) in
      let other = get ks found small in
      let other_is : other.0 ≡ item.kind =
      ap (λ (y : Item). y.kind) (same_Some (let y : Item = record { id = found; kind = other.0; name = None } in y) item (sym (items_at 0 ks found found other.0 (omega arith) other.1) ∙ l.live)) in
      let in_out : slice_get (all_kinds out) found ≡ Some other.0 =
      ap (λ (gs : List TypeGroup). slice_get (all_kinds gs) found) split
      ∙ ap (λ (xs : List Kind). slice_get xs found) (flat_map-append kinds_in before (g ∷ after))
      ∙ left_at ks (all_kinds (g ∷ after)) found other.0 other.1 in
      let a = at_place found (slice_get_within (all_kinds out) found other.0 in_out) in
      let b = type_of before g of 0 k (ap (λ (xs : List Kind). slice_get xs 0) one) in
      let a_is : renamed_kind r a.kind ≡ item.kind = same_Some (renamed_kind r a.kind) other.0 (sym a.found ∙ in_out) ∙ other_is in
      let same : b.kind ≡ a.kind =
      sym (undone b.id b.kind b.written b.is) ∙ ap (λ (y : Kind). renamed_kind undo y) (b.renamed ∙ sym item_k ∙ sym a_is) ∙ undone a.id a.kind a.written a.is in
      let b_index : r b.id ≡ next_id u = omega (arith, idx.back (start types_of hs q + 0) b.id (unseat types_of hs q 0 of.from b.id of.there b.place), of.begins, next) in
      let apart_a : names_itself a.id a.kind ≡ false =
      apart_back r a.id a.kind
      (ap (λ (i : ℕ). names_itself i (renamed_kind r a.kind)) a.index ∙ ap (λ (y : Kind). names_itself found y) a_is ∙ not_true (names_itself found item.kind) parts.1) in
      let apart_b : names_itself b.id b.kind ≡ false =
      apart_back r b.id b.kind (ap (λ (i : ℕ). names_itself i (renamed_kind r b.kind)) b_index ∙ ap (λ (y : Kind). names_itself (next_id u) y) b.renamed ∙ f.1) in
      let s = seat types_of hs found a.id a.there in
      let earlier : s.piece < q =
      elim (cases_lt s.piece q) as (λ _. s.piece < q) [
        | inl less ↦ less
        | inr past ↦ elim (cases_lt q s.piece) as (λ _. s.piece < q) [
          | inl more ↦ absurd (omega (arith, starts_rise types_of hs q s.piece of.from more of.there, s.is, of.begins, small))
          | inr upto ↦
              let e : s.piece ≡ q = omega (arith, past, upto) in
              absurd (omega (arith, ap (λ (p : ℕ). start types_of hs p) e, s.is, of.begins, small))
        ]
      ] in
      let types : (of.from).types ≡ b.id ∷ [] = one_of (of.from).types b.id (sym of.sized ∙ ap (λ (xs : List Kind). length xs) one) b.place in
      let explicit : (of.from).explicit ≡ false = ap (λ (w : TypeGroup). w.marked) of.described ∙ unmarked in
      let single : of.from ≡ record { explicit = false; types = b.id ∷ [] } =
      ap (λ (e : Bool). let w : Group = record { explicit = e; types = (of.from).types } in w) explicit ∙ ap (λ (xs : List ℕ). let w : Group = record { explicit = false; types = xs } in w) types in
      no_twin q s.piece s.place a.id b.id of.from s.from a.kind of.there single s.at_piece s.at_place earlier a.is (b.is ∙ ap Some same) apart_a (ap (λ (y : Kind). names_itself b.id y) (sym same) ∙ apart_b)

  goes : (before after : List TypeGroup) (g : TypeGroup) → out ≡ before ++ g ∷ after → Goes before g
  goes before after g split =
      let of = of_split before after g split in
      record {
        below = goes_below before g of;
        single = λ unmarked.
            let h = home (length before) of.from of.there in
            of.sized ∙ steady.single h.turn of.from h.group (ap (λ (w : TypeGroup). w.marked) of.described ∙ unmarked);
        apart = λ k unmarked one. elim (equal_type k (straight before).table) as (λ o. equal_type k (straight before).table ≡ o → o ≡ None) [
          | None ↦ λ is. refl
          | Some found ↦ λ is. absurd (not_found before after g split of k unmarked one found is)
        ] refl;
      }

  pub straight_is : read out ≡ straight out
  straight_is = straight_read out goes

  pub plain_out : (i : ℕ) (k : Kind) → slice_get (all_kinds out) i ≡ Some k → k.entry ≡ false
  plain_out i k is =
      let a = at_place i (slice_get_within (all_kinds out) i k is) in
      ap (λ (x : Kind). x.entry) (same_Some k (renamed_kind r a.kind) (sym is ∙ a.found))
      ∙ (written_item t a.id a.kind a.is).3

  abbrev pub u : Table
  u = (straight out).table

  pub groups_out : groups_from 0 out ≡ map (renamed_group r) hs
  groups_out =
      ap (λ (gs : List TypeGroup). groups_from 0 gs) out_is
      ∙ from_described t r 0 hs idx.all (λ p g is. let h = home p g is in steady.filled h.turn g h.group)
      (λ j id is. let e : j ≡ 0 + j = omega arith in idx.back j id is ∙ e)

  groups_again : written_groups u ≡ map (λ i. renamed_group r (slice_index_or (written_groups t) i no_group)) emission.arranged.in_order.order
  groups_again =
      let in_order = emission.arranged.in_order in
      let pick : ℕ → Group = λ i. slice_index_or (written_groups t) i no_group in
      dense_groups (all_kinds out) (groups_from 0 out) u (straight_dense out plain_out)
      ∙ groups_out
      ∙ ap (λ (gs : List Group). map (renamed_group r) gs) in_order.places
      ∙ maps_twice pick (renamed_group r) in_order.order

  pub index_one : (id other : ℕ) → is_written t id ≡ true → is_written t other ≡ true → r id ≡ r other → id ≡ other
  index_one id other one two e = same_Some id other (sym (idx.there id one) ∙ ap (λ (n : ℕ). slice_get flat n) e ∙ idx.there other two)

  still : Pairs (λ i j. (a b : Kind) → slice_get (keys_of t) i ≡ Some (Some a) → slice_get (keys_of t) j ≡ Some (Some b) → kind_cmp a b ≡ Equal → i < j) emission.arranged.in_order.order
  still p q i j before at_p at_q a b at_a at_b equal = elim (cases_lt i j) as (λ _. i < j) [
    | inl less ↦ less
    | inr upto ↦
        let keys : List (Option Kind) = keys_of t in
        let sorted = pairs_of (λ m n. (HasAnchor keys m n → ⊥) → IsLess kind_cmp keys m n) emission.arranged.in_order.order emission.arranged.in_order.ordered.sorted in
        let none : HasAnchor keys i j → ⊥ =
        λ has.
        let low = has.from in
        let high = has.upto in
        let e : has.position ≡ i = omega (arith, low, high, upto) in
        none-some a (same_Some None (Some a) (sym has.anchor ∙ ap (λ (n : ℕ). slice_get keys n) e ∙ at_a)) in
        elim (sorted p q i j before at_p at_q none a b at_a at_b) as (λ _. i < j) [
          | inl l ↦ absurd (false≢true (ap is_lt (sym equal ∙ l)))
          | inr same ↦ same.1
        ]
  ]

  pub alike : Alike r t u
  alike = record {
    turn = emission.arranged.in_order.order;
    whole = subst (λ (n : ℕ). IsPermutation (range_with_len 0 n) emission.arranged.in_order.order) (length-map (written_groups t) (key_of t)) emission.arranged.in_order.ordered.whole;
    groups = groups_again;
    kinds = λ id c.
        let written = (homed.homed id).0 c in
        let k = kind_of t id written in
        dense_written (all_kinds out) (groups_from 0 out) u (straight_dense out plain_out) (r id) (renamed_kind r k.0) (out_kind id k.0 written k.1)
        ∙ sym (ap (λ (o : Option Kind). option_map (renamed_kind r) o) k.1);
    one = λ id other c d e. index_one id other ((homed.homed id).0 c) ((homed.homed other).0 d) e;
    anchored = emission.arranged.in_order.ordered.anchored;
    stable = pairs_to (λ i j. (a b : Kind) → slice_get (keys_of t) i ≡ Some (Some a) → slice_get (keys_of t) j ≡ Some (Some b) → kind_cmp a b ≡ Equal → i < j) emission.arranged.in_order.order still;
  }

  pub both_again : (second : List TypeGroup) (others : List (Option ℕ)) → IsEmission (read out).table second others
      → (second ≡ out) × ((id : ℕ) → is_written t id ≡ true → index_at others (r id) ≡ r id)
  both_again second others is = alike-law r t u homed alike out second indices others emission (subst (λ (s : Parsed). IsEmission s.table second others) straight_is is)

  pub again : (second : List TypeGroup) (others : List (Option ℕ)) → IsEmission (read out).table second others
      → (second ≡ out) × ((i : ℕ) → i < length (entries_of out) → index_map out others i ≡ i)
  again second others is =
      let both = both_again second others is in (
        both.0,
        λ i less.
            let small : i < length (all_kinds out) = omega (arith, less, kinds_length out) in
            let a = at_place i small in
            let e : 0 + i ≡ i = omega arith in
            let id : at (read out).ids i ≡ i = ap (λ (s : Parsed). at s.ids i) straight_is ∙ get_or-range_with_len 0 (length (all_kinds out)) i 0 small ∙ e in
            ap (λ (n : ℕ). index_at others n) (id ∙ sym a.index) ∙ both.1 a.id a.written ∙ a.index,
      )

pub again-law : SecondRoundIsFirst
again-law section out second indices others first emission =
    let groups : List TypeGroup = map type_group section in
    again (read groups).table (shape_steady groups (read groups) (shape_read groups (section_plain section))) out indices first second others emission
