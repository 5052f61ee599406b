-- Lemmas: the types of a part are told by the module: tables that have its groups, of the types that are kept, are written alike.
use Rattle.std.specs.Prelude.{ℕ, ◌≡◌, ◌≢◌, ◌<◌, ◌+◌, Bool, true, List, [], ◌∷◌, length, map, filter, Contains, AllPairs, Option, Some, is_some, slice_get, slice_index_or, refl}
use Rattle.std.specs.List.{flat_map, range_with_len}
use Rattle.std.specs.Option.{option_map}
use Rattle.std.specs.declared.cmp.Ordering.TheVariants.{Equal}
use Rattle.std.proofs.Common.{ap, sym, ◌∙◌, subst, arith}
use Rattle.std.proofs.lemmas.List.{length-map, map-id}
use Rattle.std.proofs.lemmas.List.FromFn.{length-range_with_len}
use Rattle.std.proofs.lemmas.List.Kept.{AllPairs-filter}
use Rattle.std.proofs.lemmas.List.Sorted.{IsPermutation-refl}
use Rattle.std.proofs.lemmas.Option.{get_or_from_slice_get, same_Some, slice_get_within}
use Rattle.walrus_forms.specs.Kinds.{Kind}
use Rattle.walrus_forms.specs.Order.{kind_cmp}
use Rattle.walrus_forms.specs.Records.{TypeGroup}
use Rattle.walrus_forms.specs.Renaming.{renamed_kind}
use Rattle.walrus_types.specs.Emission.{index_at, is_written, no_group, written_groups, written_kind}
use Rattle.walrus_types.specs.Items.{Group}
use Rattle.walrus_types.specs.Table.{Table}
use Rattle.walrus_types.proofs.OnceLemmas.{reordered}
use Rattle.walrus_types.proofs.Places.{Has, Seat, at_map, at_range, contains_has, has_contains, once_to, pairs_to, range_at, range_once, same_list, seat}
use Rattle.walrus_type_order.specs.Order.{HasAnchor}
use Rattle.walrus_type_laws.specs.Alike.{Alike, AreHomed, keys_of, members, renamed_group}
use Rattle.walrus_type_laws.proofs.AlikeLemmas.{alike-law, groups_same}
use Rattle.walrus_type_laws.proofs.KindOrder.{kinds-kept}
use Rattle.walrus_type_laws.proofs.Written.{Indexed, indexed, kind_of, order_has, types_of, written_all}
use Rattle.wasm_features.specs.declared.WasmFeatures.{WasmFeatures}
use Rattle.wasm_operators.specs.Items.{Types}
use Rattle.wasm_grammar.specs.Modules.{Item, Module}
use Rattle.wasm_grammar.specs.States as states
use Rattle.wasm_references.specs.References.{numbered}
use Rattle.wasm_part.specs.Part.{IsIn, Plan}
use Rattle.wasm_part.specs.Seen.{seen_as}
use Rattle.wasm_part.specs.Written.{WritesKept, with_types}
use Rattle.wasm_rewriting_laws.proofs.Filters.{group_of, in_filter, numbered_pass, of_filter, pairs_back, pairs_flat, with_types_pass}
use Rattle.wasm_rewriting_laws.proofs.Lists.{bool_same}

module _ (features : WasmFeatures) (m : Module) (keep : Bool) (pushed : List Item) where
  abbrev count : ℕ
  count = length (states.types_of m)

  abbrev numbers : List ℕ
  numbers = range_with_len 0 count

  -- the module's groups, of the types that pass
  abbrev groups_with : (ℕ → Bool) → List (Bool × List ℕ)
  groups_with w = with_types (map (λ (g : TypeGroup × List ℕ). (g.0.marked, filter w g.1)) (numbered m.groups numbers))

  module _ (t : Table) (p : Plan) (w : WritesKept (seen_as features m) keep pushed t p) where
    abbrev ids : List ℕ
    ids = flat_map types_of w.emitted.groups

    members_are : members t ≡ filter (is_written t) numbers
    members_are =
        pairs_flat (written_groups t) ∙ ap (λ (es : List (Bool × List ℕ)). flat_map (λ (e : Bool × List ℕ). e.1) es) w.grouped
        ∙ with_types_pass (map (λ (g : TypeGroup × List ℕ). (g.0.marked, filter (is_written t) g.1)) (numbered m.groups numbers))
        ∙ numbered_pass (is_written t) m.groups numbers (length-range_with_len 0 count)

    listed_written : (id : ℕ) → Contains (members t) id → is_written t id ≡ true
    listed_written id c = let h = contains_has (filter (is_written t) numbers) id (subst (λ (l : List ℕ). Contains l id) members_are c) in of_filter (is_written t) numbers h.0 id h.1

    written_listed : (id : ℕ) → is_written t id ≡ true → Contains (members t) id
    written_listed id is =
        let k = kind_of t id is in
        let low : id < count = slice_get_within (states.types_of m) id k.0 (w.known id k.0 k.1) in
        let zeroth : 0 + id ≡ id = omega arith in
        let h = in_filter (is_written t) numbers id id (range_at 0 count id low ∙ ap (λ (n : ℕ). Some n) zeroth) is in
        subst (λ (l : List ℕ). Contains l id) (sym members_are) (has_contains (filter (is_written t) numbers) id h)

    pub homed : AreHomed t
    homed = record {
      homed = λ id. (listed_written id, written_listed id);
      once = subst (λ (l : List ℕ). AllPairs (λ id other. id ≢ other) l) (sym members_are) (AllPairs-filter (λ id other. id ≢ other) (is_written t) numbers (once_to numbers (range_once 0 count)));
    }

    pub in_order : Indexed t w.emitted.groups (index_at w.indices)
    in_order = indexed t w.emitted.groups w.indices homed w.emitted.arranged

    pub listed_are : p.listed Types ≡ ids
    listed_are = w.types ∙ written_all t w.emitted.groups in_order.all

    -- what is listed is written, and what is written is listed
    pub is_listed : (id : ℕ) → is_written t id ≡ true → Has (p.listed Types) id
    is_listed id is =
        let h = order_has t w.emitted.groups w.emitted.arranged.in_order.order homed (reordered t w.emitted.groups w.emitted.arranged.in_order) id is in
        subst (λ (l : List ℕ). Has l id) (sym listed_are) h

    pub writes : (i id : ℕ) → slice_get (p.listed Types) i ≡ Some id → is_written t id ≡ true
    writes i id at =
        let s : Seat types_of w.emitted.groups i id = seat types_of w.emitted.groups i id (ap (λ (l : List ℕ). slice_get l i) (sym listed_are) ∙ at) in
        in_order.all s.piece s.place s.from id s.at_piece s.at_place

  module _ (t u : Table) (p q : Plan) (w : WritesKept (seen_as features m) keep pushed t p) (x : WritesKept (seen_as features m) keep pushed u q) where
    -- the same types are written
    goes : (id : ℕ) → is_written t id ≡ true → is_written u id ≡ true
    goes id is = let h = is_listed t p w id is in writes u q x (q.renames Types id) id (x.kept.has Types id tt (w.kept.only Types h.0 id tt h.1))

    back : (id : ℕ) → is_written u id ≡ true → is_written t id ≡ true
    back id is = let h = is_listed u q x id is in writes t p w (p.renames Types id) id (w.kept.has Types id tt (x.kept.only Types h.0 id tt h.1))

    same_tests : is_written t ≡ is_written u
    same_tests = λ i id. bool_same (is_written t id) (is_written u id) (goes id) (back id) i

    -- in the same groups
    same_groups : written_groups u ≡ written_groups t
    same_groups =
        sym (pairs_back (written_groups u)) ∙ ap (map group_of) (x.grouped ∙ ap groups_with (sym same_tests) ∙ sym w.grouped) ∙ pairs_back (written_groups t)

    -- of the same kinds
    same_kind : (id : ℕ) (k : Kind) → written_kind t id ≡ Some k → written_kind u id ≡ Some k
    same_kind id k is =
        let other = kind_of u id (goes id (ap (λ (o : Option Kind). is_some o) is)) in
        let e : other.0 ≡ k = same_Some other.0 k (sym (x.known id other.0 other.1) ∙ w.known id k is) in
        other.1 ∙ ap (λ (k : Kind). Some k) e

    abbrev ws : List Group
    ws = written_groups t

    abbrev places : List ℕ
    places = range_with_len 0 (length ws)

    abbrev stays : ℕ → ℕ
    stays n = n

    group_stays : (g : Group) → renamed_group stays g ≡ g
    group_stays g = ap (λ (xs : List ℕ). let h : Group = record { explicit = g.explicit; types = xs } in h) (map-id g.types)

    groups_at : ws ≡ map (λ i. renamed_group stays (slice_index_or ws i no_group)) places
    groups_at =
        same_list ws (map (λ i. renamed_group stays (slice_index_or ws i no_group)) places)
        (λ i g at.
        let zeroth : 0 + i ≡ i = omega arith in
        at_map (λ i. renamed_group stays (slice_index_or ws i no_group)) places i i (range_at 0 (length ws) i (slice_get_within ws i g at) ∙ ap (λ (n : ℕ). Some n) zeroth)
        ∙ ap (λ (g : Group). Some g) (ap (renamed_group stays) (get_or_from_slice_get ws i g no_group at) ∙ group_stays g))
        (sym (length-range_with_len 0 (length ws)) ∙ sym (length-map places (λ i. renamed_group stays (slice_index_or ws i no_group))))

    alike : Alike stays t u
    alike = record {
      turn = places;
      whole = IsPermutation-refl places;
      groups = same_groups ∙ groups_at;
      kinds = λ id c.
          let k = kind_of t id (listed_written t p w id c) in
          same_kind id k.0 k.1 ∙ ap (λ (k : Kind). Some k) (sym (kinds-kept k.0)) ∙ sym (ap (option_map (renamed_kind stays)) k.1);
      one = λ id other c d e. e;
      anchored = pairs_to (λ i j. HasAnchor (keys_of t) j i → ⊥) places
          (λ a b i j before at_a at_b has.
          let e = at_range 0 (length ws) a i at_a in
          let f = at_range 0 (length ws) b j at_b in
          omega (arith, has.from, has.upto, e.1, f.1, before));
      stable = pairs_to (λ i j. (a b : Kind) → slice_get (keys_of t) i ≡ Some (Some a) → slice_get (keys_of t) j ≡ Some (Some b) → kind_cmp a b ≡ Equal → i < j) places
          (λ a b i j before at_a at_b k l at_k at_l same.
          let e = at_range 0 (length ws) a i at_a in
          let f = at_range 0 (length ws) b j at_b in
          omega (arith, e.1, f.1, before));
    }

    abbrev both_are : (q.groups ≡ p.groups) × ((id : ℕ) → is_written t id ≡ true → index_at x.indices id ≡ index_at w.indices id)
    both_are = alike-law stays t u (homed t p w) alike p.groups q.groups w.indices x.indices w.emitted x.emitted

    pub groups_told : p.groups ≡ q.groups
    groups_told = sym both_are.0

    pub numbers_told : (n : ℕ) → IsIn p Types n → p.renames Types n ≡ q.renames Types n
    numbers_told n is = ap (λ (f : ℕ → ℕ). f n) w.index ∙ sym (both_are.1 n (writes t p w (p.renames Types n) n is)) ∙ sym (ap (λ (f : ℕ → ℕ). f n) x.index)

    all_stay : (gs : List Group) → map (renamed_group stays) gs ≡ gs
    all_stay [] = refl
    all_stay (g ∷ gs) = ap (λ (h : Group). h ∷ map (renamed_group stays) gs) (group_stays g) ∙ ap (λ (hs : List Group). g ∷ hs) (all_stay gs)

    pub types_told : p.listed Types ≡ q.listed Types
    types_told =
        let gs = w.emitted.groups in
        let hs = x.emitted.groups in
        let same : hs ≡ gs = groups_same stays t u (homed t p w) alike gs hs w.emitted.arranged.in_order x.emitted.arranged.in_order ∙ all_stay gs in
        listed_are t p w ∙ ap (λ (l : List Group). flat_map types_of l) (sym same) ∙ sym (listed_are u q x)
