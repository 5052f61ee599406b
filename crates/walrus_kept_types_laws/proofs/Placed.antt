-- Lemmas: a table by places is written as the table is, each type at the same index, where types name those that keep their numbers.
use Rattle.std.proofs.Common.{◌≡◌, ◌∙◌, inl, inr, ℕ, suc, ◌+◌, true, List, [], ◌∷◌, ◌++◌, length, map, filter, Option, Some, None, is_some, unwrap_or, if◌then◌else◌, refl, sym, ap, subst}
use Rattle.std.specs.Prelude.{slice_index_or, nat_lt}
use Rattle.std.specs.List.{slice_get, filter_map, cons_option, flat_map}
use Rattle.std.specs.Option.{option_and_then, option_map_or, option_or}
use Rattle.std.proofs.lemmas.List.{length-map, map-append}
use Rattle.walrus_arena.specs.Arena.{entries_from}
use Rattle.walrus_forms.specs.Kinds.{Kind, kind_names}
use Rattle.walrus_forms.specs.Order.{kind_cmp}
use Rattle.walrus_forms.specs.Records.{TypeGroup}
use Rattle.walrus_forms.specs.Renaming.{renamed_kind}
use Rattle.walrus_forms.proofs.RenamingLemmas.{In, kinds-agree}
use Rattle.walrus_type_order.specs.Order.{IsEmissionOrder}
use Rattle.walrus_types.specs.declared.error.IrError.{IrError}
use Rattle.walrus_types.specs.declared.error.IrError.TheVariants.{Dead, EntryOnly, Later}
use Rattle.walrus_types.specs.Items.{Item, Group}
use Rattle.walrus_types.specs.Table.{Table, type_at}
use Rattle.walrus_types.specs.Emission.{shown_kind, written_kind, is_written, written_groups, loose_kind, single_kind, key_of, index_at, no_group, AreInOrder, AreIndices, written_in, written_types, fault_at, first_fault, group_names, groups_fault, described_group, AreArranged, IsEmission}
use Rattle.walrus_types.proofs.OnceLemmas.{is_shown, written_place}
use Rattle.walrus_types.proofs.Places.{Has, Once, at_map, contains_has, has_contains, map_at, maps_agree, maps_twice, seat}
use Rattle.walrus_type_laws.specs.Alike.{AreHomed, renamed_group}
use Rattle.walrus_type_laws.proofs.Written.{AllWritten, filter_all, home_written, indexed, types_of, written_all}
use Rattle.walrus_kept_types_laws.specs.Placed.{place_among, placed_indices, placed_table}
use Rattle.walrus_kept_types_laws.proofs.Lists.{any_mapped, at_found, filter_mapped, found_at, found_mapped, get_mapped, has_place, in_split, place_at}

entries_all : (f : Group → Group) (n : ℕ) (gs : List Group) → map (λ (e : ℕ × Group). e.1) (entries_from n (map (λ (g : Group). Some (f g)) gs)) ≡ map f gs
entries_all f n [] = refl
entries_all f n (g ∷ gs) = ap (λ (l : List Group). f g ∷ l) (entries_all f (n + 1) gs)

module _ (t : Table) (ids : List ℕ) (once : Once ids) (has : (id : ℕ) → is_written t id ≡ true → Has ids id) where
  abbrev r : ℕ → ℕ
  r = place_among ids

  abbrev u : Table
  u = placed_table ids t

  abbrev rg : Group → Group
  rg = renamed_group r

  abbrev wg : List Group
  wg = written_groups t

  -- ---- types

  pub type_same : (id : ℕ) → Has ids id → type_at u (r id) ≡ type_at t id
  type_same id h = at_found (type_at t) ids (r id) id (has_place ids once id h)

  pub kind_same : (id : ℕ) → Has ids id → written_kind u (r id) ≡ written_kind t id
  kind_same id h = ap (λ (o : Option Item). option_and_then (λ item. shown_kind item.kind) o) (type_same id h)

  pub written_same : (id : ℕ) → Has ids id → is_written u (r id) ≡ is_written t id
  written_same id h = ap (λ (o : Option Kind). is_some o) (kind_same id h)

  pub kind_found : (k : ℕ) (kind : Kind) → written_kind u k ≡ Some kind → (id : ℕ) × (slice_get ids k ≡ Some id) × (written_kind t id ≡ Some kind)
  kind_found k kind is = found_at (type_at t) (λ (o : Option Item). option_and_then (λ item. shown_kind item.kind) o) refl ids k kind is

  abbrev Inside : List ℕ → Type 0
  Inside xs = (k id : ℕ) → slice_get xs k ≡ Some id → is_written t id ≡ true

  pub written_each : (xs : List ℕ) → Inside xs → (k id : ℕ) → slice_get xs k ≡ Some id → is_written u (r id) ≡ is_written t id
  written_each xs inside = λ k id at. written_same id (has id (inside k id at))

  pub kind_each : (xs : List ℕ) → Inside xs → (k id : ℕ) → slice_get xs k ≡ Some id → written_kind u (r id) ≡ written_kind t id
  kind_each xs inside = λ k id at. kind_same id (has id (inside k id at))

  -- ---- groups

  shown_same : (g : Group) → Inside g.types → is_shown u (rg g) ≡ is_shown t g
  shown_same g inside = any_mapped r (is_written u) (is_written t) g.types (written_each g.types inside)

  single_same : (xs : List ℕ) → Inside xs → single_kind (type_at u) (map r xs) ≡ single_kind (type_at t) xs
  single_same [] inside = refl
  single_same (id ∷ []) inside = ap (λ (o : Option Item). option_map_or (λ item. loose_kind (kind_names item.kind) item.kind) o None) (type_same id (has id (inside 0 id refl)))
  single_same (id ∷ other ∷ xs) inside = refl

  key_same : (g : Group) → Inside g.types → key_of u (rg g) ≡ key_of t g
  key_same g inside = ap (λ (o : Option Kind). if g.explicit then None else o) (single_same g.types inside)

  abbrev in_each : (hs : List Group) → AllWritten t hs → (p : ℕ) (g : Group) → slice_get hs p ≡ Some g → Inside g.types
  in_each hs all p g at = λ k id at_k. all p k g id at at_k

  types_placed : (hs : List Group) → AllWritten t hs → written_types u (map rg hs) ≡ map r (written_types t hs)
  types_placed [] all = refl
  types_placed (g ∷ hs) all =
      ap (λ (l : List ℕ). l ++ written_types u (map rg hs)) (filter_mapped r (is_written u) (is_written t) g.types (written_each g.types (λ k id at. all 0 k g id refl at)))
      ∙ ap (λ (l : List ℕ). map r (written_in t g) ++ l) (types_placed hs (λ p k h id at_p at_k. all (suc p) k h id at_p at_k))
      ∙ sym (map-append r (written_in t g) (written_types t hs))

  module _ (homed : AreHomed t) where
    pub groups_same : written_groups u ≡ map rg wg
    groups_same =
        let all : AllWritten t wg = home_written t homed in
        let shown : (k : ℕ) (h : Group) → slice_get (map rg wg) k ≡ Some h → is_shown u h ≡ true =
        λ k h at.
        let m = map_at rg wg k h at in
        ap (λ (w : Group). is_shown u w) (sym m.2) ∙ shown_same m.0 (in_each wg all k m.0 m.1) ∙ (written_place t k m.0 m.1).2 in
        ap (λ (gs : List Group). filter (is_shown u) gs) (entries_all rg 0 wg) ∙ filter_all (is_shown u) (map rg wg) shown

    keys_same : map (key_of u) (written_groups u) ≡ map (key_of t) wg
    keys_same =
        ap (λ (gs : List Group). map (key_of u) gs) groups_same ∙ maps_twice rg (key_of u) wg
        ∙ maps_agree (λ g. key_of u (rg g)) (key_of t) wg (λ p g at. key_same g (in_each wg (home_written t homed) p g at))

    -- ---- what is written

    module _ (low : (id : ℕ) (kind : Kind) → written_kind t id ≡ Some kind → (m : ℕ) → In m (kind_names kind) → slice_get ids m ≡ Some m)
        (out : List TypeGroup) (indices : List (Option ℕ)) (e : IsEmission t out indices) where
      abbrev gs : List Group
      gs = e.groups

      abbrev others : List (Option ℕ)
      others = placed_indices ids indices

      all : AllWritten t gs
      all = (indexed t gs indices homed e.arranged).all

      in_order : AreInOrder u (map rg gs)
      in_order =
          let o = e.arranged.in_order in
          record {
            order = o.order;
            ordered = subst (λ (keys : List (Option Kind)). IsEmissionOrder kind_cmp keys o.order) (sym keys_same) o.ordered;
            places = ap (λ (hs : List Group). map rg hs) o.places
                ∙ maps_twice (λ i. slice_index_or wg i no_group) rg o.order
                ∙ maps_agree (λ i. rg (slice_index_or wg i no_group)) (λ i. slice_index_or (written_groups u) i no_group) o.order
                (λ p i at. sym (get_mapped rg wg i no_group) ∙ ap (λ (hs : List Group). slice_index_or hs i no_group) (sym groups_same));
          }

      index_found : (id : ℕ) → Has ids id → slice_index_or others (r id) None ≡ slice_index_or indices id None
      index_found id h = at_found (λ n. slice_index_or indices n None) ids (r id) id (has_place ids once id h)

      -- a type that is written stands in the list of those that are
      has_types_in : (k id : ℕ) → slice_get (written_types t gs) k ≡ Some id → Has ids id
      has_types_in k id at =
          let s = seat types_of gs k id (ap (λ (l : List ℕ). slice_get l k) (sym (written_all t gs all)) ∙ at) in
          has id (all s.piece s.place s.from id s.at_piece s.at_place)

      are_indices : AreIndices (length u.types) (map r (written_types t gs)) others
      are_indices =
          let o = e.arranged.indexed in
          record {
            sized = length-map ids (λ n. slice_index_or indices n None) ∙ sym (length-map ids (type_at t));
            place = λ k index is.
                let f = found_at (λ n. slice_index_or indices n None) (λ (x : Option ℕ). x) refl ids k index is in
                at_map r (written_types t gs) index f.0 (o.place f.0 index f.2) ∙ ap Some (place_at ids once k f.0 f.1);
            each = λ k c.
                let h = contains_has (map r (written_types t gs)) k c in
                let m = map_at r (written_types t gs) h.0 k h.1 in
                let is = index_found m.0 (has_types_in h.0 m.0 m.1) in
                ap (λ (n : ℕ). is_some (slice_index_or others n None)) (sym m.2) ∙ ap (λ (x : Option ℕ). is_some x) is ∙ o.each m.0 (has_contains (written_types t gs) m.0 (h.0, m.1));
          }

      arranged : AreArranged u (map rg gs) others
      arranged = record { in_order = in_order; indexed = subst (λ (l : List ℕ). AreIndices (length u.types) l others) (sym (types_placed gs all)) are_indices }

      -- ---- names keep their numbers

      abbrev Low : ℕ → Type 0
      Low m = slice_get ids m ≡ Some m

      index_low : (m : ℕ) → Low m → index_at others m ≡ index_at indices m
      index_low m is = ap (λ (x : Option ℕ). unwrap_or x 0) (at_found (λ n. slice_index_or indices n None) ids m m is)

      one_low : (id : ℕ) (o : Option Kind) (rest : List Kind) (m : ℕ) → written_kind t id ≡ o → (In m (flat_map kind_names rest) → Low m) → In m (flat_map kind_names (cons_option o rest)) → Low m
      one_low id None rest m is later i = later i
      one_low id (Some kind) rest m is later i = elim (in_split (kind_names kind) (flat_map kind_names rest) m i) as (λ _. Low m) [ inl here ↦ low id kind is m here | inr there ↦ later there ]

      names_low : (xs : List ℕ) (m : ℕ) → In m (flat_map kind_names (filter_map (written_kind t) xs)) → Low m
      names_low [] m i = absurd i
      names_low (id ∷ xs) m i = one_low id (written_kind t id) (filter_map (written_kind t) xs) m refl (λ j. names_low xs m j) i

      fault_same : (m end : ℕ) → Low m → fault_at u (index_at others) end m ≡ fault_at t (index_at indices) end m
      fault_same m end is =
          ap (λ (o : Option Item). option_map_or (λ item. if item.kind.entry then Some EntryOnly else if nat_lt (index_at others m) end then None else Some Later) o (Some Dead)) (at_found (type_at t) ids m m is)
          ∙ ap (λ (n : ℕ). option_map_or (λ item. if item.kind.entry then Some EntryOnly else if nat_lt n end then None else Some Later) (type_at t m) (Some Dead)) (index_low m is)

      faults_same : (names : List ℕ) (end : ℕ) → ((m : ℕ) → In m names → Low m) → first_fault (fault_at u (index_at others) end) names ≡ first_fault (fault_at t (index_at indices) end) names
      faults_same [] end each = refl
      faults_same (m ∷ names) end each =
          ap (λ (o : Option IrError). option_or o (first_fault (fault_at u (index_at others) end) names)) (fault_same m end (each m (inl refl)))
          ∙ ap (λ (o : Option IrError). option_or (fault_at t (index_at indices) end m) o) (faults_same names end (λ n i. each n (inr i)))

      names_same : (g : Group) → Inside g.types → group_names u (rg g) ≡ group_names t g
      names_same g inside = ap (λ (ks : List Kind). flat_map kind_names ks) (found_mapped r (written_kind u) (written_kind t) g.types (kind_each g.types inside))

      count_same : (g : Group) → Inside g.types → length (written_in u (rg g)) ≡ length (written_in t g)
      count_same g inside = ap (λ (l : List ℕ). length l) (filter_mapped r (is_written u) (is_written t) g.types (written_each g.types inside)) ∙ length-map (written_in t g) r

      sound_same : (start : ℕ) (hs : List Group) → AllWritten t hs → groups_fault u (index_at others) start (map rg hs) ≡ groups_fault t (index_at indices) start hs
      sound_same start [] each = refl
      sound_same start (g ∷ hs) each =
          let inside : Inside g.types = λ k id at. each 0 k g id refl at in
          ap (λ (n : ℕ). option_or (first_fault (fault_at u (index_at others) (start + n)) (group_names u (rg g))) (groups_fault u (index_at others) (start + n) (map rg hs))) (count_same g inside)
          ∙ ap (λ (ns : List ℕ). option_or (first_fault (fault_at u (index_at others) (start + length (written_in t g))) ns) (groups_fault u (index_at others) (start + length (written_in t g)) (map rg hs))) (names_same g inside)
          ∙ ap (λ (o : Option IrError). option_or o (groups_fault u (index_at others) (start + length (written_in t g)) (map rg hs))) (faults_same (group_names t g) (start + length (written_in t g)) (names_low g.types))
          ∙ ap (λ (o : Option IrError). option_or (first_fault (fault_at t (index_at indices) (start + length (written_in t g))) (group_names t g)) o)
          (sound_same (start + length (written_in t g)) hs (λ p k h id at_p at_k. each (suc p) k h id at_p at_k))

      one_kind : (id : ℕ) (o : Option Kind) (rest : List Kind) → written_kind t id ≡ o → map (renamed_kind (index_at others)) rest ≡ map (renamed_kind (index_at indices)) rest
          → map (renamed_kind (index_at others)) (cons_option o rest) ≡ map (renamed_kind (index_at indices)) (cons_option o rest)
      one_kind id None rest is later = later
      one_kind id (Some kind) rest is later =
          ap (λ (k : Kind). k ∷ map (renamed_kind (index_at others)) rest) (kinds-agree (index_at others) (index_at indices) kind (λ m i. index_low m (low id kind is m i)))
          ∙ ap (λ (ks : List Kind). renamed_kind (index_at indices) kind ∷ ks) later

      kinds_same : (xs : List ℕ) → map (renamed_kind (index_at others)) (filter_map (written_kind t) xs) ≡ map (renamed_kind (index_at indices)) (filter_map (written_kind t) xs)
      kinds_same [] = refl
      kinds_same (id ∷ xs) = one_kind id (written_kind t id) (filter_map (written_kind t) xs) refl (kinds_same xs)

      described_same : (g : Group) → Inside g.types → described_group u (index_at others) (rg g) ≡ described_group t (index_at indices) g
      described_same g inside =
          ap (λ (ks : List Kind). let d : TypeGroup = record { marked = g.explicit; kinds = map (renamed_kind (index_at others)) ks } in d) (found_mapped r (written_kind u) (written_kind t) g.types (kind_each g.types inside))
          ∙ ap (λ (ks : List Kind). let d : TypeGroup = record { marked = g.explicit; kinds = ks } in d) (kinds_same g.types)

      pub placed_emission : IsEmission u out others
      placed_emission = record {
        groups = map rg gs;
        arranged = arranged;
        sound = sound_same 0 gs all ∙ e.sound;
        described = e.described ∙ sym (
            maps_twice rg (described_group u (index_at others)) gs
            ∙ maps_agree (λ g. described_group u (index_at others) (rg g)) (described_group t (index_at indices)) gs (λ p g at. described_same g (in_each gs all p g at))
            );
      }

      pub placed_types : written_types u placed_emission.groups ≡ map r (written_types t gs)
      unfolding placed_emission
      placed_types = types_placed gs all

      -- and each has the index that it has there
      pub placed_index : (id : ℕ) → Has ids id → index_at others (r id) ≡ index_at indices id
      placed_index id h = ap (λ (x : Option ℕ). unwrap_or x 0) (index_found id h)
