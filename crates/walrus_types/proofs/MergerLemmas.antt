-- What is parsed into a new table carries what stands for what.
use Rattle.std.proofs.Common.{◌≡◌, ◌∙◌, ℕ, zero, suc, ◌+◌, ◌-◌, ◌<◌, ◌≤◌, ◌⊎◌, inl, inr, Bool, true, false, not, ◌==◌, All, List, [], ◌∷◌, ◌++◌, length, map, Option, Some, None, slice_index_or, if◌then◌else◌, refl, sym, ap, arith, subst, length-append, append_assoc}
use Rattle.std.specs.List.{range_with_len, slice_get}
use Rattle.std.specs.Option.{option_map, MatchOption}
use Rattle.std.proofs.lemmas.Bool.{cases_Bool, cases_lt, cases_eq, eqb-true, and_parts, and_from}
use Rattle.std.proofs.lemmas.Option.{slice_get_within, slice_get-map, slice_get-get_or, get_or_from_slice_get}
use Rattle.std.proofs.lemmas.List.{get_or_append_left, get_or-append-add, length-map, append-nil}
use Rattle.std.proofs.lemmas.List.FromFn.{length-range_with_len, get_or-range_with_len}
use Rattle.walrus_type_arenas.proofs.walrus_type_index.walrus_forms.walrus_arena.ArenaLemmas.{live-within}
use Rattle.walrus_type_arenas.specs.walrus_type_index.walrus_items.walrus_forms.Kinds.{Kind, kind_names}
use Rattle.walrus_type_arenas.specs.walrus_type_index.walrus_items.walrus_forms.Records.{TypeGroup}
use Rattle.walrus_type_arenas.specs.walrus_type_index.walrus_items.walrus_forms.Renaming.{KindBelow, at, renamed_kind}
use Rattle.walrus_type_arenas.specs.walrus_type_index.walrus_items.walrus_forms.Same.{same_kind}
use Rattle.walrus_type_arenas.proofs.walrus_type_index.walrus_forms.EqLemmas.{same-kind-law}
use Rattle.walrus_type_arenas.proofs.walrus_type_index.walrus_forms.RenamingLemmas.{In, in-mapped, of-mapped, in-any, any-in, kinds-agree, kinds-twice, kinds-names, kinds-below}
use Rattle.walrus_type_arenas.specs.walrus_type_index.walrus_items.Items.{Item}
use Rattle.walrus_type_arenas.specs.Groups.{new_items}
use Rattle.walrus_type_arenas.specs.Table.{next_id, type_at, names_itself, merges, latest_id}
use Rattle.walrus_type_arenas.specs.TypeLaws.{IsLatest}
use Rattle.walrus_types.specs.Parsing.{Parsed, with_group, merged, parsed_group, parsed, unparsed, AreBelow}
use Rattle.walrus_types.specs.Mergers.{Entry, is_single, entries_of, IsEqual, StandsFor, IsSame, ParsingCarriesSame}
use Rattle.walrus_type_arenas.proofs.GroupLemmas.{length-new_items}
use Rattle.walrus_type_arenas.proofs.LawLemmas.{latest-law}

-- look-ups in a list with more behind it
at-left : (xs ys : List ℕ) (i : ℕ) → i < length xs → at (xs ++ ys) i ≡ at xs i
at-left xs ys i less = get_or_append_left xs ys 0 i less

at-right : (xs ys : List ℕ) (n i j : ℕ) → length xs ≡ n → n + i ≡ j → at (xs ++ ys) j ≡ at ys i
at-right xs ys n i j sized is =
    let e : j ≡ length xs + i = omega (arith, sized, is) in
    ap (λ (k : ℕ). at (xs ++ ys) k) e ∙ get_or-append-add xs ys i 0

at-range : (xs : List ℕ) (n a c i j : ℕ) → length xs ≡ n → i < c → n + i ≡ j → at (xs ++ range_with_len a c) j ≡ a + i
at-range xs n a c i j sized less is = at-right xs (range_with_len a c) n i j sized is ∙ get_or-range_with_len a c i 0 less

pub get-left : {X : Type 0} (xs ys : List X) (i : ℕ) → i < length xs → slice_get (xs ++ ys) i ≡ slice_get xs i
get-left [] ys i less = absurd (omega arith)
get-left (x ∷ xs) ys zero less = refl
get-left (x ∷ xs) ys (suc i) less = get-left xs ys i (omega arith)

get-right : {X : Type 0} (xs ys : List X) (i j : ℕ) → length xs + i ≡ j → slice_get (xs ++ ys) j ≡ slice_get ys i
get-right [] ys i j is = let e : j ≡ i = omega (arith, is) in ap (λ (k : ℕ). slice_get ys k) e
get-right {X} (x ∷ xs) ys i zero is = absurd (omega (arith, is))
get-right (x ∷ xs) ys i (suc j) is = get-right xs ys i j (omega (arith, is))

-- a new type by its place among the new ones
new-at : (id : ℕ) (kinds : List Kind) (i : ℕ) (kind : Kind) → slice_get kinds i ≡ Some kind
    → slice_index_or (new_items id kinds) i None ≡ Some (record { id = id + i; kind = kind; name = None })
new-at id [] i kind is = absurd cc
new-at id (k ∷ ks) zero kind is =
    let same : k ≡ kind = cc in
    let e : id ≡ id + 0 = omega arith in
    ap (λ (x : Kind). Some (record { id = id; kind = x; name = None })) same ∙ ap (λ (n : ℕ). Some (record { id = n; kind = kind; name = None })) e
new-at id (k ∷ ks) (suc i) kind is =
    let e : id + 1 + i ≡ id + suc i = omega arith in
    new-at (id + 1) ks i kind is ∙ ap (λ (n : ℕ). Some (record { id = n; kind = kind; name = None })) e

-- what holds between the types that were parsed and the table: `reps` has for each id the type that it
-- was given to
record Holds (entries : List Entry) (same reps : List ℕ) (s : Parsed) : Type 0 where
  is_same : IsSame entries same
  sized : length s.ids ≡ length entries
  given : length reps ≡ next_id s.table
  live : (i : ℕ) → i < length entries → at s.ids i < next_id s.table
  forth : (i : ℕ) → i < length entries → at reps (at s.ids i) ≡ at same i
  back : (v : ℕ) → v < next_id s.table → at s.ids (at reps v) ≡ v
  within : (v : ℕ) → v < next_id s.table → at reps v < length entries
  itself : (v : ℕ) → v < next_id s.table → at same (at reps v) ≡ at reps v
  rising : (v w : ℕ) → v < w → w < next_id s.table → at reps v < at reps w
  named : (i : ℕ) (e : Entry) → slice_get entries i ≡ Some e
      → type_at s.table (at s.ids i) ≡ Some (record { id = at s.ids i; kind = renamed_kind (at s.ids) e.kind; name = None })
  below : (i : ℕ) (e : Entry) (m : ℕ) → slice_get entries i ≡ Some e → In m (kind_names e.kind) → m < length entries
  own : (i : ℕ) (e : Entry) (m : ℕ) → slice_get entries i ≡ Some e → at same i ≡ i → In m (kind_names e.kind) → at same m ≡ i → m ≡ i
  low : (i : ℕ) → i < length entries → at same i ≤ i

-- more types behind change nothing for those before
equal-kept : (entries new : List Entry) (same more : List ℕ) → length same ≡ length entries
    → ((i : ℕ) (e : Entry) (m : ℕ) → slice_get entries i ≡ Some e → In m (kind_names e.kind) → m < length entries)
    → (i j : ℕ) → i < length entries → IsEqual entries same i j → IsEqual (entries ++ new) (same ++ more) i j
equal-kept entries new same more sized below i j less q =
    let keeps : (k : ℕ) (e : Entry) → slice_get entries k ≡ Some e → renamed_kind (at (same ++ more)) e.kind ≡ renamed_kind (at same) e.kind =
    λ k e get. kinds-agree (at (same ++ more)) (at same) e.kind (λ m h. at-left same more m (let b = below k e m get h in omega (arith, sized, b))) in
    record {
      earlier = q.earlier;
      itself = at-left same more j (let b = q.earlier in omega (arith, sized, less, b)) ∙ q.itself;
      a = q.a;
      b = q.b;
      at_i = get-left entries new i less ∙ q.at_i;
      at_j = get-left entries new j (let b = q.earlier in omega (arith, less, b)) ∙ q.at_j;
      kinds = keeps i q.a q.at_i ∙ q.kinds ∙ sym (keeps j q.b q.at_j);
      apart_i = q.apart_i;
      apart_j = q.apart_j;
    }

equal-before : (entries new : List Entry) (same more : List ℕ) → length same ≡ length entries
    → ((i : ℕ) (e : Entry) (m : ℕ) → slice_get entries i ≡ Some e → In m (kind_names e.kind) → m < length entries)
    → (i j : ℕ) → i < length entries → IsEqual (entries ++ new) (same ++ more) i j → IsEqual entries same i j
equal-before entries new same more sized below i j less q =
    let keeps : (k : ℕ) (e : Entry) → slice_get entries k ≡ Some e → renamed_kind (at (same ++ more)) e.kind ≡ renamed_kind (at same) e.kind =
    λ k e get. kinds-agree (at (same ++ more)) (at same) e.kind (λ m h. at-left same more m (let b = below k e m get h in omega (arith, sized, b))) in
    let lower : j < length entries = let b = q.earlier in omega (arith, less, b) in
    let get_i : slice_get entries i ≡ Some q.a = sym (get-left entries new i less) ∙ q.at_i in
    let get_j : slice_get entries j ≡ Some q.b = sym (get-left entries new j lower) ∙ q.at_j in
    record {
      earlier = q.earlier;
      itself = sym (at-left same more j (omega (arith, sized, lower))) ∙ q.itself;
      a = q.a;
      b = q.b;
      at_i = get_i;
      at_j = get_j;
      kinds = sym (keeps i q.a get_i) ∙ q.kinds ∙ keeps j q.b get_j;
      apart_i = q.apart_i;
      apart_j = q.apart_j;
    }

stands-kept : (entries new : List Entry) (same more : List ℕ) → length same ≡ length entries
    → ((i : ℕ) (e : Entry) (m : ℕ) → slice_get entries i ≡ Some e → In m (kind_names e.kind) → m < length entries)
    → (i : ℕ) → i < length entries → StandsFor entries same i (at same i) → StandsFor (entries ++ new) (same ++ more) i (at (same ++ more) i)
stands-kept entries new same more sized below i less stands =
    subst (λ (k : ℕ). StandsFor (entries ++ new) (same ++ more) i k) (sym (at-left same more i (omega (arith, sized, less))))
    (elim stands as (λ _. StandsFor (entries ++ new) (same ++ more) i (at same i)) [
      | inl h ↦ inl (
        equal-kept entries new same more sized below i (at same i) less h.0,
        λ j later q. h.1 j later (equal-before entries new same more sized below i j less q),
      )
      | inr h ↦ inr (h.0, λ j q. h.1 j (equal-before entries new same more sized below i j less q))
    ])

-- what an optional value was made of
option-from : {X Y : Type 0} (f : X → Y) (o : Option X) (y : Y) → option_map f o ≡ Some y → (x : X) × (o ≡ Some x) × (y ≡ f x)
option-from f None y is = absurd cc
option-from f (Some x) y is = let e : y ≡ f x = cc in (x, refl, e)

-- a type of the longer list is one of the first, or a new one
pub get-split : (entries : List Entry) (b : Bool) (ks : List Kind) (i : ℕ) (e : Entry)
    → slice_get (entries ++ map (λ (kind : Kind). let x : Entry = record { single = b; kind = kind } in x) ks) i ≡ Some e
    → ((i < length entries) × (slice_get entries i ≡ Some e))
    ⊎ ((k : ℕ) × (kind : Kind) × (k < length ks) × (length entries + k ≡ i) × (slice_get ks k ≡ Some kind) × (e ≡ record { single = b; kind = kind }))
get-split entries b ks i e get =
    let make : Kind → Entry = λ kind. record { single = b; kind = kind } in
    elim (cases_lt i (length entries)) as (λ _. ((i < length entries) × (slice_get entries i ≡ Some e))
    ⊎ ((k : ℕ) × (kind : Kind) × (k < length ks) × (length entries + k ≡ i) × (slice_get ks k ≡ Some kind) × (e ≡ record { single = b; kind = kind }))) [
      | inl less ↦ inl (less, sym (get-left entries (map make ks) i less) ∙ get)
      | inr past ↦
          let k : ℕ = i - length entries in
          let is : length entries + k ≡ i = omega (arith, past) in
          let found = option-from make (slice_get ks k) e (sym (slice_get-map make ks k) ∙ sym (get-right entries (map make ks) k i is) ∙ get) in
          inr (k, found.0, slice_get_within ks k found.0 found.1, is, found.1, found.2)
    ]

-- the kind of a new type
pub kind-at : (P : Kind → Type 0) (ks : List Kind) (k : ℕ) (kind : Kind) → slice_get ks k ≡ Some kind → All P ks → P kind
kind-at P ks k kind get all = subst P (get_or_from_slice_get ks k kind kind get) (all k kind (slice_get_within ks k kind get))

-- new types that stand for themselves
append-step : (entries : List Entry) (same reps : List ℕ) (s : Parsed) (b : Bool) (ks : List Kind) (marked : Bool) → Holds entries same reps s
    → All (KindBelow (length entries + length ks)) ks
    → ((i j : ℕ) → length entries ≤ i → b ≡ true
    → IsEqual (entries ++ map (λ (kind : Kind). let x : Entry = record { single = b; kind = kind } in x) ks) (same ++ range_with_len (length entries) (length ks)) i j → ⊥)
    → Holds (entries ++ map (λ (kind : Kind). let x : Entry = record { single = b; kind = kind } in x) ks)
    (same ++ range_with_len (length entries) (length ks)) (reps ++ range_with_len (length entries) (length ks))
    (record {
      ids = s.ids ++ range_with_len (next_id s.table) (length ks);
      table = with_group marked (map (renamed_kind (at (s.ids ++ range_with_len (next_id s.table) (length ks)))) ks) s.table;
    })
append-step entries same reps s b ks marked h below alone =
    let make : Kind → Entry = λ kind. record { single = b; kind = kind } in
    let n : ℕ = length entries in
    let c : ℕ = length ks in
    let next : ℕ = next_id s.table in
    let news : List Entry = map make ks in
    let own_ids : List ℕ = range_with_len next c in
    let more : List ℕ = range_with_len n c in
    let known : List ℕ = s.ids ++ own_ids in
    let kinds : List Kind = map (renamed_kind (at known)) ks in
    let total : length (entries ++ news) ≡ n + c = omega (arith, length-append entries news, length-map ks make) in
    let after : length (s.table.types ++ new_items next kinds) ≡ next + c =
    omega (arith, length-append s.table.types (new_items next kinds), length-new_items next kinds, length-map ks (renamed_kind (at known))) in
    let same_n : length same ≡ n = h.is_same.sized in
    let old_same : (i : ℕ) → i < n → at (same ++ more) i ≡ at same i = λ i less. at-left same more i (omega (arith, same_n, less)) in
    let new_same : (i k : ℕ) → k < c → n + k ≡ i → at (same ++ more) i ≡ i = λ i k less is. at-range same n n c k i same_n less is ∙ is in
    let old_known : (i : ℕ) → i < n → at known i ≡ at s.ids i = λ i less. at-left s.ids own_ids i (omega (arith, h.sized, less)) in
    let new_known : (i k : ℕ) → k < c → n + k ≡ i → at known i ≡ next + k = λ i k less is. at-range s.ids n next c k i h.sized less is in
    let old_reps : (v : ℕ) → v < next → at (reps ++ more) v ≡ at reps v = λ v less. at-left reps more v (omega (arith, h.given, less)) in
    let new_reps : (v k : ℕ) → k < c → next + k ≡ v → at (reps ++ more) v ≡ n + k = λ v k less is. at-range reps next n c k v h.given less is in
    record {
      is_same = record {
        sized = omega (arith, length-append same more, length-range_with_len n c, total, same_n);
        grouped = λ i e get other.
            elim (get-split entries b ks i e get) as (λ _. at (same ++ more) i ≡ i) [
              | inl old ↦ old_same i old.0 ∙ h.is_same.grouped i e old.1 other
              | inr new ↦ new_same i new.0 new.2 new.3
            ];
        single = λ i e get one.
            elim (get-split entries b ks i e get) as (λ _. StandsFor (entries ++ news) (same ++ more) i (at (same ++ more) i)) [
              | inl old ↦ stands-kept entries news same more same_n h.below i old.0 (h.is_same.single i e old.1 one)
              | inr new ↦
                  let b_is : b ≡ true = sym (ap (λ (x : Entry). x.single) new.5) ∙ one in
                  let past : n ≤ i = omega (arith, new.3) in
                  inr (new_same i new.0 new.2 new.3, λ j q. alone i j past b_is q)
            ];
      };
      sized = omega (arith, length-append s.ids own_ids, length-range_with_len next c, total, h.sized);
      given = omega (arith, length-append reps more, length-range_with_len n c, after, h.given);
      live = λ i less.
          elim (cases_lt i n) as (λ _. at known i < length (s.table.types ++ new_items next kinds)) [
            | inl old ↦ let l = h.live i old in omega (arith, l, old_known i old, after)
            | inr past ↦
                let k : ℕ = i - n in
                let is : n + k ≡ i = omega (arith, past) in
                let within : k < c = omega (arith, less, total, is) in
                omega (arith, new_known i k within is, within, after)
          ];
      forth = λ i less.
          elim (cases_lt i n) as (λ _. at (reps ++ more) (at known i) ≡ at (same ++ more) i) [
            | inl old ↦
                ap (λ (v : ℕ). at (reps ++ more) v) (old_known i old) ∙ old_reps (at s.ids i) (h.live i old) ∙ h.forth i old ∙ sym (old_same i old)
            | inr past ↦
                let k : ℕ = i - n in
                let is : n + k ≡ i = omega (arith, past) in
                let within : k < c = omega (arith, less, total, is) in
                ap (λ (v : ℕ). at (reps ++ more) v) (new_known i k within is) ∙ new_reps (next + k) k within refl ∙ is ∙ sym (new_same i k within is)
          ];
      back = λ v less.
          elim (cases_lt v next) as (λ _. at known (at (reps ++ more) v) ≡ v) [
            | inl old ↦
                ap (λ (i : ℕ). at known i) (old_reps v old) ∙ old_known (at reps v) (h.within v old) ∙ h.back v old
            | inr past ↦
                let k : ℕ = v - next in
                let is : next + k ≡ v = omega (arith, past) in
                let within : k < c = omega (arith, less, after, is) in
                ap (λ (i : ℕ). at known i) (new_reps v k within is) ∙ new_known (n + k) k within refl ∙ is
          ];
      within = λ v less.
          elim (cases_lt v next) as (λ _. at (reps ++ more) v < length (entries ++ news)) [
            | inl old ↦ let w = h.within v old in omega (arith, w, old_reps v old, total)
            | inr past ↦
                let k : ℕ = v - next in
                let is : next + k ≡ v = omega (arith, past) in
                let within : k < c = omega (arith, less, after, is) in
                omega (arith, new_reps v k within is, within, total)
          ];
      itself = λ v less.
          elim (cases_lt v next) as (λ _. at (same ++ more) (at (reps ++ more) v) ≡ at (reps ++ more) v) [
            | inl old ↦
                ap (λ (i : ℕ). at (same ++ more) i) (old_reps v old) ∙ old_same (at reps v) (h.within v old) ∙ h.itself v old ∙ sym (old_reps v old)
            | inr past ↦
                let k : ℕ = v - next in
                let is : next + k ≡ v = omega (arith, past) in
                let within : k < c = omega (arith, less, after, is) in
                new_same (at (reps ++ more) v) k within (sym (new_reps v k within is))
          ];
      rising = λ v w under less.
          elim (cases_lt w next) as (λ _. at (reps ++ more) v < at (reps ++ more) w) [
            | inl old ↦
                let r = h.rising v w under old in
                omega (arith, r, old_reps v (omega (arith, under, old)), old_reps w old)
            | inr past ↦
                let l : ℕ = w - next in
                let is : next + l ≡ w = omega (arith, past) in
                let within : l < c = omega (arith, less, after, is) in
                elim (cases_lt v next) as (λ _. at (reps ++ more) v < at (reps ++ more) w) [
                  | inl low ↦
                      let x = h.within v low in
                      omega (arith, x, old_reps v low, new_reps w l within is)
                  | inr high ↦
                      let k : ℕ = v - next in
                      let here : next + k ≡ v = omega (arith, high) in
                      let inside : k < c = omega (arith, under, here, is, within) in
                      omega (arith, new_reps v k inside here, new_reps w l within is, under, here, is)
                ]
          ];
      named = λ i e get.
          elim (get-split entries b ks i e get) as (λ _. slice_index_or (s.table.types ++ new_items next kinds) (at known i) None
          ≡ Some (record { id = at known i; kind = renamed_kind (at known) e.kind; name = None })) [
            | inl old ↦
                let agree : renamed_kind (at s.ids) e.kind ≡ renamed_kind (at known) e.kind =
                kinds-agree (at s.ids) (at known) e.kind (λ m x. sym (old_known m (h.below i e m old.1 x))) in
                ap (λ (v : ℕ). slice_index_or (s.table.types ++ new_items next kinds) v None) (old_known i old.0)
                ∙ get_or_append_left s.table.types (new_items next kinds) None (at s.ids i) (h.live i old.0)
                ∙ h.named i e old.1
                ∙ ap (λ (x : Kind). let t : Option Item = Some (record { id = at s.ids i; kind = x; name = None }) in t) agree
                ∙ ap (λ (v : ℕ). let t : Option Item = Some (record { id = v; kind = renamed_kind (at known) e.kind; name = None }) in t) (sym (old_known i old.0))
            | inr new ↦
                let kind_is : slice_get kinds new.0 ≡ Some (renamed_kind (at known) new.1) =
                slice_get-map (renamed_kind (at known)) ks new.0 ∙ ap (λ (o : Option Kind). option_map (renamed_kind (at known)) o) new.4 in
                let id_is = new_known i new.0 new.2 new.3 in
                ap (λ (v : ℕ). slice_index_or (s.table.types ++ new_items next kinds) v None) id_is
                ∙ get_or-append-add s.table.types (new_items next kinds) new.0 None
                ∙ new-at next kinds new.0 (renamed_kind (at known) new.1) kind_is
                ∙ ap (λ (v : ℕ). let t : Option Item = Some (record { id = v; kind = renamed_kind (at known) new.1; name = None }) in t) (sym id_is)
                ∙ ap (λ (x : Entry). let t : Option Item = Some (record { id = at known i; kind = renamed_kind (at known) x.kind; name = None }) in t) (sym new.5)
          ];
      below = λ i e m get x.
          elim (get-split entries b ks i e get) as (λ _. m < length (entries ++ news)) [
            | inl old ↦ let l = h.below i e m old.1 x in omega (arith, l, total)
            | inr new ↦
                let y = subst (λ (z : Entry). In m (kind_names z.kind)) new.5 x in
                let l = kinds-below new.1 (n + c) (kind-at (KindBelow (n + c)) ks new.0 new.1 new.4 below) m y in
                omega (arith, l, total)
          ];
      own = λ i e m get itself x is_same.
          elim (get-split entries b ks i e get) as (λ _. m ≡ i) [
            | inl old ↦
                let l = h.below i e m old.1 x in
                h.own i e m old.1 (sym (old_same i old.0) ∙ itself) x (sym (old_same m l) ∙ is_same)
            | inr new ↦
                let y = subst (λ (z : Entry). In m (kind_names z.kind)) new.5 x in
                let l = kinds-below new.1 (n + c) (kind-at (KindBelow (n + c)) ks new.0 new.1 new.4 below) m y in
                elim (cases_lt m n) as (λ _. m ≡ i) [
                  | inl lower ↦ let z = h.low m lower in absurd (omega (arith, z, lower, old_same m lower, is_same, new.3))
                  | inr past ↦
                      let k : ℕ = m - n in
                      let is : n + k ≡ m = omega (arith, past) in
                      let within : k < c = omega (arith, l, is) in
                      sym (new_same m k within is) ∙ is_same
                ]
          ];
      low = λ i less.
          elim (cases_lt i n) as (λ _. at (same ++ more) i ≤ i) [
            | inl old ↦ let l = h.low i old in omega (arith, l, old_same i old)
            | inr past ↦
                let k : ℕ = i - n in
                let is : n + k ≡ i = omega (arith, past) in
                let within : k < c = omega (arith, less, total, is) in
                omega (arith, new_same i k within is)
          ];
    }

-- what a type stands for has the type's id
stands-alike : (entries : List Entry) (same reps : List ℕ) (s : Parsed) → Holds entries same reps s → (m : ℕ) → m < length entries → at s.ids (at same m) ≡ at s.ids m
stands-alike entries same reps s h m less = ap (λ (i : ℕ). at s.ids i) (sym (h.forth m less)) ∙ h.back (at s.ids m) (h.live m less)

-- an equal type's id passes the test of the table
passes : (entries : List Entry) (same reps more known : List ℕ) (s : Parsed) (k : Kind) → Holds entries same reps s
    → ((m : ℕ) → m < length entries → at known m ≡ at s.ids m)
    → ((m : ℕ) → In m (kind_names k) → at known (at (same ++ more) m) ≡ at known m)
    → (j : ℕ) → IsEqual (entries ++ record { single = true; kind = k } ∷ []) (same ++ more) (length entries) j
    → (x : Item) → type_at s.table (at s.ids j) ≡ Some x → merges (renamed_kind (at known) k) (at s.ids j, x) ≡ true
passes entries same reps more known s k h old_known stable j q x live =
    let e : Entry = record { single = true; kind = k } in
    let n : ℕ = length entries in
    let K : Kind = renamed_kind (at known) k in
    let less : j < n = q.earlier in
    let get_j : slice_get entries j ≡ Some q.b = sym (get-left entries (e ∷ []) j less) ∙ q.at_j in
    let get_n : Some q.a ≡ Some e = sym q.at_i ∙ get-right entries (e ∷ []) 0 n (omega arith) in
    let is_e : q.a ≡ e = cc in
    let there : Some (let t : Item = record { id = at s.ids j; kind = renamed_kind (at s.ids) q.b.kind; name = None } in t) ≡ Some x = sym (h.named j q.b get_j) ∙ live in
    let is_x : (let t : Item = record { id = at s.ids j; kind = renamed_kind (at s.ids) q.b.kind; name = None } in t) ≡ x = cc in
    let x_kind : renamed_kind (at s.ids) q.b.kind ≡ x.kind = ap (λ (t : Item). t.kind) is_x in
    let old_same : (m : ℕ) → m < n → at (same ++ more) m ≡ at same m = λ m l. at-left same more m (omega (arith, h.is_same.sized, l)) in
    let mine : renamed_kind (at known) (renamed_kind (at (same ++ more)) k) ≡ K =
    kinds-twice (at (same ++ more)) (at known) k ∙ kinds-agree (λ m. at known (at (same ++ more) m)) (at known) k stable in
    let its : renamed_kind (at known) (renamed_kind (at (same ++ more)) q.b.kind) ≡ renamed_kind (at s.ids) q.b.kind =
    kinds-twice (at (same ++ more)) (at known) q.b.kind
    ∙ kinds-agree (λ m. at known (at (same ++ more) m)) (at s.ids) q.b.kind (λ m i.
    let l : m < n = h.below j q.b m get_j i in
    let low = h.low m l in
    ap (λ (z : ℕ). at known z) (old_same m l) ∙ old_known (at same m) (omega (arith, low, l)) ∙ stands-alike entries same reps s h m l) in
    let kinds : x.kind ≡ K =
    sym x_kind ∙ sym its ∙ ap (λ (z : Kind). renamed_kind (at known) z) (sym q.kinds)
    ∙ ap (λ (z : Entry). renamed_kind (at known) (renamed_kind (at (same ++ more)) z.kind)) is_e ∙ mine in
    let stands : at same j ≡ j = sym (old_same j less) ∙ q.itself in
    let apart : names_itself (at s.ids j) x.kind ≡ false =
    elim (cases_Bool (names_itself (at s.ids j) x.kind)) as (λ _. names_itself (at s.ids j) x.kind ≡ false) [
      | inl names ↦
          let in_x : In (at s.ids j) (kind_names x.kind) = any-in (kind_names x.kind) (at s.ids j) names in
          let in_map : In (at s.ids j) (map (at s.ids) (kind_names q.b.kind)) =
          subst (λ (xs : List ℕ). In (at s.ids j) xs) (kinds-names (at s.ids) q.b.kind) (subst (λ (z : Kind). In (at s.ids j) (kind_names z)) (sym x_kind) in_x) in
          let from = of-mapped (at s.ids) (kind_names q.b.kind) (at s.ids j) in_map in
          let l : from.0 < n = h.below j q.b from.0 get_j from.1 in
          let same_one : at same from.0 ≡ j = sym (h.forth from.0 l) ∙ ap (λ (v : ℕ). at reps v) from.2 ∙ h.forth j less ∙ stands in
          let itself : from.0 ≡ j = h.own j q.b from.0 get_j stands from.1 same_one in
          let yes : names_itself j q.b.kind ≡ true = in-any (kind_names q.b.kind) j (subst (λ (m : ℕ). In m (kind_names q.b.kind)) itself from.1) in
          let no : true ≡ false = sym yes ∙ q.apart_j in
          absurd cc
      | inr apart ↦ apart
    ] in
    and_from (same_kind x.kind K) (not (names_itself (at s.ids j) x.kind)) ((same-kind-law x.kind K).1 kinds) (ap not apart)

-- a single type that names itself is known by the name that it gets
itself-known : (ids : List ℕ) (n next : ℕ) (k : Kind) → length ids ≡ n → ((m : ℕ) → m < n → at ids m < next) → ((m : ℕ) → In m (kind_names k) → m < n + 1)
    → names_itself next (renamed_kind (at (ids ++ next ∷ [])) k) ≡ true → names_itself n k ≡ true
itself-known ids n next k sized live below names =
    let known : List ℕ = ids ++ next ∷ [] in
    let in_map : In next (map (at known) (kind_names k)) =
    subst (λ (xs : List ℕ). In next xs) (kinds-names (at known) k) (any-in (kind_names (renamed_kind (at known) k)) next names) in
    let from = of-mapped (at known) (kind_names k) next in_map in
    let l = below from.0 from.1 in
    let is : from.0 ≡ n =
    elim (cases_lt from.0 n) as (λ _. from.0 ≡ n) [
      | inl lower ↦ let v = live from.0 lower in absurd (omega (arith, v, at-left ids (next ∷ []) from.0 (omega (arith, sized, lower)), from.2))
      | inr past ↦ omega (arith, past, l)
    ] in
    in-any (kind_names k) n (subst (λ (m : ℕ). In m (kind_names k)) is from.1)

-- a single type that doesn't name itself names those before it
others-below : (ids : List ℕ) (n next : ℕ) (k : Kind) → length ids ≡ n → ((m : ℕ) → In m (kind_names k) → m < n + 1)
    → names_itself next (renamed_kind (at (ids ++ next ∷ [])) k) ≡ false → (m : ℕ) → In m (kind_names k) → m < n
others-below ids n next k sized below apart m i =
    let known : List ℕ = ids ++ next ∷ [] in
    let l = below m i in
    elim (cases_eq m n) as (λ _. m < n) [
      | inl is ↦
          let here : at known m ≡ next = at-right ids (next ∷ []) n 0 m sized (omega (arith, is)) in
          let in_map : In (at known m) (kind_names (renamed_kind (at known) k)) =
          subst (λ (xs : List ℕ). In (at known m) xs) (sym (kinds-names (at known) k)) (in-mapped (at known) (kind_names k) m i) in
          let yes = in-any (kind_names (renamed_kind (at known) k)) next (subst (λ (v : ℕ). In v (kind_names (renamed_kind (at known) k))) here in_map) in
          let no : true ≡ false = sym yes ∙ apart in
          absurd cc
      | inr other ↦ omega (arith, l, other)
    ]

-- a single type that merges with the latest equal one
merge-step : (entries : List Entry) (same reps : List ℕ) (s : Parsed) (k : Kind) (v : ℕ) → Holds entries same reps s
    → KindBelow (length entries + 1) k
    → names_itself (next_id s.table) (renamed_kind (at (s.ids ++ next_id s.table ∷ [])) k) ≡ false
    → IsLatest (merges (renamed_kind (at (s.ids ++ next_id s.table ∷ [])) k)) s.table v
    → Holds (entries ++ record { single = true; kind = k } ∷ []) (same ++ at reps v ∷ []) reps (record { ids = s.ids ++ v ∷ []; table = s.table })
merge-step entries same reps s k v h below apart found =
    let e : Entry = record { single = true; kind = k } in
    let n : ℕ = length entries in
    let next : ℕ = next_id s.table in
    let known : List ℕ = s.ids ++ next ∷ [] in
    let K : Kind = renamed_kind (at known) k in
    let j : ℕ = at reps v in
    let more : List ℕ = j ∷ [] in
    let ids : List ℕ = s.ids ++ v ∷ [] in
    let total : length (entries ++ e ∷ []) ≡ n + 1 = length-append entries (e ∷ []) in
    let same_n : length same ≡ n = h.is_same.sized in
    let v_less : v < next = live-within s.table.types v found.item found.live in
    let j_less : j < n = h.within v v_less in
    let names_below : (m : ℕ) → In m (kind_names k) → m < n = others-below s.ids n next k h.sized (λ m i. kinds-below k (n + 1) below m i) apart in
    let old_same : (m : ℕ) → m < n → at (same ++ more) m ≡ at same m = λ m l. at-left same more m (omega (arith, same_n, l)) in
    let old_ids : (m : ℕ) → m < n → at ids m ≡ at s.ids m = λ m l. at-left s.ids (v ∷ []) m (omega (arith, h.sized, l)) in
    let old_known : (m : ℕ) → m < n → at known m ≡ at s.ids m = λ m l. at-left s.ids (next ∷ []) m (omega (arith, h.sized, l)) in
    let new_same : at (same ++ more) n ≡ j = at-right same more n 0 n same_n (omega arith) in
    let new_id : at ids n ≡ v = at-right s.ids (v ∷ []) n 0 n h.sized (omega arith) in
    let get_n : slice_get (entries ++ e ∷ []) n ≡ Some e = get-right entries (e ∷ []) 0 n (omega arith) in
    let stable : (m : ℕ) → In m (kind_names k) → at known (at (same ++ more) m) ≡ at known m =
    λ m i.
    let l = names_below m i in
    let low = h.low m l in
    ap (λ (z : ℕ). at known z) (old_same m l) ∙ old_known (at same m) (omega (arith, low, l)) ∙ stands-alike entries same reps s h m l ∙ sym (old_known m l) in
    let b : Entry = slice_index_or entries j e in
    let get_j : slice_get entries j ≡ Some b = slice_get-get_or entries j e j_less in
    let at_v : type_at s.table v ≡ Some (record { id = v; kind = renamed_kind (at s.ids) b.kind; name = None }) =
    ap (λ (z : ℕ). type_at s.table z) (sym (h.back v v_less)) ∙ h.named j b get_j
    ∙ ap (λ (z : ℕ). let t : Option Item = Some (record { id = z; kind = renamed_kind (at s.ids) b.kind; name = None }) in t) (h.back v v_less) in
    let there : Some found.item ≡ Some (let t : Item = record { id = v; kind = renamed_kind (at s.ids) b.kind; name = None } in t) = sym found.live ∙ at_v in
    let is_item : found.item ≡ (let t : Item = record { id = v; kind = renamed_kind (at s.ids) b.kind; name = None } in t) = cc in
    let item_kind : found.item.kind ≡ renamed_kind (at s.ids) b.kind = ap (λ (t : Item). t.kind) is_item in
    let tests = and_parts (same_kind found.item.kind K) (not (names_itself v found.item.kind)) found.passes in
    let is_K : found.item.kind ≡ K = (same-kind-law found.item.kind K).0 tests.0 in
    let both : renamed_kind (at s.ids) b.kind ≡ K = sym item_kind ∙ is_K in
    let back_k : renamed_kind (at reps) K ≡ renamed_kind (at (same ++ more)) k =
    kinds-twice (at known) (at reps) k ∙ kinds-agree (λ m. at reps (at known m)) (at (same ++ more)) k (λ m i.
    let l = names_below m i in
    ap (λ (z : ℕ). at reps z) (old_known m l) ∙ h.forth m l ∙ sym (old_same m l)) in
    let back_b : renamed_kind (at reps) (renamed_kind (at s.ids) b.kind) ≡ renamed_kind (at (same ++ more)) b.kind =
    kinds-twice (at s.ids) (at reps) b.kind ∙ kinds-agree (λ m. at reps (at s.ids m)) (at (same ++ more)) b.kind (λ m i.
    let l = h.below j b m get_j i in
    h.forth m l ∙ sym (old_same m l)) in
    let apart_n : names_itself n k ≡ false =
    elim (cases_Bool (names_itself n k)) as (λ _. names_itself n k ≡ false) [
      | inl names ↦ let l = names_below n (any-in (kind_names k) n names) in absurd (omega (arith, l))
      | inr other ↦ other
    ] in
    let apart_j : names_itself j b.kind ≡ false =
    elim (cases_Bool (names_itself j b.kind)) as (λ _. names_itself j b.kind ≡ false) [
      | inl names ↦
          let i : In j (kind_names b.kind) = any-in (kind_names b.kind) j names in
          let i2 : In (at s.ids j) (kind_names (renamed_kind (at s.ids) b.kind)) =
          subst (λ (xs : List ℕ). In (at s.ids j) xs) (sym (kinds-names (at s.ids) b.kind)) (in-mapped (at s.ids) (kind_names b.kind) j i) in
          let i3 : In v (kind_names found.item.kind) =
          subst (λ (z : Kind). In v (kind_names z)) (sym item_kind) (subst (λ (z : ℕ). In z (kind_names (renamed_kind (at s.ids) b.kind))) (h.back v v_less) i2) in
          let yes = in-any (kind_names found.item.kind) v i3 in
          let no : false ≡ true = sym (ap not yes) ∙ tests.1 in
          absurd cc
      | inr other ↦ other
    ] in
    let equal : IsEqual (entries ++ e ∷ []) (same ++ more) n j = record {
      earlier = j_less;
      itself = old_same j j_less ∙ h.itself v v_less;
      a = e;
      b = b;
      at_i = get_n;
      at_j = get-left entries (e ∷ []) j j_less ∙ get_j;
      kinds = sym back_k ∙ ap (λ (z : Kind). renamed_kind (at reps) z) (sym both) ∙ back_b;
      apart_i = apart_n;
      apart_j = apart_j;
    } in
    let latest : (w : ℕ) → j < w → IsEqual (entries ++ e ∷ []) (same ++ more) n w → ⊥ =
    λ w later q.
    let w_less : w < n = q.earlier in
    let u : ℕ = at s.ids w in
    let u_less : u < next = h.live w w_less in
    let w_is : at reps u ≡ w = h.forth w w_less ∙ sym (old_same w w_less) ∙ q.itself in
    let above : v < u =
    elim (cases_lt v u) as (λ _. v < u) [
      | inl l ↦ l
      | inr past ↦ elim (cases_eq u v) as (λ _. v < u) [
        | inl is ↦ let z : at reps u ≡ j = ap (λ (y : ℕ). at reps y) is in absurd (omega (arith, z, w_is, later))
        | inr other ↦ let r = h.rising u v (omega (arith, past, other)) v_less in absurd (omega (arith, r, w_is, later))
      ]
    ] in
    let get_w : slice_get entries w ≡ Some q.b = sym (get-left entries (e ∷ []) w w_less) ∙ q.at_j in
    let live = h.named w q.b get_w in
    let x : Item = record { id = u; kind = renamed_kind (at s.ids) q.b.kind; name = None } in
    let yes = passes entries same reps more known s k h old_known stable w q x live in
    let no : true ≡ false = sym yes ∙ found.latest u x above live in
    absurd cc in
    let split : (i : ℕ) (f : Entry) → slice_get (entries ++ e ∷ []) i ≡ Some f → ((i < n) × (slice_get entries i ≡ Some f)) ⊎ ((i ≡ n) × (f ≡ e)) =
    λ i f get.
    elim (cases_lt i n) as (λ _. ((i < n) × (slice_get entries i ≡ Some f)) ⊎ ((i ≡ n) × (f ≡ e))) [
      | inl less ↦ inl (less, sym (get-left entries (e ∷ []) i less) ∙ get)
      | inr past ↦
          let w = slice_get_within (entries ++ e ∷ []) i f get in
          let is : i ≡ n = omega (arith, past, w, total) in
          let both : Some e ≡ Some f = sym get_n ∙ ap (λ (z : ℕ). slice_get (entries ++ e ∷ []) z) (sym is) ∙ get in
          let f_is : f ≡ e = cc in
          inr (is, f_is)
    ] in
    let agree : renamed_kind (at ids) k ≡ K = kinds-agree (at ids) (at known) k (λ m i. let l = names_below m i in old_ids m l ∙ sym (old_known m l)) in
    record {
      is_same = record {
        sized = omega (arith, length-append same more, total, same_n);
        grouped = λ i f get other.
            elim (split i f get) as (λ _. at (same ++ more) i ≡ i) [
              | inl old ↦ old_same i old.0 ∙ h.is_same.grouped i f old.1 other
              | inr new ↦ let no : true ≡ false = sym (ap (λ (z : Entry). z.single) new.1) ∙ other in absurd cc
            ];
        single = λ i f get one.
            elim (split i f get) as (λ _. StandsFor (entries ++ e ∷ []) (same ++ more) i (at (same ++ more) i)) [
              | inl old ↦ stands-kept entries (e ∷ []) same more same_n h.below i old.0 (h.is_same.single i f old.1 one)
              | inr new ↦
                  subst (λ (z : ℕ). StandsFor (entries ++ e ∷ []) (same ++ more) z (at (same ++ more) z)) (sym new.0)
                  (subst (λ (z : ℕ). StandsFor (entries ++ e ∷ []) (same ++ more) n z) (sym new_same) (inl (equal, latest)))
            ];
      };
      sized = omega (arith, length-append s.ids (v ∷ []), total, h.sized);
      given = h.given;
      live = λ i less.
          elim (cases_lt i n) as (λ _. at ids i < next) [
            | inl old ↦ let l = h.live i old in omega (arith, l, old_ids i old)
            | inr past ↦ let is : i ≡ n = omega (arith, past, less, total) in subst (λ (z : ℕ). at ids z < next) (sym is) (omega (arith, new_id, v_less))
          ];
      forth = λ i less.
          elim (cases_lt i n) as (λ _. at reps (at ids i) ≡ at (same ++ more) i) [
            | inl old ↦ ap (λ (z : ℕ). at reps z) (old_ids i old) ∙ h.forth i old ∙ sym (old_same i old)
            | inr past ↦
                let is : i ≡ n = omega (arith, past, less, total) in
                subst (λ (z : ℕ). at reps (at ids z) ≡ at (same ++ more) z) (sym is) (ap (λ (z : ℕ). at reps z) new_id ∙ sym new_same)
          ];
      back = λ u less. old_ids (at reps u) (h.within u less) ∙ h.back u less;
      within = λ u less. let w = h.within u less in omega (arith, w, total);
      itself = λ u less. old_same (at reps u) (h.within u less) ∙ h.itself u less;
      rising = h.rising;
      named = λ i f get.
          elim (split i f get) as (λ _. type_at s.table (at ids i) ≡ Some (record { id = at ids i; kind = renamed_kind (at ids) f.kind; name = None })) [
            | inl old ↦
                let same_kinds : renamed_kind (at s.ids) f.kind ≡ renamed_kind (at ids) f.kind =
                kinds-agree (at s.ids) (at ids) f.kind (λ m x. sym (old_ids m (h.below i f m old.1 x))) in
                ap (λ (z : ℕ). type_at s.table z) (old_ids i old.0) ∙ h.named i f old.1
                ∙ ap (λ (x : Kind). let t : Option Item = Some (record { id = at s.ids i; kind = x; name = None }) in t) same_kinds
                ∙ ap (λ (z : ℕ). let t : Option Item = Some (record { id = z; kind = renamed_kind (at ids) f.kind; name = None }) in t) (sym (old_ids i old.0))
            | inr new ↦
                let here : at ids i ≡ v = ap (λ (z : ℕ). at ids z) new.0 ∙ new_id in
                ap (λ (z : ℕ). type_at s.table z) here ∙ at_v
                ∙ ap (λ (x : Kind). let t : Option Item = Some (record { id = v; kind = x; name = None }) in t) (both ∙ sym agree)
                ∙ ap (λ (z : ℕ). let t : Option Item = Some (record { id = z; kind = renamed_kind (at ids) k; name = None }) in t) (sym here)
                ∙ ap (λ (z : Entry). let t : Option Item = Some (record { id = at ids i; kind = renamed_kind (at ids) z.kind; name = None }) in t) (sym new.1)
          ];
      below = λ i f m get x.
          elim (split i f get) as (λ _. m < length (entries ++ e ∷ [])) [
            | inl old ↦ let l = h.below i f m old.1 x in omega (arith, l, total)
            | inr new ↦ let l = names_below m (subst (λ (z : Entry). In m (kind_names z.kind)) new.1 x) in omega (arith, l, total)
          ];
      own = λ i f m get stands x is_same.
          elim (split i f get) as (λ _. m ≡ i) [
            | inl old ↦
                let l = h.below i f m old.1 x in
                h.own i f m old.1 (sym (old_same i old.0) ∙ stands) x (sym (old_same m l) ∙ is_same)
            | inr new ↦
                let z : at (same ++ more) n ≡ n = subst (λ (y : ℕ). at (same ++ more) y ≡ y) new.0 stands in
                absurd (omega (arith, z, new_same, j_less))
          ];
      low = λ i less.
          elim (cases_lt i n) as (λ _. at (same ++ more) i ≤ i) [
            | inl old ↦ let l = h.low i old in omega (arith, l, old_same i old)
            | inr past ↦
                let is : i ≡ n = omega (arith, past, less, total) in
                subst (λ (z : ℕ). at (same ++ more) z ≤ z) (sym is) (omega (arith, new_same, j_less))
          ];
    }

-- a type that is added beside others
record Grown (entries : List Entry) (s : Parsed) : Type 0 where
  same : List ℕ
  reps : List ℕ
  holds : Holds entries same reps s

-- one single type more
single-cases : (entries : List Entry) (same reps : List ℕ) (s : Parsed) (k : Kind) (names : Bool) (found : Option ℕ) → Holds entries same reps s
    → KindBelow (length entries + 1) k
    → names_itself (next_id s.table) (renamed_kind (at (s.ids ++ next_id s.table ∷ [])) k) ≡ names
    → MatchOption found
    ((id : ℕ) (item : Item) → type_at s.table id ≡ Some item → merges (renamed_kind (at (s.ids ++ next_id s.table ∷ [])) k) (id, item) ≡ false)
    (IsLatest (merges (renamed_kind (at (s.ids ++ next_id s.table ∷ [])) k)) s.table)
    → Grown (entries ++ record { single = true; kind = k } ∷ []) (merged (if names then None else found) (renamed_kind (at (s.ids ++ next_id s.table ∷ [])) k) s)
single-cases entries same reps s k true found h below is m =
    let e : Entry = record { single = true; kind = k } in
    let n : ℕ = length entries in
    let yes : names_itself n k ≡ true = itself-known s.ids n (next_id s.table) k h.sized h.live (λ x i. kinds-below k (n + 1) below x i) is in
    record {
      same = same ++ n ∷ [];
      reps = reps ++ n ∷ [];
      holds = append-step entries same reps s true (k ∷ []) false h
          (λ p d less. let zeroth : p ≡ 0 = omega (arith, less) in subst (λ (z : ℕ). KindBelow (n + 1) (slice_index_or (k ∷ []) z d)) (sym zeroth) below)
          (λ i j past one q.
          let w = slice_get_within (entries ++ e ∷ []) i q.a q.at_i in
          let i_is : i ≡ n = omega (arith, past, w, length-append entries (e ∷ [])) in
          let both : Some q.a ≡ Some e = sym q.at_i ∙ ap (λ (z : ℕ). slice_get (entries ++ e ∷ []) z) i_is ∙ get-right entries (e ∷ []) 0 n (omega arith) in
          let a_is : q.a ≡ e = cc in
          let no : true ≡ false = sym yes ∙ ap (λ (z : ℕ). names_itself z k) (sym i_is) ∙ ap (λ (z : Entry). names_itself i z.kind) (sym a_is) ∙ q.apart_i in
          absurd cc);
    }
single-cases entries same reps s k false None h below is none =
    let e : Entry = record { single = true; kind = k } in
    let n : ℕ = length entries in
    let known : List ℕ = s.ids ++ next_id s.table ∷ [] in
    let old_known : (m : ℕ) → m < n → at known m ≡ at s.ids m = λ m l. at-left s.ids (next_id s.table ∷ []) m (omega (arith, h.sized, l)) in
    let names_below = others-below s.ids n (next_id s.table) k h.sized (λ m i. kinds-below k (n + 1) below m i) is in
    let stable : (m : ℕ) → In m (kind_names k) → at known (at (same ++ n ∷ []) m) ≡ at known m =
    λ m i.
    let l : m < n = names_below m i in
    let low = h.low m l in
    ap (λ (z : ℕ). at known z) (at-left same (n ∷ []) m (omega (arith, h.is_same.sized, l)))
    ∙ old_known (at same m) (omega (arith, low, l)) ∙ stands-alike entries same reps s h m l ∙ sym (old_known m l) in
    record {
      same = same ++ n ∷ [];
      reps = reps ++ n ∷ [];
      holds = append-step entries same reps s true (k ∷ []) false h
          (λ p d less. let zeroth : p ≡ 0 = omega (arith, less) in subst (λ (z : ℕ). KindBelow (n + 1) (slice_index_or (k ∷ []) z d)) (sym zeroth) below)
          (λ i j past one q.
          let w = slice_get_within (entries ++ e ∷ []) i q.a q.at_i in
          let i_is : i ≡ n = omega (arith, past, w, length-append entries (e ∷ [])) in
          let p : IsEqual (entries ++ e ∷ []) (same ++ n ∷ []) n j = subst (λ (z : ℕ). IsEqual (entries ++ e ∷ []) (same ++ n ∷ []) z j) i_is q in
          let get_j : slice_get entries j ≡ Some p.b = sym (get-left entries (e ∷ []) j p.earlier) ∙ p.at_j in
          let live = h.named j p.b get_j in
          let x : Item = record { id = at s.ids j; kind = renamed_kind (at s.ids) p.b.kind; name = None } in
          let yes = passes entries same reps (n ∷ []) known s k h old_known stable j p x live in
          let no : true ≡ false = sym yes ∙ none (at s.ids j) x live in
          absurd cc);
    }
single-cases entries same reps s k false (Some v) h below is found = record {
  same = same ++ at reps v ∷ [];
  reps = reps;
  holds = merge-step entries same reps s k v h below is found;
}

-- one group more
others-step : (entries : List Entry) (same reps : List ℕ) (s : Parsed) (marked : Bool) (ks : List Kind) → Holds entries same reps s
    → All (KindBelow (length entries + length ks)) ks
    → Grown (entries ++ map (λ (kind : Kind). let x : Entry = record { single = false; kind = kind } in x) ks)
    (record {
      ids = s.ids ++ range_with_len (next_id s.table) (length (map (renamed_kind (at (s.ids ++ range_with_len (next_id s.table) (length ks)))) ks));
      table = with_group marked (map (renamed_kind (at (s.ids ++ range_with_len (next_id s.table) (length ks)))) ks) s.table;
    })
others-step entries same reps s marked ks h below =
    let known : List ℕ = s.ids ++ range_with_len (next_id s.table) (length ks) in
    let kinds : List Kind = map (renamed_kind (at known)) ks in
    let sized : length ks ≡ length kinds = sym (length-map ks (renamed_kind (at known))) in
    record {
      same = same ++ range_with_len (length entries) (length ks);
      reps = reps ++ range_with_len (length entries) (length ks);
      holds = subst (λ (c : ℕ). Holds (entries ++ map (λ (kind : Kind). let x : Entry = record { single = false; kind = kind } in x) ks)
          (same ++ range_with_len (length entries) (length ks)) (reps ++ range_with_len (length entries) (length ks))
          (record { ids = s.ids ++ range_with_len (next_id s.table) c; table = with_group marked kinds s.table })) sized
          (append-step entries same reps s false ks marked h below (λ i j past one q. absurd cc));
    }

group-step : (entries : List Entry) (same reps : List ℕ) (s : Parsed) (marked : Bool) (ks : List Kind) → Holds entries same reps s
    → All (KindBelow (length entries + length ks)) ks
    → (let g : TypeGroup = record { marked = marked; kinds = ks } in
    Grown (entries ++ map (λ (kind : Kind). let x : Entry = record { single = is_single g; kind = kind } in x) ks) (parsed_group g s))
group-step entries same reps s true ks h below = others-step entries same reps s true ks h below
group-step entries same reps s false [] h below = others-step entries same reps s true [] h below
group-step entries same reps s false (k ∷ []) h below =
    let K : Kind = renamed_kind (at (s.ids ++ next_id s.table ∷ [])) k in
    single-cases entries same reps s k (names_itself (next_id s.table) K) (latest_id (merges K) s.table) h (below 0 k (omega arith)) refl (latest-law s.table (merges K))
group-step entries same reps s false (k ∷ second ∷ rest) h below =
    let ks : List Kind = k ∷ second ∷ rest in
    let several : (length ks == 1) ≡ false =
    elim (cases_Bool (length ks == 1)) as (λ _. (length ks == 1) ≡ false) [
      | inl one ↦ let n = eqb-true (length ks) 1 one in absurd (omega (arith, n))
      | inr other ↦ other
    ] in
    subst (λ (b : Bool). Grown (entries ++ map (λ (kind : Kind). let x : Entry = record { single = b; kind = kind } in x) ks) (parsed_group (record { marked = false; kinds = ks }) s)) (sym several)
    (others-step entries same reps s true ks h below)

-- all groups
groups-step : (groups : List TypeGroup) (entries : List Entry) (same reps : List ℕ) (s : Parsed) → Holds entries same reps s
    → AreBelow (length entries) groups → Grown (entries ++ entries_of groups) (parsed groups s)
groups-step [] entries same reps s h below =
    subst (λ (es : List Entry). Grown es s) (sym (append-nil entries)) (record { same = same; reps = reps; holds = h })
groups-step (g ∷ gs) entries same reps s h below =
    let news : List Entry = map (λ (kind : Kind). let x : Entry = record { single = is_single g; kind = kind } in x) g.kinds in
    let one = group-step entries same reps s g.marked g.kinds h below.0 in
    let total : length entries + length g.kinds ≡ length (entries ++ news) =
    omega (arith, length-append entries news, length-map g.kinds (λ (kind : Kind). let x : Entry = record { single = is_single g; kind = kind } in x)) in
    subst (λ (es : List Entry). Grown es (parsed gs (parsed_group g s))) (append_assoc entries news (entries_of gs))
    (groups-step gs (entries ++ news) one.same one.reps (parsed_group g s) one.holds (subst (λ (n : ℕ). AreBelow n gs) total below.1))

pub parsing-law : ParsingCarriesSame
parsing-law groups below =
    let start : Holds [] [] [] (unparsed (record { types = []; groups = [] })) = record {
      is_same = record { sized = refl; grouped = λ i e get other. absurd cc; single = λ i e get one. absurd cc };
      sized = refl;
      given = refl;
      live = λ i less. absurd (omega (arith, less));
      forth = λ i less. absurd (omega (arith, less));
      back = λ v less. absurd (omega (arith, less));
      within = λ v less. absurd (omega (arith, less));
      itself = λ v less. absurd (omega (arith, less));
      rising = λ v w under less. absurd (omega (arith, less));
      named = λ i e get. absurd cc;
      below = λ i e m get x. absurd cc;
      own = λ i e m get itself x is. absurd cc;
      low = λ i less. absurd (omega (arith, less));
    } in
    let p : Parsed = parsed groups (unparsed (record { types = []; groups = [] })) in
    let all = groups-step groups [] [] [] (unparsed (record { types = []; groups = [] })) start below in
    let h = all.holds in
    record {
      same = all.same;
      is_same = h.is_same;
      sized = h.sized;
      one = λ i j under less. (
        λ is. sym (h.forth i under) ∙ ap (λ (v : ℕ). at all.reps v) is ∙ h.forth j less,
        λ is. sym (stands-alike (entries_of groups) all.same all.reps p h i under) ∙ ap (λ (k : ℕ). at p.ids k) is ∙ stands-alike (entries_of groups) all.same all.reps p h j less,
      );
      kinds = h.named;
    }
