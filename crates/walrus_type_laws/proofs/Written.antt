-- What is written of a table whose groups have just the types that are written, each once.
use Rattle.std.proofs.Common.{◌≡◌, ◌∙◌, ℕ, zero, suc, ◌+◌, Bool, true, false, List, [], ◌∷◌, ◌++◌, length, map, filter, take, if◌then◌else◌, Option, Some, None, is_some, refl, sym, ap, arith, length-append}
use Rattle.std.specs.Prelude.{slice_index_or}
use Rattle.std.specs.List.{slice_get, flat_map, filter_map, cons_option}
use Rattle.std.proofs.lemmas.Bool.{false≢true}
use Rattle.std.proofs.lemmas.List.{length-map}
use Rattle.std.proofs.lemmas.Option.{slice_get_within, same_Some, none-some}
use Rattle.walrus_forms.specs.Kinds.{Kind}
use Rattle.walrus_forms.specs.Records.{TypeGroup}
use Rattle.walrus_forms.specs.Renaming.{renamed_kind}
use Rattle.std.specs.Option.{option_and_then}
use Rattle.walrus_types.specs.Items.{Item, Group}
use Rattle.walrus_types.specs.Table.{Table, type_at}
use Rattle.walrus_types.specs.Mergers.{Entry, is_single, entries_of}
use Rattle.walrus_types.specs.Emission.{shown_kind, written_kind, is_written, written_groups, index_at, AreArranged, written_types, described_group}
use Rattle.walrus_type_laws.specs.Alike.{members, AreHomed}
use Rattle.walrus_types.proofs.OnceLemmas.{Reordered, reordered, some_is}
use Rattle.walrus_types.proofs.Places.{Has, Once, has_contains, contains_has, once_of, at_map, Seat, seat, unseat, seats_one, start, left_at, right_at}

abbrev pub types_of : Group → List ℕ
types_of g = g.types

-- all members of these groups are written
abbrev pub AllWritten : Table → List Group → Type 0
AllWritten t gs = (p k : ℕ) (g : Group) (id : ℕ) → slice_get gs p ≡ Some g → slice_get g.types k ≡ Some id → is_written t id ≡ true

pub filter_all : {X : Type 0} (p : X → Bool) (xs : List X) → ((k : ℕ) (x : X) → slice_get xs k ≡ Some x → p x ≡ true) → filter p xs ≡ xs
filter_all p [] all = refl
filter_all {X} p (x ∷ xs) all =
    ap (λ (b : Bool). if b then x ∷ filter p xs else filter p xs) (all 0 x refl) ∙ ap (λ (ys : List X). x ∷ ys) (filter_all p xs (λ k y at. all (suc k) y at))

pub written_all : (t : Table) (gs : List Group) → AllWritten t gs → written_types t gs ≡ flat_map types_of gs
written_all t [] all = refl
written_all t (g ∷ gs) all =
    ap (λ (ids : List ℕ). ids ++ written_types t gs) (filter_all (is_written t) g.types (λ k id at. all 0 k g id refl at))
    ∙ ap (λ (ids : List ℕ). g.types ++ ids) (written_all t gs (λ p k h id at_p at_k. all (suc p) k h id at_p at_k))

-- the written groups have written members
pub home_written : (t : Table) → AreHomed t → AllWritten t (written_groups t)
home_written t homed p k g id at_p at_k =
    (homed.homed id).0 (has_contains (members t) id (start types_of (written_groups t) p + k, unseat types_of (written_groups t) p k g id at_p at_k))

pub order_written : (t : Table) (gs : List Group) (order : List ℕ) → AreHomed t → Reordered t gs order → AllWritten t gs
order_written t gs order homed re p k g id at_p at_k = let b = re.back p g at_p in home_written t homed b.0 k g id b.2 at_k

-- each type that is written has its place
pub order_has : (t : Table) (gs : List Group) (order : List ℕ) → AreHomed t → Reordered t gs order → (id : ℕ) → is_written t id ≡ true → Has (flat_map types_of gs) id
order_has t gs order homed re id written =
    let h = contains_has (members t) id ((homed.homed id).1 written) in
    let s = seat types_of (written_groups t) h.0 id h.1 in
    let p = re.turns.onto s.piece (slice_get_within (written_groups t) s.piece s.from s.at_piece) in
    let f = re.forth p.0 s.piece p.1 in
    let e : f.0 ≡ s.from = same_Some f.0 s.from (sym f.2 ∙ s.at_piece) in
    (start types_of gs p.0 + s.place, unseat types_of gs p.0 s.place s.from id (f.1 ∙ ap Some e) s.at_place)

pub order_once : (t : Table) (gs : List Group) (order : List ℕ) → AreHomed t → Reordered t gs order → Once (flat_map types_of gs)
order_once t gs order homed re = λ i j id at_i at_j.
    let s = seat types_of gs i id at_i in
    let z = seat types_of gs j id at_j in
    let a = re.back s.piece s.from s.at_piece in
    let b = re.back z.piece z.from z.at_piece in
    let wg : List Group = written_groups t in
    let x = unseat types_of wg a.0 s.place s.from id a.2 s.at_place in
    let y = unseat types_of wg b.0 z.place z.from id b.2 z.at_place in
    let n : start types_of wg a.0 + s.place ≡ start types_of wg b.0 + z.place = once_of (members t) homed.once (start types_of wg a.0 + s.place) (start types_of wg b.0 + z.place) id x y in
    let sx : Seat types_of wg (start types_of wg a.0 + s.place) id = record { piece = a.0; place = s.place; from = s.from; at_piece = a.2; at_place = s.at_place; is = refl } in
    let sy : Seat types_of wg (start types_of wg a.0 + s.place) id = record { piece = b.0; place = z.place; from = z.from; at_piece = b.2; at_place = z.at_place; is = n } in
    let q = seats_one types_of wg (start types_of wg a.0 + s.place) id id sx sy in
    let same : s.piece ≡ z.piece = re.turns.one s.piece z.piece a.0 a.1 (b.1 ∙ ap Some (sym q.0)) in
    s.is ∙ ap (λ (p : ℕ). start types_of gs p + s.place) same ∙ ap (λ (k : ℕ). start types_of gs z.piece + k) q.1 ∙ sym z.is

-- each type that is written stands at its index
pub record Indexed (t : Table) (gs : List Group) (r : ℕ → ℕ) : Type 0 where
  pub all : AllWritten t gs
  pub once : Once (flat_map types_of gs)
  pub there : (id : ℕ) → is_written t id ≡ true → slice_get (flat_map types_of gs) (r id) ≡ Some id
  pub back : (j id : ℕ) → slice_get (flat_map types_of gs) j ≡ Some id → r id ≡ j

pub indexed : (t : Table) (gs : List Group) (indices : List (Option ℕ)) → AreHomed t → AreArranged t gs indices → Indexed t gs (index_at indices)
indexed t gs indices homed arranged =
    let order : List ℕ = arranged.in_order.order in
    let re = reordered t gs arranged.in_order in
    let all = order_written t gs order homed re in
    let once = order_once t gs order homed re in
    let ids : List ℕ = flat_map types_of gs in
    let is : written_types t gs ≡ ids = written_all t gs all in
    let there : (id : ℕ) → is_written t id ≡ true → slice_get ids (index_at indices id) ≡ Some id =
    λ id written.
    let has = order_has t gs order homed re id written in
    let some = some_is (slice_index_or indices id None) (arranged.indexed.each id (has_contains (written_types t gs) id (has.0, ap (λ (xs : List ℕ). slice_get xs has.0) is ∙ has.1))) in
    ap (λ (xs : List ℕ). slice_get xs (index_at indices id)) (sym is) ∙ arranged.indexed.place id (index_at indices id) some in
    record {
      all = all;
      once = once;
      there = there;
      back = λ j id at.
          let s = seat types_of gs j id at in
          once (index_at indices id) j id (there id (all s.piece s.place s.from id s.at_piece s.at_place)) at;
    }

-- kinds of written types
pub kind_of : (t : Table) (id : ℕ) → is_written t id ≡ true → (k : Kind) × (written_kind t id ≡ Some k)
kind_of t id written = elim (written_kind t id) as (λ o. is_some o ≡ true → (k : Kind) × (o ≡ Some k)) [
  | None ↦ λ h. absurd (false≢true h)
  | Some k ↦ λ h. (k, refl)
] written

kinds_length : (h : ℕ → Option Kind) (ids : List ℕ) → ((k id : ℕ) → slice_get ids k ≡ Some id → (x : Kind) × (h id ≡ Some x)) → length (filter_map h ids) ≡ length ids
kinds_length h [] all = refl
kinds_length h (id ∷ ids) all =
    let first = all 0 id refl in
    let rest : length (filter_map h ids) ≡ length ids = kinds_length h ids (λ k x at. all (suc k) x at) in
    ap (λ (o : Option Kind). length (cons_option o (filter_map h ids))) first.1 ∙ ap (λ (n : ℕ). suc n) rest

kinds_at : (h : ℕ → Option Kind) (ids : List ℕ) → ((k id : ℕ) → slice_get ids k ≡ Some id → (x : Kind) × (h id ≡ Some x))
    → (k id : ℕ) (x : Kind) → slice_get ids k ≡ Some id → h id ≡ Some x → slice_get (filter_map h ids) k ≡ Some x
kinds_at h [] all k id x at is = absurd (none-some id at)
kinds_at h (i ∷ ids) all zero id x at is =
    let e : i ≡ id = same_Some i id at in
    ap (λ (o : Option Kind). slice_get (cons_option o (filter_map h ids)) 0) (ap h e ∙ is)
kinds_at h (i ∷ ids) all (suc k) id x at is =
    let first = all 0 i refl in
    ap (λ (o : Option Kind). slice_get (cons_option o (filter_map h ids)) (suc k)) first.1 ∙ kinds_at h ids (λ j y at_j. all (suc j) y at_j) k id x at is

-- the kinds of a group whose members are written
pub group_kinds : (t : Table) (g : Group) → ((k id : ℕ) → slice_get g.types k ≡ Some id → is_written t id ≡ true) → length (filter_map (written_kind t) g.types) ≡ length g.types
group_kinds t g all = kinds_length (written_kind t) g.types (λ k id at. kind_of t id (all k id at))

pub group_kind_at : (t : Table) (g : Group) → ((k id : ℕ) → slice_get g.types k ≡ Some id → is_written t id ≡ true)
    → (k id : ℕ) (x : Kind) → slice_get g.types k ≡ Some id → written_kind t id ≡ Some x → slice_get (filter_map (written_kind t) g.types) k ≡ Some x
group_kind_at t g all = kinds_at (written_kind t) g.types (λ k id at. kind_of t id (all k id at))

abbrev pub make_entry : Bool → Kind → Entry
make_entry b kind = record { single = b; kind = kind }

-- as many entries as members
pub described_length : (t : Table) (r : ℕ → ℕ) (gs : List Group) → AllWritten t gs → length (entries_of (map (described_group t r) gs)) ≡ length (flat_map types_of gs)
described_length t r [] all = refl
described_length t r (g ∷ gs) all =
    let d : TypeGroup = described_group t r g in
    let b : Bool = is_single d in
    omega (
      arith,
      length-append (map (λ (kind : Kind). let x : Entry = record { single = b; kind = kind } in x) d.kinds) (entries_of (map (described_group t r) gs)),
      length-append g.types (flat_map types_of gs),
      length-map d.kinds (λ (kind : Kind). let x : Entry = record { single = b; kind = kind } in x),
      length-map (filter_map (written_kind t) g.types) (renamed_kind r),
      group_kinds t g (λ k id at. all 0 k g id refl at),
      described_length t r gs (λ p k h id at_p at_k. all (suc p) k h id at_p at_k),
    )

-- what is emitted at a type's place
pub described_at : (t : Table) (r : ℕ → ℕ) (gs : List Group) → AllWritten t gs → (p k : ℕ) (g : Group) (id : ℕ) (x : Kind) → slice_get gs p ≡ Some g → slice_get g.types k ≡ Some id
    → written_kind t id ≡ Some x → slice_get (entries_of (map (described_group t r) gs)) (start types_of gs p + k) ≡ Some (make_entry (is_single (described_group t r g)) (renamed_kind r x))
described_at t r [] all p k g id x at_p at_k is = absurd (none-some g at_p)
described_at t r (h ∷ gs) all zero k g id x at_p at_k is =
    let e : h ≡ g = same_Some h g at_p in
    let d : TypeGroup = described_group t r h in
    let b : Bool = is_single d in
    let at_h : slice_get h.types k ≡ Some id = ap (λ (w : Group). slice_get w.types k) e ∙ at_k in
    let kind = at_map (renamed_kind r) (filter_map (written_kind t) h.types) k x (group_kind_at t h (λ j i at. all 0 j h i refl at) k id x at_h is) in
    let here = left_at (map (λ (kind : Kind). let x : Entry = record { single = b; kind = kind } in x) d.kinds) (entries_of (map (described_group t r) gs)) k (make_entry b (renamed_kind r x))
    (at_map (λ (kind : Kind). let x : Entry = record { single = b; kind = kind } in x) d.kinds k (renamed_kind r x) kind) in
    let n : 0 + k ≡ k = omega arith in
    ap (λ (i : ℕ). slice_get (entries_of (map (described_group t r) (h ∷ gs))) i) n ∙ here ∙ ap (λ (w : Group). let o : Option Entry = Some (make_entry (is_single (described_group t r w)) (renamed_kind r x)) in o) e
described_at t r (h ∷ gs) all (suc p) k g id x at_p at_k is =
    let d : TypeGroup = described_group t r h in
    let b : Bool = is_single d in
    let news : List Entry = map (λ (kind : Kind). let x : Entry = record { single = b; kind = kind } in x) d.kinds in
    let sized : length news ≡ length h.types =
    length-map d.kinds (λ (kind : Kind). let x : Entry = record { single = b; kind = kind } in x) ∙ length-map (filter_map (written_kind t) h.types) (renamed_kind r) ∙ group_kinds t h (λ j i at. all 0 j h i refl at) in
    right_at news (entries_of (map (described_group t r) gs)) (start types_of gs p + k) (start types_of (h ∷ gs) (suc p) + k) (make_entry (is_single (described_group t r g)) (renamed_kind r x))
    (omega (arith, sized, length-append h.types (flat_map types_of (take p gs))))
    (described_at t r gs (λ q j w i at_q at_j. all (suc q) j w i at_q at_j) p k g id x at_p at_k is)

shown_same : (entry : Bool) (kind k : Kind) → (if entry then None else Some kind) ≡ Some k → kind ≡ k
shown_same true kind k is = absurd (none-some k is)
shown_same false kind k is = same_Some kind k is

-- what is written is no entry type
shown_plain : (entry : Bool) (kind k : Kind) → (if entry then None else Some kind) ≡ Some k → kind ≡ k → entry ≡ kind.entry → k.entry ≡ false
shown_plain true kind k is same own = absurd (none-some k is)
shown_plain false kind k is same own = ap (λ (x : Kind). x.entry) (sym same) ∙ sym own

plain_item : (o : Option Item) (k : Kind) → option_and_then (λ item. shown_kind item.kind) o ≡ Some k → (item : Item) × (o ≡ Some item) × (item.kind ≡ k) × (k.entry ≡ false)
plain_item None k is = absurd (none-some k is)
plain_item (Some item) k is = let same = shown_same item.kind.entry item.kind k is in (item, refl, same, shown_plain item.kind.entry item.kind k is same refl)

-- the item of a type that is written
pub written_item : (t : Table) (id : ℕ) (k : Kind) → written_kind t id ≡ Some k → (item : Item) × (type_at t id ≡ Some item) × (item.kind ≡ k) × (k.entry ≡ false)
written_item t id k is = plain_item (type_at t id) k is
