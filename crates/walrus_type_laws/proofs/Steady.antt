-- Tables that are emitted so that they are read back: the groups that are written have just the types that
-- are written, by rising ids, no single type equals an earlier one, and groups without a mark have one member.
use Rattle.std.proofs.Common.{◌≡◌, ◌∙◌, ℕ, ◌+◌, ◌<◌, inl, inr, Bool, true, false, not, ◌||◌, Contains, List, [], ◌∷◌, length, Option, Some, None, is_some, if◌then◌else◌, refl, sym, ap, arith}
use Rattle.std.specs.List.{slice_get, list_any}
use Rattle.std.specs.Option.{option_and_then}
use Rattle.std.proofs.lemmas.Bool.{false≢true, cases_Bool, and_from}
use Rattle.std.proofs.lemmas.List.Folds.{list_any_at}
use Rattle.std.proofs.lemmas.Option.{slice_get_within, same_Some}
use Rattle.walrus_forms.specs.Kinds.{Kind}
use Rattle.walrus_forms.specs.Records.{TypeGroup}
use Rattle.walrus_forms.specs.Same.{same_kind}
use Rattle.walrus_forms.proofs.EqLemmas.{same-kind-law}
use Rattle.walrus_types.specs.Items.{Item, Group}
use Rattle.walrus_types.specs.Table.{Table, type_at, names_itself, merges}
use Rattle.walrus_types.specs.TypeLaws.{AreGrouped}
use Rattle.walrus_types.specs.Merged.{IsMerged, UnmarkedAreSingle}
use Rattle.walrus_types.specs.Parsing.{Parsed}
use Rattle.walrus_types.specs.Emission.{shown_kind, written_kind, is_written, written_groups}
use Rattle.walrus_types.proofs.OnceLemmas.{is_shown, written_place, place_written, written_rise, written_apart}
use Rattle.walrus_types.proofs.Places.{Once, has_contains, contains_has, once_of, once_to, seat, unseat, start, starts_rise, at_range}
use Rattle.walrus_type_laws.specs.Alike.{members, AreHomed}
use Rattle.walrus_type_laws.proofs.Dense.{dense_kind, dense_groups, dense_members, dense_homed}
use Rattle.walrus_type_laws.proofs.Shape.{Shape}
use Rattle.walrus_type_laws.proofs.Written.{types_of, written_item}

pub record Steady (t : Table) : Type 0 where
  pub homed : AreHomed t
  pub filled : (p : ℕ) (g : Group) → slice_get (written_groups t) p ≡ Some g → 0 < length g.types
  pub rising : (p q j k a b : ℕ) (g h : Group) → p < q → slice_get (written_groups t) p ≡ Some g → slice_get (written_groups t) q ≡ Some h
      → slice_get g.types j ≡ Some a → slice_get h.types k ≡ Some b → a < b
  pub twins : (p a b : ℕ) (k : Kind) → slice_get (written_groups t) p ≡ Some (record { explicit = false; types = b ∷ [] }) → a < b
      → written_kind t a ≡ Some k → written_kind t b ≡ Some k → names_itself a k ≡ false → names_itself b k ≡ false → ⊥
  pub single : (p : ℕ) (g : Group) → slice_get (written_groups t) p ≡ Some g → g.explicit ≡ false → length g.types ≡ 1

-- the table after a section was read into a new one
pub shape_steady : (groups : List TypeGroup) (s : Parsed) → Shape groups s → Steady s.table
shape_steady groups s shape =
    let t : Table = s.table in
    let wg : List Group = written_groups t in
    let member : (p k : ℕ) (g : Group) (id : ℕ) → slice_get wg p ≡ Some g → slice_get g.types k ≡ Some id → id ≡ start types_of wg p + k =
    λ p k g id at_p at_k.
    let there = ap (λ (xs : List ℕ). slice_get xs (start types_of wg p + k)) (sym (dense_members shape.kinds shape.gs t shape.dense)) ∙ unseat types_of wg p k g id at_p at_k in
    let e = at_range 0 (length shape.kinds) (start types_of wg p + k) id there in
    omega (arith, e.1) in
    let stands : (p : ℕ) (g : Group) → slice_get wg p ≡ Some g → slice_get shape.gs p ≡ Some g =
    λ p g at. ap (λ (gs : List Group). slice_get gs p) (sym (dense_groups shape.kinds shape.gs t shape.dense)) ∙ at in
    record {
      homed = dense_homed shape.kinds shape.gs t shape.dense;
      filled = λ p g at. (shape.dense).filled p g (stands p g at);
      rising = λ p q j k a b g h before at_p at_q at_j at_k.
          omega (arith, member p j g a at_p at_j, member q k h b at_q at_k, starts_rise types_of wg p q g before at_p, slice_get_within g.types j a at_j);
      twins = λ p a b k at less is_a is_b apart_a apart_b.
          shape.twins p a b k (stands p (record { explicit = false; types = b ∷ [] }) at) less
          (dense_kind shape.kinds shape.gs t shape.dense a k is_a) (dense_kind shape.kinds shape.gs t shape.dense b k is_b) apart_a apart_b;
      single = λ p g at. shape.single p g (stands p g at);
    }

written_live : (o : Option Item) → is_some (option_and_then (λ item. shown_kind item.kind) o) ≡ true → (item : Item) × (o ≡ Some item)
written_live None written = absurd (false≢true written)
written_live (Some item) written = (item, refl)

-- a type that lives and is no entry type is written
live_written : (t : Table) (id : ℕ) (item : Item) → type_at t id ≡ Some item → item.kind.entry ≡ false → is_written t id ≡ true
live_written t id item live plain =
    ap (λ (o : Option Item). is_some (option_and_then (λ x. shown_kind x.kind) o)) live
    ∙ ap (λ (b : Bool). is_some (if b then None else Some item.kind)) plain

entry_hidden : (t : Table) (id : ℕ) (item : Item) → type_at t id ≡ Some item → item.kind.entry ≡ true → is_written t id ≡ false
entry_hidden t id item live entry =
    ap (λ (o : Option Item). is_some (option_and_then (λ x. shown_kind x.kind) o)) live
    ∙ ap (λ (b : Bool). is_some (if b then None else Some item.kind)) entry

filled_any : (test : ℕ → Bool) (ids : List ℕ) → list_any test ids ≡ true → 0 < length ids
filled_any test [] any = absurd (false≢true any)
filled_any test (id ∷ ids) any = omega arith

-- a group with a type that is written is shown
pub shown_by : (t : Table) (g : Group) (id : ℕ) → Contains g.types id → is_written t id ≡ true → is_shown t g ≡ true
shown_by t g id c written = list_any_at (is_written t) g.types c.0 id c.1 (ap (λ (n : ℕ). is_written t n) c.2 ∙ written)

module _ (t : Table) (grouped : AreGrouped t) where
  -- a type that is written stands in a group that is
  pub written_home : (id : ℕ) → is_written t id ≡ true → (p : ℕ) × (g : Group) × (slice_get (written_groups t) p ≡ Some g) × (Contains g.types id)
  written_home id written =
      let live = written_live (type_at t id) written in
      let home = grouped.listed id live.0 live.1 in
      let m = home.1 in
      let has = place_written t m.place home.0 m.live (shown_by t home.0 id m.listed written) in
      (has.0, home.0, has.1, m.listed)

  module _ (merged : IsMerged t) where
    -- members of groups that are written are written
    member_written : (p : ℕ) (g : Group) (id : ℕ) → slice_get (written_groups t) p ≡ Some g → Contains g.types id → is_written t id ≡ true
    member_written p g id at c =
        let place = written_place t p g at in
        let live = grouped.live place.0 g place.1 id c in
        let item : Item = live.0 in
        elim (cases_Bool item.kind.entry) as (λ _. is_written t id ≡ true) [
          | inl entry ↦
              let alone : g.types ≡ id ∷ [] = merged.entries place.0 g place.1 id item c live.1 entry in
              let hidden : list_any (is_written t) (id ∷ []) ≡ false = ap (λ (b : Bool). b || false) (entry_hidden t id item live.1 entry) in
              absurd (false≢true (sym hidden ∙ ap (λ (ids : List ℕ). list_any (is_written t) ids) (sym alone) ∙ place.2))
          | inr plain ↦ live_written t id item live.1 plain
        ]

    members_once : Once (members t)
    members_once = λ i j id at_i at_j.
        let wg : List Group = written_groups t in
        let s = seat types_of wg i id at_i in
        let z = seat types_of wg j id at_j in
        let in_s = has_contains s.from.types id (s.place, s.at_place) in
        let in_z = has_contains z.from.types id (z.place, z.at_place) in
        let piece : s.piece ≡ z.piece = written_apart t grouped s.piece z.piece s.from z.from id s.at_piece z.at_piece in_s in_z in
        let from : z.from ≡ s.from = same_Some z.from s.from (sym z.at_piece ∙ ap (λ (p : ℕ). slice_get wg p) (sym piece) ∙ s.at_piece) in
        let live = written_place t s.piece s.from s.at_piece in
        let place : s.place ≡ z.place = once_of s.from.types (grouped.once live.0 s.from live.1) s.place z.place id s.at_place (ap (λ (g : Group). slice_get g.types z.place) (sym from) ∙ z.at_place) in
        omega (arith, s.is, z.is, place, ap (λ (p : ℕ). start types_of wg p) piece)

    pub edited_homed : AreHomed t
    edited_homed = record {
      homed = λ id. (
        λ c.
            let h = contains_has (members t) id c in
            let s = seat types_of (written_groups t) h.0 id h.1 in
            member_written s.piece s.from id s.at_piece (has_contains s.from.types id (s.place, s.at_place)),
        λ written.
            let home = written_home id written in
            let k = contains_has (home.1).types id home.3 in
            has_contains (members t) id (start types_of (written_groups t) home.0 + k.0, unseat types_of (written_groups t) home.0 k.0 home.1 id home.2 k.1),
      );
      once = once_to (members t) members_once;
    }

    -- the table that is edited
    pub edited_steady : UnmarkedAreSingle t → Steady t
    edited_steady single = record {
      homed = edited_homed;
      filled = λ p g at. filled_any (is_written t) g.types (written_place t p g at).2;
      rising = λ p q j k a b g h before at_p at_q at_j at_k.
          let two = written_rise t p q g h before at_p at_q in
          grouped.rising two.one two.other g h two.before two.at_one two.at_other a b (has_contains g.types a (j, at_j)) (has_contains h.types b (k, at_k));
      twins = λ p a b k at less is_a is_b apart_a apart_b.
          let x = written_item t a k is_a in
          let y = written_item t b k is_b in
          let place = written_place t p (record { explicit = false; types = b ∷ [] }) at in
          let same : (x.0).kind ≡ (y.0).kind = x.2 ∙ sym y.2 in
          let fails = merged.apart place.0 a b x.0 y.0 place.1 y.1 (ap (λ (i : Kind). names_itself b i) y.2 ∙ apart_b) less x.1 in
          let passes : merges (y.0).kind (a, x.0) ≡ true =
          and_from (same_kind (x.0).kind (y.0).kind) (not (names_itself a (x.0).kind)) ((same-kind-law (x.0).kind (y.0).kind).1 same) (ap not (ap (λ (i : Kind). names_itself a i) x.2 ∙ apart_a)) in
          false≢true (sym fails ∙ passes);
      single = λ p g at. let place = written_place t p g at in single place.0 g place.1;
    }
