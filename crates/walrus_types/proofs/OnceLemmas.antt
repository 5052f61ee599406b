-- Each type that is written stands in one group, once, so that it has one place.
use Rattle.std.proofs.Common.{◌≡◌, ◌≢◌, ◌∙◌, ℕ, zero, suc, ◌+◌, ◌<◌, ◌⊎◌, inl, inr, Bool, true, false, Contains, List, [], ◌∷◌, length, map, filter, take, Option, Some, None, is_some, IsSome, if◌then◌else◌, refl, sym, ap, subst, arith, length-append}
use Rattle.std.specs.Prelude.{slice_index_or, unwrap_or}
use Rattle.std.specs.List.{slice_get, flat_map, list_any, filter_map, cons_option}
use Rattle.std.proofs.lemmas.Bool.{false≢true, cases_Bool, cases_lt}
use Rattle.std.proofs.lemmas.List.{length-map}
use Rattle.std.proofs.lemmas.List.Kept.{AllPairs-filter}
use Rattle.std.proofs.lemmas.Option.{slice_get-get_or, same_Some, none-some}
use Rattle.walrus_type_arenas.specs.walrus_type_index.walrus_items.walrus_arena.Arena.{entries_from}
use Rattle.walrus_type_arenas.specs.walrus_type_index.walrus_items.walrus_forms.Kinds.{Kind}
use Rattle.walrus_type_arenas.specs.walrus_type_index.walrus_items.walrus_forms.Records.{TypeGroup}
use Rattle.walrus_type_arenas.specs.walrus_type_index.walrus_items.walrus_forms.Renaming.{renamed_kind}
use Rattle.walrus_type_arenas.specs.walrus_type_index.walrus_items.Items.{Group}
use Rattle.walrus_type_arenas.specs.Table.{Table, group_at}
use Rattle.walrus_type_arenas.specs.TypeLaws.{AreGrouped}
use Rattle.walrus_types.specs.Mergers.{Entry, is_single, entries_of}
use Rattle.walrus_type_arenas.specs.Emission.{written_kind, is_written, written_groups, key_of, no_group, AreInOrder, AreIndices, written_in, written_types, described_group}
use Rattle.walrus_types.specs.Inverse.{AreInverse}
use Rattle.walrus_type_arenas.proofs.DeleteLemmas.{contains-filter}
use Rattle.walrus_types.proofs.Places.{Has, Once, Turns, turns_of, has_contains, once_of, map_at, at_map, seat}

-- the groups in these slots that pass
abbrev shown : (Group → Bool) → ℕ → List (Option Group) → List Group
shown test first slots = filter test (map (λ (e : ℕ × Group). e.1) (entries_from first slots))

passed : (test : Group → Bool) (x : Group) (more : List Group) → test x ≡ true → filter test (x ∷ more) ≡ x ∷ filter test more
passed test x more passes = ap (λ (b : Bool). if b then x ∷ filter test more else filter test more) passes

failed : (test : Group → Bool) (x : Group) (more : List Group) → test x ≡ false → filter test (x ∷ more) ≡ filter test more
failed test x more fails = ap (λ (b : Bool). if b then x ∷ filter test more else filter test more) fails

at_cons : (x : Group) (xs : List Group) (p : ℕ) (y : Group) → slice_get (x ∷ xs) p ≡ Some y → ((p ≡ 0) × (x ≡ y)) ⊎ ((q : ℕ) × (p ≡ suc q) × (slice_get xs q ≡ Some y))
at_cons x xs zero y at = inl (refl, same_Some x y at)
at_cons x xs (suc q) y at = inr (q, refl, at)

-- a group that is shown stands at a place, and passes
shown_place : (test : Group → Bool) (first : ℕ) (slots : List (Option Group)) (p : ℕ) (g : Group) → slice_get (shown test first slots) p ≡ Some g
    → (i : ℕ) × (slice_index_or slots i None ≡ Some g) × (test g ≡ true)
shown_place test first [] p g at = absurd (none-some g at)
shown_place test first (None ∷ rest) p g at = let h = shown_place test (first + 1) rest p g at in (suc h.0, h.1, h.2)
shown_place test first (Some x ∷ rest) p g at =
    let more : List Group = map (λ (e : ℕ × Group). e.1) (entries_from (first + 1) rest) in
    elim (cases_Bool (test x)) as (λ _. (i : ℕ) × (slice_index_or (Some x ∷ rest) i None ≡ Some g) × (test g ≡ true)) [
      | inl passes ↦ elim (at_cons x (filter test more) p g (ap (λ (gs : List Group). slice_get gs p) (sym (passed test x more passes)) ∙ at)) as (λ _. (i : ℕ) × (slice_index_or (Some x ∷ rest) i None ≡ Some g) × (test g ≡ true)) [
        | inl e ↦ (0, ap Some e.1, ap test (sym e.1) ∙ passes)
        | inr q ↦ let h = shown_place test (first + 1) rest q.0 g q.2 in (suc h.0, h.1, h.2)
      ]
      | inr fails ↦ let h = shown_place test (first + 1) rest p g (ap (λ (gs : List Group). slice_get gs p) (sym (failed test x more fails)) ∙ at) in (suc h.0, h.1, h.2)
    ]

-- each group that passes is shown
shown_has : (test : Group → Bool) (first : ℕ) (slots : List (Option Group)) (i : ℕ) (g : Group) → slice_index_or slots i None ≡ Some g → test g ≡ true → Has (shown test first slots) g
shown_has test first [] i g at ok = absurd (none-some g at)
shown_has test first (None ∷ rest) zero g at ok = absurd (none-some g at)
shown_has test first (None ∷ rest) (suc i) g at ok = shown_has test (first + 1) rest i g at ok
shown_has test first (Some x ∷ rest) zero g at ok =
    let e : x ≡ g = same_Some x g at in
    let more : List Group = map (λ (e : ℕ × Group). e.1) (entries_from (first + 1) rest) in
    (0, ap (λ (gs : List Group). slice_get gs 0) (passed test x more (ap test e ∙ ok)) ∙ ap Some e)
shown_has test first (Some x ∷ rest) (suc i) g at ok =
    let h = shown_has test (first + 1) rest i g at ok in
    let more : List Group = map (λ (e : ℕ × Group). e.1) (entries_from (first + 1) rest) in
    elim (cases_Bool (test x)) as (λ _. Has (shown test first (Some x ∷ rest)) g) [
      | inl passes ↦ (suc h.0, ap (λ (gs : List Group). slice_get gs (suc h.0)) (passed test x more passes) ∙ h.1)
      | inr fails ↦ (h.0, ap (λ (gs : List Group). slice_get gs h.0) (failed test x more fails) ∙ h.1)
    ]

-- the places of two groups that are shown, of which the one is shown first
pub record TwoPlaces (slots : List (Option Group)) (g h : Group) : Type 0 where
  pub one : ℕ
  pub other : ℕ
  pub before : one < other
  pub at_one : slice_index_or slots one None ≡ Some g
  pub at_other : slice_index_or slots other None ≡ Some h

behind : (slot : Option Group) (slots : List (Option Group)) (g h : Group) → TwoPlaces slots g h → TwoPlaces (slot ∷ slots) g h
behind slot slots g h two = record { one = suc two.one; other = suc two.other; before = (let l = two.before in omega (arith, l)); at_one = two.at_one; at_other = two.at_other }

shown_rise : (test : Group → Bool) (first : ℕ) (slots : List (Option Group)) (p q : ℕ) (g h : Group) → p < q → slice_get (shown test first slots) p ≡ Some g
    → slice_get (shown test first slots) q ≡ Some h → TwoPlaces slots g h
shown_rise test first [] p q g h before at_p at_q = absurd (none-some g at_p)
shown_rise test first (None ∷ rest) p q g h before at_p at_q = behind None rest g h (shown_rise test (first + 1) rest p q g h before at_p at_q)
shown_rise test first (Some x ∷ rest) p q g h before at_p at_q =
    let more : List Group = map (λ (e : ℕ × Group). e.1) (entries_from (first + 1) rest) in
    elim (cases_Bool (test x)) as (λ _. TwoPlaces (Some x ∷ rest) g h) [
      | inl passes ↦
          let is_p : slice_get (x ∷ filter test more) p ≡ Some g = ap (λ (gs : List Group). slice_get gs p) (sym (passed test x more passes)) ∙ at_p in
          let is_q : slice_get (x ∷ filter test more) q ≡ Some h = ap (λ (gs : List Group). slice_get gs q) (sym (passed test x more passes)) ∙ at_q in
          elim (at_cons x (filter test more) q h is_q) as (λ _. TwoPlaces (Some x ∷ rest) g h) [
            | inl zero_q ↦ absurd (omega (arith, zero_q.0, before))
            | inr n ↦ elim (at_cons x (filter test more) p g is_p) as (λ _. TwoPlaces (Some x ∷ rest) g h) [
              | inl here ↦
                  let later = shown_place test (first + 1) rest n.0 h n.2 in
                  record { one = 0; other = suc later.0; before = omega arith; at_one = ap Some here.1; at_other = later.1 }
              | inr m ↦ behind (Some x) rest g h (shown_rise test (first + 1) rest m.0 n.0 g h (omega (arith, m.1, n.1, before)) m.2 n.2)
            ]
          ]
      | inr fails ↦
          behind (Some x) rest g h
          (shown_rise test (first + 1) rest p q g h before (ap (λ (gs : List Group). slice_get gs p) (sym (failed test x more fails)) ∙ at_p) (ap (λ (gs : List Group). slice_get gs q) (sym (failed test x more fails)) ∙ at_q))
    ]

-- these groups are those of t that are written, in some order
pub record Reordered (t : Table) (gs : List Group) (order : List ℕ) : Type 0 where
  pub turns : Turns (length (written_groups t)) order
  pub forth : (p i : ℕ) → slice_get order p ≡ Some i → (g : Group) × (slice_get gs p ≡ Some g) × (slice_get (written_groups t) i ≡ Some g)
  pub back : (p : ℕ) (g : Group) → slice_get gs p ≡ Some g → (i : ℕ) × (slice_get order p ≡ Some i) × (slice_get (written_groups t) i ≡ Some g)

pub reordered : (t : Table) (gs : List Group) (in_order : AreInOrder t gs) → Reordered t gs in_order.order
reordered t gs in_order =
    let wg : List Group = written_groups t in
    let order : List ℕ = in_order.order in
    let pick : ℕ → Group = λ i. slice_index_or wg i no_group in
    let keys : List (Option Kind) = map (key_of t) wg in
    let turns : Turns (length wg) order = subst (λ (n : ℕ). Turns n order) (length-map wg (key_of t)) (turns_of (length keys) order in_order.ordered.whole) in
    record {
      turns = turns;
      forth = λ p i at.
          (pick i, ap (λ (hs : List Group). slice_get hs p) in_order.places ∙ at_map pick order p i at, slice_get-get_or wg i no_group (turns.below p i at));
      back = λ p g at.
          let m = map_at pick order p g (ap (λ (hs : List Group). slice_get hs p) (sym in_order.places) ∙ at) in
          (m.0, m.1, slice_get-get_or wg m.0 no_group (turns.below p m.0 m.1) ∙ ap Some m.2);
    }

pub some_is : (o : Option ℕ) → IsSome o → o ≡ Some (unwrap_or o 0)
some_is None h = absurd (false≢true h)
some_is (Some x) h = refl

module _ (t : Table) where
  -- whether a group is written
  abbrev pub is_shown : Group → Bool
  is_shown group = list_any (is_written t) group.types

  -- a group that is written lives
  pub written_place : (p : ℕ) (g : Group) → slice_get (written_groups t) p ≡ Some g → (i : ℕ) × (group_at t i ≡ Some g) × (is_shown g ≡ true)
  written_place p g at = shown_place is_shown 0 t.groups p g at

  pub place_written : (i : ℕ) (g : Group) → group_at t i ≡ Some g → is_shown g ≡ true → Has (written_groups t) g
  place_written i g at ok = shown_has is_shown 0 t.groups i g at ok

  pub written_rise : (p q : ℕ) (g h : Group) → p < q → slice_get (written_groups t) p ≡ Some g → slice_get (written_groups t) q ≡ Some h → TwoPlaces t.groups g h
  written_rise p q g h before at_p at_q = shown_rise is_shown 0 t.groups p q g h before at_p at_q

  module _ (grouped : AreGrouped t) where
    -- two groups that are written have no type in common
    pub written_apart : (p q : ℕ) (g h : Group) (id : ℕ) → slice_get (written_groups t) p ≡ Some g → slice_get (written_groups t) q ≡ Some h → Contains g.types id → Contains h.types id → p ≡ q
    written_apart p q g h id at_p at_q in_g in_h = elim (cases_lt p q) as (λ _. p ≡ q) [
      | inl before ↦
          let two = written_rise p q g h before at_p at_q in
          absurd (let l = two.before in omega (arith, l, grouped.one id two.one two.other g h two.at_one in_g two.at_other in_h))
      | inr upto ↦ elim (cases_lt q p) as (λ _. p ≡ q) [
        | inl after ↦
            let two = written_rise q p h g after at_q at_p in
            absurd (let l = two.before in omega (arith, l, grouped.one id two.one two.other h g two.at_one in_h two.at_other in_g))
        | inr same ↦ omega (arith, upto, same)
      ]
    ]

    -- each type that is written stands once in what is written
    pub written_once : (gs : List Group) → AreInOrder t gs → Once (written_types t gs)
    written_once gs in_order = λ i j id at_i at_j.
        let re = reordered t gs in_order in
        let s = seat (written_in t) gs i id at_i in
        let z = seat (written_in t) gs j id at_j in
        let a = re.back s.piece s.from s.at_piece in
        let b = re.back z.piece z.from z.at_piece in
        let in_s = (contains-filter (is_written t) s.from.types id (has_contains (written_in t s.from) id (s.place, s.at_place))).0 in
        let in_z = (contains-filter (is_written t) z.from.types id (has_contains (written_in t z.from) id (z.place, z.at_place))).0 in
        let turn : a.0 ≡ b.0 = written_apart a.0 b.0 s.from z.from id a.2 b.2 in_s in_z in
        let piece : s.piece ≡ z.piece = re.turns.one s.piece z.piece a.0 a.1 (b.1 ∙ ap Some (sym turn)) in
        let from : z.from ≡ s.from = same_Some z.from s.from (sym z.at_piece ∙ ap (λ (p : ℕ). slice_get gs p) (sym piece) ∙ s.at_piece) in
        let live = written_place a.0 s.from a.2 in
        let once = once_of (written_in t s.from) (AllPairs-filter (λ x y. x ≢ y) (is_written t) s.from.types (grouped.once live.0 s.from live.1)) in
        let place : s.place ≡ z.place = once s.place z.place id s.at_place (ap (λ (g : Group). slice_get (written_in t g) z.place) (sym from) ∙ z.at_place) in
        omega (arith, s.is, z.is, place, ap (λ (p : ℕ). length (flat_map (written_in t) (take p gs))) piece)

    -- so the ids in order and the indices are inverse
    pub inverse-law : (gs : List Group) (count : ℕ) (indices : List (Option ℕ)) → AreInOrder t gs → AreIndices count (written_types t gs) indices → AreInverse (written_types t gs) indices
    inverse-law gs count indices in_order are = λ index id. (
      λ at.
          let is = some_is (slice_index_or indices id None) (are.each id (has_contains (written_types t gs) id (index, at))) in
          let place = are.place id (unwrap_or (slice_index_or indices id None) 0) is in
          is ∙ ap Some (written_once gs in_order (unwrap_or (slice_index_or indices id None) 0) index id place at),
      λ is. are.place id index is,
    )

-- as many types are described as are written
counted_more : (o : Option Kind) (kinds : List Kind) (rest : List ℕ) (id : ℕ) → length kinds ≡ length rest → length (cons_option o kinds) ≡ length (if is_some o then id ∷ rest else rest)
counted_more None kinds rest id e = e
counted_more (Some k) kinds rest id e = ap (λ (n : ℕ). suc n) e

kinds_counted : (t : Table) (ids : List ℕ) → length (filter_map (written_kind t) ids) ≡ length (filter (is_written t) ids)
kinds_counted t [] = refl
kinds_counted t (id ∷ ids) = counted_more (written_kind t id) (filter_map (written_kind t) ids) (filter (is_written t) ids) id (kinds_counted t ids)

pub counted-law : (t : Table) (r : ℕ → ℕ) (gs : List Group) → length (written_types t gs) ≡ length (entries_of (map (described_group t r) gs))
counted-law t r [] = refl
counted-law t r (g ∷ gs) =
    let d : TypeGroup = described_group t r g in
    let make : Kind → Entry = λ kind. record { single = is_single d; kind = kind } in
    omega (
      arith,
      length-append (written_in t g) (written_types t gs),
      length-append (map make d.kinds) (entries_of (map (described_group t r) gs)),
      length-map d.kinds make,
      length-map (filter_map (written_kind t) g.types) (renamed_kind r),
      kinds_counted t g.types,
      counted-law t r gs,
    )
