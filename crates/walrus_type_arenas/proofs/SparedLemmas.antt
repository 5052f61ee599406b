-- Which types a deletion leaves, by their homes and by the groups that they are members of.
use Rattle.std.proofs.Common.{◌≡◌, ◌∙◌, ℕ, Bool, true, false, not, ◌&&◌, List, Contains, Option, Some, None, refl, sym, ap, inl, inr, slice_index}
use Rattle.std.specs.Prelude.{◌↔◌}
use Rattle.std.specs.Option.{option_map_or}
use Rattle.std.proofs.lemmas.Bool.{cases_Bool, false≢true}
use Rattle.walrus_type_index.specs.Ordered.{is_marked}
use Rattle.walrus_type_index.specs.walrus_items.Items.{Item, Group}
use Rattle.walrus_type_arenas.specs.Table.{Table, HasMember, IsGrouped, IsSpared, is_explicit_at, is_spared, marked, type_at}
use Rattle.walrus_type_arenas.proofs.MarkLemmas.{is-marked, marked-is}

some-passes : (p : Item → Bool) (o : Option Item) → option_map_or p o false ≡ true → (item : Item) × (o ≡ Some item) × (p item ≡ true)
some-passes p None passes = absurd (false≢true passes)
some-passes p (Some item) passes = (item, refl, passes)

both : (a b : Bool) → (a && b) ≡ true → (a ≡ true) × (b ≡ true)
both true b is = (refl, is)
both false b is = absurd (false≢true is)

not-one : (b : Bool) → not b ≡ true → b ≡ true → ⊥
not-one true is other = false≢true is
not-one false is other = false≢true other

-- the home of a member is its group
explicit-home : (t : Table) (homes : List ℕ) → IsGrouped t.types t.groups homes → (id : ℕ) (group : Group) → HasMember t id group → group.explicit ≡ true
    → is_explicit_at t.groups (slice_index homes id) ≡ true
explicit-home t homes grouped id group has explicit =
    let m = grouped.member has.place group has.live id has.listed in
    ap (is_explicit_at t.groups) m.2 ∙ ap (λ (o : Option Group). option_map_or (λ (g : Group). g.explicit) o false) has.live ∙ explicit

pub spared-is : (t : Table) (homes : List ℕ) → IsGrouped t.types t.groups homes → (id : ℕ) → is_spared t homes id ≡ true → IsSpared t id
spared-is t homes grouped id spared =
    let there = some-passes (λ item. item.kind.entry && not (is_explicit_at t.groups (slice_index homes id))) (type_at t id) spared in
    let parts = both there.0.kind.entry (not (is_explicit_at t.groups (slice_index homes id))) there.2 in
    record {
      item = there.0;
      live = there.1;
      entry = parts.0;
      alone = λ group has explicit. not-one (is_explicit_at t.groups (slice_index homes id)) parts.1 (explicit-home t homes grouped id group has explicit);
    }

-- an entry type whose home isn't explicit
home-not : (t : Table) (homes : List ℕ) → IsGrouped t.types t.groups homes → (id : ℕ) → IsSpared t id → is_explicit_at t.groups (slice_index homes id) ≡ true → ⊥
home-not t homes grouped id s explicit =
    let home = grouped.listed id s.item s.live in
    s.alone home.0 (record { place = slice_index homes id; live = home.1; listed = home.2 })
    (ap (λ (o : Option Group). option_map_or (λ (g : Group). g.explicit) o false) (sym home.1) ∙ explicit)

pub is-spared : (t : Table) (homes : List ℕ) → IsGrouped t.types t.groups homes → (id : ℕ) → IsSpared t id → is_spared t homes id ≡ true
is-spared t homes grouped id s =
    ap (λ (o : Option Item). option_map_or (λ (item : Item). item.kind.entry && not (is_explicit_at t.groups (slice_index homes id))) o false) s.live
    ∙ ap (λ (entry : Bool). entry && not (is_explicit_at t.groups (slice_index homes id))) s.entry
    ∙ elim (cases_Bool (is_explicit_at t.groups (slice_index homes id))) as (λ _. not (is_explicit_at t.groups (slice_index homes id)) ≡ true) [
      | inl explicit ↦ absurd (home-not t homes grouped id s explicit)
      | inr other ↦ ap not other
    ]

-- the ids that stay marked
pub left-listed : (t : Table) (homes : List ℕ) → IsGrouped t.types t.groups homes → (old new : List Bool)
    → ((id : ℕ) → is_marked new id ≡ (is_marked old id && not (is_spared t homes id)))
    → (id : ℕ) → Contains (marked new) id ↔ (Contains (marked old) id × (IsSpared t id → ⊥))
left-listed t homes grouped old new left id = (
  λ c.
      let parts = both (is_marked old id) (not (is_spared t homes id)) (sym (left id) ∙ marked-is new id c) in
      (is-marked old id parts.0, λ s. not-one (is_spared t homes id) parts.1 (is-spared t homes grouped id s)),
  λ p. elim (cases_Bool (is_spared t homes id)) as (λ _. Contains (marked new) id) [
    | inl spared ↦ absurd (p.1 (spared-is t homes grouped id spared))
    | inr other ↦ is-marked new id (left id ∙ ap (λ (b : Bool). b && not (is_spared t homes id)) (marked-is old id p.0) ∙ ap not other)
  ],
)
