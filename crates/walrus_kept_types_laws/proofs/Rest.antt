-- Lemmas: the groups that a table writes once types are deleted are those that it wrote, without these types.
use Rattle.std.proofs.Common.{◌≡◌, ◌∙◌, inl, inr, ℕ, zero, suc, ◌+◌, Bool, true, false, ◌||◌, List, [], ◌∷◌, length, map, filter, Contains, Option, Some, None, is_some, IsSome, if◌then◌else◌, refl, sym, ap, arith}
use Rattle.std.specs.Prelude.{slice_index_or}
use Rattle.std.specs.List.{slice_get, list_any}
use Rattle.std.specs.Option.{option_and_then}
use Rattle.std.proofs.lemmas.Bool.{false≢true, cases_Bool}
use Rattle.std.proofs.lemmas.Option.{none-some, same_Some}
use Rattle.walrus_arena.specs.Arena.{entries_from}
use Rattle.walrus_forms.specs.Kinds.{Kind}
use Rattle.walrus_types.specs.Emission.{shown_kind, written_kind, is_written, written_groups}
use Rattle.walrus_types.specs.Items.{Item, Group}
use Rattle.walrus_types.specs.Merged.{IsMerged, UnmarkedAreSingle, single_group}
use Rattle.walrus_types.specs.Table.{Table, type_at, group_at}
use Rattle.walrus_types.proofs.OnceLemmas.{is_shown}
use Rattle.walrus_types.proofs.Places.{contains_has, has_contains}
use Rattle.walrus_type_laws.proofs.Written.{kind_of, written_item}
use Rattle.walrus_kept_types_laws.proofs.Lists.{failed, filter_same, none_among, none_of, none_pass, passed}

abbrev pub has_any : List ℕ → Bool
has_any [] = false
has_any (n ∷ ns) = true

-- some of those that pass pass
any_passes : (test : ℕ → Bool) (xs : List ℕ) → list_any test (filter test xs) ≡ has_any (filter test xs)
any_passes test [] = refl
any_passes test (x ∷ xs) = elim (cases_Bool (test x)) as (λ _. list_any test (filter test (x ∷ xs)) ≡ has_any (filter test (x ∷ xs))) [
  | inl so ↦
      ap (λ (l : List ℕ). list_any test l) (passed test x xs so) ∙ ap (λ (b : Bool). b || list_any test (filter test xs)) so
      ∙ sym (ap has_any (passed test x xs so))
  | inr not_so ↦ ap (λ (l : List ℕ). list_any test l) (failed test x xs not_so) ∙ any_passes test xs ∙ sym (ap has_any (failed test x xs not_so))
]

-- ---- lists and groups

group_is : (g : Group) (b : ℕ) → g.explicit ≡ false → g.types ≡ b ∷ [] → g ≡ single_group b
group_is g b marked types =
    ap (λ (m : Bool). let h : Group = record { explicit = m; types = g.types } in h) marked
    ∙ ap (λ (l : List ℕ). let h : Group = record { explicit = false; types = l } in h) types

first_or : (x : ℕ) (xs ys : List ℕ) (id : ℕ) → ((k : ℕ) → slice_get ys k ≡ Some id → (j : ℕ) × (slice_get xs j ≡ Some id)) → (k : ℕ) → slice_get (x ∷ ys) k ≡ Some id
    → (j : ℕ) × (slice_get (x ∷ xs) j ≡ Some id)
first_or x xs ys id later zero at = (0, at)
first_or x xs ys id later (suc k) at = (let m = later k at in (suc m.0, m.1))

-- what passes stands in the list
among : (lives : ℕ → Bool) (xs : List ℕ) (id k : ℕ) → slice_get (filter lives xs) k ≡ Some id → (j : ℕ) × (slice_get xs j ≡ Some id)
among lives [] id k at = absurd (none-some id at)
among lives (x ∷ xs) id k at = elim (cases_Bool (lives x)) as (λ _. (j : ℕ) × (slice_get (x ∷ xs) j ≡ Some id)) [
  | inl so ↦ first_or x xs (filter lives xs) id (λ j is. among lives xs id j is) k (ap (λ (l : List ℕ). slice_get l k) (sym (passed lives x xs so)) ∙ at)
  | inr not_so ↦ (let m = among lives xs id k (ap (λ (l : List ℕ). slice_get l k) (sym (failed lives x xs not_so)) ∙ at) in (suc m.0, m.1))
]

-- the one that is left of one
alone : (lives : ℕ → Bool) (b : ℕ) (xs : List ℕ) → length xs ≡ 1 → b ∷ [] ≡ filter lives xs → xs ≡ b ∷ []
alone lives b [] one is = absurd (omega (arith, one))
alone lives b (x ∷ y ∷ xs) one is = absurd (omega (arith, one))
alone lives b (x ∷ []) one is = elim (cases_Bool (lives x)) as (λ _. x ∷ [] ≡ b ∷ []) [
  | inl so ↦ sym (is ∙ passed lives x [] so)
  | inr not_so ↦ (let wrong : length (b ∷ []) ≡ 0 = ap (λ (l : List ℕ). length l) (is ∙ failed lives x [] not_so) in absurd (omega (arith, wrong)))
]

module _ (old new : Table) (only : (id : ℕ) (ty : Item) → type_at new id ≡ Some ty → type_at old id ≡ Some ty) where
  abbrev shown_of : Option Item → Option Kind
  shown_of o = option_and_then (λ item. shown_kind item.kind) o

  pub only_kind : (id : ℕ) (kind : Kind) → written_kind new id ≡ Some kind → written_kind old id ≡ Some kind
  only_kind id kind is = let w = written_item new id kind is in ap shown_of (only id w.0 w.1) ∙ sym (ap shown_of w.1) ∙ is

  pub only_written : (id : ℕ) → is_written new id ≡ true → is_written old id ≡ true
  only_written id w = let k = kind_of new id w in ap (λ (o : Option Kind). is_some o) (only_kind id k.0 k.1)

  -- of types that were written those that live are written
  lives_written : (id : ℕ) → is_written old id ≡ true → is_some (type_at new id) ≡ is_written new id
  lives_written id w = by (type_at new id) refl
    where
      by : (o : Option Item) → type_at new id ≡ o → is_some o ≡ is_some (shown_of o)
      by None e = refl
      by (Some item) e = sym w ∙ ap (λ (o : Option Item). is_some (shown_of o)) (only id item e)

  -- what is left of a group, and of one whose types were written
  abbrev pub left_in : Group → Group
  left_in g = record { explicit = g.explicit; types = filter (λ id. is_some (type_at new id)) g.types }

  abbrev pub stays_in : Group → Group
  stays_in g = record { explicit = g.explicit; types = filter (is_written new) g.types }

  abbrev pub has_types_left : Group → Bool
  has_types_left g = has_any g.types

  abbrev Inside : List ℕ → Type 0
  Inside xs = (k id : ℕ) → slice_get xs k ≡ Some id → is_written old id ≡ true

  left_same : (g : Group) → Inside g.types → left_in g ≡ stays_in g
  left_same g inside =
      ap (λ (l : List ℕ). let h : Group = record { explicit = g.explicit; types = l } in h)
      (filter_same (λ id. is_some (type_at new id)) (is_written new) g.types (λ k id at. lives_written id (inside k id at)))

  -- what one place has of the one table, and of the other
  pub record SlotRests (o p : Option Group) : Type 0 where
    pub left : (h : Group) → p ≡ Some h → (g : Group) × (o ≡ Some g) × (h ≡ left_in g)
    pub rest : (g : Group) → o ≡ Some g → (id : ℕ) → Contains g.types id → IsSome (type_at new id) → p ≡ Some (left_in g)
    pub whole : (g : Group) → o ≡ Some g → is_shown old g ≡ true → Inside g.types

  abbrev shown : Table → ℕ → List (Option Group) → List Group
  shown t n slots = filter (is_shown t) (map (λ (e : ℕ × Group). e.1) (entries_from n slots))

  -- a type that isn't there isn't written
  unwritten : (id : ℕ) → (IsSome (type_at new id) → ⊥) → is_written new id ≡ false
  unwritten id none = by (type_at new id) refl
    where
      by : (o : Option Item) → type_at new id ≡ o → is_some (shown_of o) ≡ false
      by None e = refl
      by (Some item) e = absurd (none (ap (λ (x : Option Item). is_some x) e))

  -- where a group goes none of its types is written
  gone : (g : Group) → SlotRests (Some g) None → filter (is_written new) g.types ≡ []
  gone g s = none_pass (is_written new) g.types (λ k id at. unwritten id (λ lives. none-some (left_in g) (s.rest g refl id (has_contains g.types id (k, at)) lives)))

  -- a group without types that are written gives none
  none_shown : (g h : Group) → SlotRests (Some g) (Some h) → is_shown old g ≡ false → is_shown new h ≡ false
  none_shown g h s hidden =
      let l = s.left h refl in
      let same : l.0 ≡ g = same_Some l.0 g (sym l.1) in
      ap (is_shown new) (l.2 ∙ ap left_in same)
      ∙ none_among (is_written new) (λ id. is_some (type_at new id)) g.types (λ k id at. elim (cases_Bool (is_written new id)) as (λ _. is_written new id ≡ false) [
        | inl w ↦ absurd (false≢true (sym (none_of (is_written old) g.types hidden k id at) ∙ only_written id w))
        | inr none ↦ none
      ])

  -- of the other groups
  shown_left : (g h : Group) → SlotRests (Some g) (Some h) → is_shown old g ≡ true → h ≡ stays_in g
  shown_left g h s so =
      let l = s.left h refl in
      let same : l.0 ≡ g = same_Some l.0 g (sym l.1) in
      l.2 ∙ ap left_in same ∙ left_same g (s.whole g refl so)

  one_left : (g h : Group) (xs ys : List Group) → h ≡ stays_in g → xs ≡ ys → (if is_shown new h then h ∷ xs else xs) ≡ (if has_types_left (stays_in g) then stays_in g ∷ ys else ys)
  one_left g h xs ys same rest =
      ap (λ (w : Group). if is_shown new w then w ∷ xs else xs) same
      ∙ ap (λ (b : Bool). if b then stays_in g ∷ xs else xs) (any_passes (is_written new) g.types)
      ∙ ap (λ (l : List Group). if has_types_left (stays_in g) then stays_in g ∷ l else l) rest

  rests : (n m : ℕ) (os ps : List (Option Group)) → length ps ≡ length os → ((i : ℕ) → SlotRests (slice_index_or os i None) (slice_index_or ps i None))
      → shown new m ps ≡ filter has_types_left (map stays_in (shown old n os))
  rests n m [] [] sized all = refl
  rests n m [] (p ∷ ps) sized all = absurd (omega (arith, sized))
  rests n m (o ∷ os) [] sized all = absurd (omega (arith, sized))
  rests n m (None ∷ os) (None ∷ ps) sized all = rests (n + 1) (m + 1) os ps (omega (arith, sized)) (λ i. all (suc i))
  rests n m (None ∷ os) (Some h ∷ ps) sized all = let l = (all 0).left h refl in absurd (none-some l.0 l.1)
  rests n m (Some g ∷ os) (None ∷ ps) sized all =
      let later = rests (n + 1) (m + 1) os ps (omega (arith, sized)) (λ i. all (suc i)) in
      let more : List Group = map (λ (e : ℕ × Group). e.1) (entries_from (n + 1) os) in
      elim (cases_Bool (is_shown old g)) as (λ _. shown new (m + 1) ps ≡ filter has_types_left (map stays_in (filter (is_shown old) (g ∷ more)))) [
        | inl so ↦
            later
            ∙ sym (failed has_types_left (stays_in g) (map stays_in (filter (is_shown old) more)) (ap has_any (gone g (all 0))))
            ∙ sym (ap (λ (l : List Group). filter has_types_left (map stays_in l)) (passed (is_shown old) g more so))
        | inr not_so ↦ later ∙ sym (ap (λ (l : List Group). filter has_types_left (map stays_in l)) (failed (is_shown old) g more not_so))
      ]
  rests n m (Some g ∷ os) (Some h ∷ ps) sized all =
      let later = rests (n + 1) (m + 1) os ps (omega (arith, sized)) (λ i. all (suc i)) in
      let more : List Group = map (λ (e : ℕ × Group). e.1) (entries_from (n + 1) os) in
      let here : List Group = map (λ (e : ℕ × Group). e.1) (entries_from (m + 1) ps) in
      elim (cases_Bool (is_shown old g)) as (λ _. filter (is_shown new) (h ∷ here) ≡ filter has_types_left (map stays_in (filter (is_shown old) (g ∷ more)))) [
        | inl so ↦
            one_left g h (filter (is_shown new) here) (filter has_types_left (map stays_in (filter (is_shown old) more))) (shown_left g h (all 0) so) later
            ∙ sym (ap (λ (l : List Group). filter has_types_left (map stays_in l)) (passed (is_shown old) g more so))
        | inr not_so ↦
            failed (is_shown new) h here (none_shown g h (all 0) not_so) ∙ later
            ∙ sym (ap (λ (l : List Group). filter has_types_left (map stays_in l)) (failed (is_shown old) g more not_so))
      ]

  module _ (places : length new.groups ≡ length old.groups)
      (left : (place : ℕ) (h : Group) → group_at new place ≡ Some h → (g : Group) × (group_at old place ≡ Some g) × (h ≡ left_in g))
      (rest : (place : ℕ) (g : Group) → group_at old place ≡ Some g → (id : ℕ) → Contains g.types id → IsSome (type_at new id) → group_at new place ≡ Some (left_in g)) where
    pub groups_rest : ((place : ℕ) (g : Group) → group_at old place ≡ Some g → is_shown old g ≡ true → Inside g.types)
        → written_groups new ≡ filter has_types_left (map stays_in (written_groups old))
    groups_rest whole = rests 0 0 old.groups new.groups places (λ i. record { left = left i; rest = rest i; whole = whole i })

    -- no type of what is left is like an earlier one, and entry types stay alone
    pub stays_merged : IsMerged old → UnmarkedAreSingle old → IsMerged new
    stays_merged merged single = record {
      apart = λ place a b x y at is_b apart before is_a.
          let l = left place (single_group b) at in
          let was : l.0 ≡ single_group b =
          group_is l.0 b (sym (ap (λ (g : Group). g.explicit) l.2)) (alone (λ id. is_some (type_at new id)) b (l.0).types (single place l.0 l.1 (sym (ap (λ (g : Group). g.explicit) l.2))) (ap (λ (g : Group). g.types) l.2)) in
          merged.apart place a b x y (l.1 ∙ ap Some was) (only b y is_b) apart before (only a x is_a);
      entries = λ place group at id item c is entry.
          let l = left place group at in
          let h = contains_has group.types id c in
          let was : (l.0).types ≡ id ∷ [] = merged.entries place l.0 l.1 id item (has_contains (l.0).types id (among (λ id. is_some (type_at new id)) (l.0).types id h.0 (ap (λ (g : Group). slice_get g.types h.0) (sym l.2) ∙ h.1))) (only id item is) entry in
          ap (λ (g : Group). g.types) l.2
          ∙ ap (λ (l : List ℕ). filter (λ id. is_some (type_at new id)) l) was
          ∙ passed (λ id. is_some (type_at new id)) id [] (ap (λ (o : Option Item). is_some o) is);
    }
