-- What is left of the types.
use Rattle.std.proofs.Common.{◌≡◌, ◌∙◌, ◌⊎◌, ◌+◌, ◌<◌, ℕ, Bool, true, false, List, [], ◌∷◌, ◌++◌, Option, Some, None, Contains, length, length-append, suc, refl, sym, ap, subst, inl, inr, arith}
use Rattle.std.specs.Prelude.{◌↔◌, Decides, IsSome, is_some, filter, if◌then◌else◌, slice_index_or}
use Rattle.std.specs.Option.{option_and_then}
use Rattle.std.proofs.Math.ListN.{get_or-map}
use Rattle.std.proofs.lemmas.List.{length-map}
use Rattle.std.proofs.lemmas.List.Elements.{Contains-push, Contains-push_cases, Contains-append_left}
use Rattle.std.proofs.lemmas.Bool.{cases_eq, false≢true}
use Rattle.walrus_items.specs.Items.{Item as TypeItem, Group}
use Rattle.walrus_types.specs.Table.{Table, type_at, group_at, HasMember, IsSpared, DeletesAll, clear_all, marked, marked_from, with_live, nonempty_group, IsLive}
use Rattle.walrus_types.specs.TypeLaws.{AreGrouped}
use Rattle.walrus_types.proofs.DeleteLemmas.{nonempty-some, contains-filter, filter-contains, nothing, length-clear_all, at-cleared, cleared-at}
use Rattle.walrus_types.proofs.SweepLemmas.{was-there, member-there}
use Rattle.walrus_refusals.specs.walrus_used.walrus_module.Items.{written, written_type}
use Rattle.walrus_refusals.specs.walrus_used.Counts.{past_types}
use Rattle.walrus_refusals.proofs.walrus_used.CountLemmas.{types_below}
use Rattle.walrus_passes.specs.DroppedTypes.{AreClosed, AreUnkept}
use Rattle.walrus_passes.specs.Part.{TypesRestAmong, left_of}

later_in : (y : ℕ) (xs : List ℕ) (x : ℕ) → Contains xs x → Contains (y ∷ xs) x
later_in y xs x c = (suc c.0, omega (arith, c.1), c.2)

filter_head : (b : Bool) (x : ℕ) (xs : List ℕ) → b ≡ true → (if b then x ∷ xs else xs) ≡ x ∷ xs
filter_head true x xs e = refl
filter_head false x xs e = absurd (false≢true e)

filter_all : (p : ℕ → Bool) (xs : List ℕ) → ((x : ℕ) → Contains xs x → p x ≡ true) → filter p xs ≡ xs
filter_all p [] all = refl
filter_all p (x ∷ xs) all = filter_head (p x) x (filter p xs) (all x (0, omega arith, refl)) ∙ ap (λ ys. x ∷ ys) (filter_all p xs (λ y c. all y (later_in x xs y c)))

some_one : {A : Type 0} (o : Option A) → IsSome o → (x : A) × (o ≡ Some x)
some_one None h = absurd (false≢true h)
some_one (Some x) h = (x, refl)

some_is : {A : Type 0} (o : Option A) (x : A) → o ≡ Some x → IsSome o
some_is o x at = subst IsSome (sym at) refl

written_there : (o : Option TypeItem) → IsSome (written o) → IsSome o
written_there None h = h
written_there (Some ty) h = refl

-- a type that is written is no entry type
not_both : (e : Bool) (ty : TypeItem) → IsSome (if e then None else Some ty) → e ≡ true → ⊥
not_both true ty h entry = false≢true h
not_both false ty h entry = false≢true entry

no_entry : (o : Option TypeItem) (ty : TypeItem) → o ≡ Some ty → IsSome (written o) → ty.kind.entry ≡ true → ⊥
no_entry o ty at h entry = not_both ty.kind.entry ty (subst (λ (p : Option TypeItem). IsSome (written p)) at h) entry

-- the type is a member of an explicit group
abbrev IsInExplicit : Table → ℕ → Type 0
IsInExplicit t id = (group : Group) × HasMember t id group × (group.explicit ≡ true)

-- such a type lives
written_or_in : (t : Table) → AreGrouped t → (id : ℕ) → IsSome (written_type t id) ⊎ IsInExplicit t id → IsLive t id
written_or_in t grouped id (inl h) = written_there (type_at t id) h
written_or_in t grouped id (inr ex) = (let there = grouped.live ex.1.place ex.0 ex.1.live id ex.1.listed in some_is (type_at t id) there.0 there.1)

-- and isn't spared
not_spared : (t : Table) (id : ℕ) → IsSome (written_type t id) ⊎ IsInExplicit t id → IsSpared t id → ⊥
not_spared t id (inl h) s = no_entry (type_at t id) s.item s.live h s.entry
not_spared t id (inr ex) s = s.alone ex.0 ex.1 ex.2

-- ---- the types that don't stay, as they are listed
pub none_listed : (N : ℕ → Type 0) (k : ℕ) → Contains [] k ↔ ((k < 0) × N k)
none_listed N k = (λ c. absurd (nothing k c), λ p. absurd (omega (arith, p.0)))

one_listed : (N : ℕ → Type 0) (ids : List ℕ) (n id : ℕ) → id ≡ n → N id → ((k : ℕ) → Contains ids k ↔ ((k < n) × N k)) → (k : ℕ) → Contains (ids ++ id ∷ []) k ↔ ((k < n + 1) × N k)
one_listed N ids n id is here before k = (
  λ c. elim (Contains-push_cases ids id k c) as (λ _. (k < n + 1) × N k) [
    | inl old ↦ (let h = (before k).0 old in (omega (arith, h.0), h.1))
    | inr e ↦ (omega (arith, e, is), subst N e here)
  ],
  λ p. elim (cases_eq k n) as (λ _. Contains (ids ++ id ∷ []) k) [
    | inl e ↦ subst (λ j. Contains (ids ++ id ∷ []) j) (is ∙ sym e) (Contains-push ids id)
    | inr other ↦ Contains-append_left ids (id ∷ []) k ((before k).1 (omega (arith, p.0, other), p.1))
  ],
)

one_passed : (N : ℕ → Type 0) (ids : List ℕ) (n id : ℕ) → id ≡ n → (N id → ⊥) → ((k : ℕ) → Contains ids k ↔ ((k < n) × N k)) → (k : ℕ) → Contains ids k ↔ ((k < n + 1) × N k)
one_passed N ids n id is other before k = (
  λ c. (let h = (before k).0 c in (omega (arith, h.0), h.1)),
  λ p. elim (cases_eq k n) as (λ _. Contains ids k) [
    | inl e ↦ absurd (other (subst N (e ∙ sym is) p.1))
    | inr apart ↦ (before k).1 (omega (arith, p.0, apart), p.1)
  ],
)

-- a mark that is put behind the others
marked_more : (place : ℕ) (marks : List Bool) (mark : Bool) → marked_from place (marks ++ mark ∷ []) ≡ marked_from place marks ++ (if mark then (place + length marks) ∷ [] else [])
marked_more place [] true = ap (λ (n : ℕ). n ∷ []) (let e : place ≡ place + 0 = omega arith in e)
marked_more place [] false = refl
marked_more place (true ∷ marks) mark =
    ap (λ (ids : List ℕ). place ∷ ids) (marked_more (suc place) marks mark ∙ ap (λ (n : ℕ). marked_from (suc place) marks ++ (if mark then n ∷ [] else [])) (let e : suc place + length marks ≡ place + suc (length marks) = omega arith in e))
marked_more place (false ∷ marks) mark =
    marked_more (suc place) marks mark ∙ ap (λ (n : ℕ). marked_from (suc place) marks ++ (if mark then n ∷ [] else [])) (let e : suc place + length marks ≡ place + suc (length marks) = omega arith in e)

nothing_more : (ids : List ℕ) → ids ++ [] ≡ ids
nothing_more [] = refl
nothing_more (id ∷ ids) = ap (λ (more : List ℕ). id ∷ more) (nothing_more ids)

pub one_longer : (marks : List Bool) (mark : Bool) → length (marks ++ mark ∷ []) ≡ length marks + 1
one_longer marks mark = length-append marks (mark ∷ [])

pub mark_listed : (N : ℕ → Type 0) (marks : List Bool) (n id : ℕ) (mark : Bool) → length marks ≡ n → id ≡ n → Decides mark (N id)
    → ((k : ℕ) → Contains (marked marks) k ↔ ((k < n) × N k)) → (k : ℕ) → Contains (marked (marks ++ mark ∷ [])) k ↔ ((k < n + 1) × N k)
mark_listed N marks n id true sized is here before k =
    subst (λ (ids : List ℕ). Contains ids k ↔ ((k < n + 1) × N k))
    (ap (λ (i : ℕ). marked marks ++ i ∷ []) (let e : id ≡ 0 + length marks = omega (arith, is, sized) in e) ∙ sym (marked_more 0 marks true))
    (one_listed N (marked marks) n id is (here.0 refl) before k)
mark_listed N marks n id false sized is here before k =
    subst (λ (ids : List ℕ). Contains ids k ↔ ((k < n + 1) × N k))
    (sym (nothing_more (marked marks)) ∙ sym (marked_more 0 marks false))
    (one_passed N (marked marks) n id is (λ needless. false≢true (here.1 needless)) before k)

pub all_listed : (stays : ℕ → Type 0) (t : Table) (ids : List ℕ) (n : ℕ) → n ≡ past_types t → ((k : ℕ) → Contains ids k ↔ ((k < n) × (stays k → ⊥))) → AreUnkept stays t ids
all_listed stays t ids n all listed = subst (λ (m : ℕ). (k : ℕ) → Contains ids k ↔ ((k < m) × (stays k → ⊥))) all listed

-- ---- what is left once they are deleted
abbrev lives : Table → ℕ → Bool
lives t id = is_some (type_at t id)

-- all members live
all_left : (t : Table) (group : Group) → ((id : ℕ) → Contains group.types id → lives t id ≡ true) → group ≡ left_of t group
all_left t group all = ap (λ (types : List ℕ). record { explicit = group.explicit; types = types }) (sym (filter_all (lives t) group.types all))

module _ (stays : ℕ → Type 0) (sure : (id : ℕ) → ((stays id → ⊥) → ⊥) → stays id) (a b : Table) (unkept ids : List ℕ) (grouped : AreGrouped a) (closed : AreClosed stays a) (listed : AreUnkept stays a unkept)
    (left : (id : ℕ) → Contains ids id ↔ (Contains unkept id × (IsSpared a id → ⊥))) (gone : DeletesAll ids a b) where
  type_after : (k : ℕ) → type_at b k ≡ slice_index_or (clear_all ids a.types) k None
  type_after k = ap (λ (types : List (Option TypeItem)). slice_index_or types k None) gone.types

  unlisted_same : (k : ℕ) → (Contains ids k → ⊥) → type_at b k ≡ type_at a k
  unlisted_same k apart = type_after k ∙ cleared-at ids a.types k apart

  type_before : (k : ℕ) (ty : TypeItem) → type_at b k ≡ Some ty → (type_at a k ≡ Some ty) × (Contains ids k → ⊥)
  type_before k ty at = at-cleared ids a.types k ty (sym (type_after k) ∙ at)

  stays_same : (k : ℕ) → stays k → type_at b k ≡ type_at a k
  stays_same k s = unlisted_same k (λ c. ((listed k).0 ((left k).0 c).0).1 s)

  unlisted_stays : (k : ℕ) → (Contains ids k → ⊥) → IsSome (written_type a k) ⊎ IsInExplicit a k → stays k
  unlisted_stays k apart found = sure k (λ goes. apart ((left k).1 (
    (listed k).1 (types_below a grouped (past_types a) refl k (written_or_in a grouped k found), goes),
    not_spared a k found,
  )))

  group_after : (place : ℕ) → group_at b place ≡ option_and_then (with_live b.types) (group_at a place)
  group_after place =
      ap (λ (gs : List (Option Group)). slice_index_or gs place None) gone.groups ∙ get_or-map (option_and_then (with_live b.types)) a.groups place None

  group_before : (place : ℕ) (g : Group) → group_at b place ≡ Some g → (h : Group) × (group_at a place ≡ Some h) × (g ≡ left_of b h)
  group_before place g at = was-there b.types (group_at a place) g (sym (group_after place) ∙ at)

  -- a member of an explicit group stays: all members live
  all_live : (place : ℕ) (g : Group) → group_at a place ≡ Some g → g.explicit ≡ true → (k : ℕ) → Contains g.types k → stays k → (j : ℕ) → Contains g.types j → lives b j ≡ true
  all_live place g at ex k c s j d =
      let there = grouped.live place g at j d in
      some_is (type_at b j) there.0 (stays_same j (closed place g at ex k j c d s) ∙ there.1)

  -- a group of which all members live is left whole
  whole : (place : ℕ) (g : Group) (k : ℕ) → group_at a place ≡ Some g → Contains g.types k → ((j : ℕ) → Contains g.types j → lives b j ≡ true) → group_at b place ≡ Some g
  whole place g k at c all =
      group_after place
      ∙ ap (option_and_then (with_live b.types)) at
      ∙ ap (nonempty_group g.explicit) (filter_all (lives b) g.types all)
      ∙ nonempty-some g.explicit g.types (λ e. nothing k (subst (λ (xs : List ℕ). Contains xs k) e c))

  -- an explicit group of which anything is left is left whole
  whole_before : (place : ℕ) (g : Group) → group_at b place ≡ Some g → g.explicit ≡ true → group_at a place ≡ Some g
  whole_before place g at ex =
      let was = group_before place g at in
      let one = member-there b.types (group_at a place) g (sym (group_after place) ∙ at) in
      let kept = contains-filter (lives b) was.0.types one.0 (subst (λ (h : Group). Contains h.types one.0) was.2 one.1) in
      let there = some_one (type_at b one.0) kept.1 in
      let so : was.0.explicit ≡ true = ap (λ (h : Group). h.explicit) (sym was.2) ∙ ex in
      let stay = unlisted_stays one.0 (type_before one.0 there.0 there.1).1 (inr (was.0, record { place = place; live = was.1; listed = kept.0 }, so)) in
      was.1 ∙ ap Some (all_left b was.0 (all_live place was.0 was.1 so one.0 kept.0 stay) ∙ sym was.2)

  pub types_rest : TypesRestAmong (λ _. Unit {0}) stays a b
  types_rest = record {
    sized = ap (λ (types : List (Option TypeItem)). length types) gone.types ∙ length-clear_all ids a.types;
    places = ap (λ (gs : List (Option Group)). length gs) gone.groups ∙ length-map a.groups (option_and_then (with_live b.types));
    each = stays_same;
    only = λ k ty at. (type_before k ty at).0;
    stay = λ k _ h.
        let there = some_one (type_at b k) (written_there (type_at b k) h) in
        let was = type_before k there.0 there.1 in
        unlisted_stays k was.1 (inl (subst (λ (o : Option TypeItem). IsSome (written o)) (there.1 ∙ sym was.0) h));
    entries = λ k ty at entry alone. unlisted_same k (λ c. ((left k).0 c).1 (record { item = ty; live = at; entry = entry; alone = alone })) ∙ at;
    groups = λ place g at ex k c s. whole place g k at c (all_live place g at ex k c s);
    only_groups = whole_before;
    rest = λ place g at k c live.
        group_after place
        ∙ ap (option_and_then (with_live b.types)) at
        ∙ nonempty-some g.explicit (filter (lives b) g.types) (λ e. nothing k (subst (λ (xs : List ℕ). Contains xs k) e (filter-contains (lives b) g.types k c live)));
    left = group_before;
  }

pub types_as : (stays kept : ℕ → Type 0) (a b : Table) → ((id : ℕ) → stays id → kept id) → ((id : ℕ) → kept id → stays id) → TypesRestAmong (λ _. Unit {0}) stays a b → TypesRestAmong (λ _. Unit {0}) kept a b
types_as stays kept a b forth back r = record {
  sized = r.sized;
  places = r.places;
  each = λ id k. r.each id (back id k);
  only = r.only;
  stay = λ id _ h. forth id (r.stay id tt h);
  entries = r.entries;
  groups = λ place group at ex id c k. r.groups place group at ex id c (back id k);
  only_groups = r.only_groups;
  rest = r.rest;
  left = r.left;
}
