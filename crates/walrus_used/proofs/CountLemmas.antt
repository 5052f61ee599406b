-- What is looked at, and what lives, has an id below the counts.
use Rattle.std.proofs.Common.{◌≡◌, ◌+◌, ◌<◌, ◌≤◌, ◌⊎◌, ℕ, zero, suc, List, [], ◌∷◌, length, map, get_or, Option, Some, None, Contains, refl, sym, ap, subst, inl, inr, arith}
use Rattle.std.specs.Prelude.{◌↔◌, IsSome, IsTrue, MatchOption, slice_get}
use Rattle.std.proofs.lemmas.List.{get_or_past}
use Rattle.std.specs.List.{fold}
use Rattle.std.proofs.lemmas.Bool.{cases_lt, lt-ltb, le-ltb, false≢true}
use Rattle.wasm_formats.specs.declared.fault.Space.{Space}
use Rattle.wasm_formats.specs.declared.fault.Space.TheVariants as spaces
use Rattle.walrus_arena.specs.Arena.{entries_from}
use Rattle.walrus_items.specs.Items.{Item as TypeItem, Group}
use Rattle.walrus_types.specs.Table.{Table as TypeTable, type_at, IsLive as IsLiveType}
use Rattle.walrus_types.specs.Last.{IsHighest}
use Rattle.walrus_types.specs.TypeLaws.{AreGrouped}
use Rattle.walrus_references.specs.walrus_module_items.declared.function.Function.{Function}
use Rattle.walrus_references.specs.walrus_module.Parts.{Module}
use Rattle.walrus_roots.specs.declared.item.Item.{Item}
use Rattle.walrus_roots.specs.Items.{item}
use Rattle.walrus_marks.specs.Marks.{State, is_claimed}
use Rattle.walrus_marks.specs.Chains.{Chain, FitsIn, Lacks, root, refers}
use Rattle.walrus_marks.specs.Chains.{IsReached as IsReachedIn}
use Rattle.walrus_references.specs.References.{Refers, named_by, type_items, local_items, KindNames}
use Rattle.walrus_references.specs.Roots.{Root}
use Rattle.walrus_references.specs.Kept.{IsReached}
use Rattle.walrus_references.specs.walrus_module.Items.{written, Lives, LivesIn}
use Rattle.walrus_used.specs.Looks.{Looks, LooksIn, AreActive}
use Rattle.walrus_used.specs.Counts.{counts_of, past_id, past_group, past_types}
use Rattle.walrus_used.proofs.LooksLemmas.{none_in, first_in, cases_in, named_below, reached_looked, looked_reached}

some_below : {A : Type 0} (slots : List (Option A)) (id : ℕ) → IsSome (get_or slots id None) → id < length slots
some_below slots id h = elim (cases_lt id (length slots)) as (λ _. id < length slots) [
  | inl below ↦ below
  | inr past ↦ absurd (false≢true (subst IsSome (get_or_past slots id None past) h))
]

there_below : {A : Type 0} (P : A → Type 0) (slots : List (Option A)) (id : ℕ) → MatchOption (get_or slots id None) ⊥ P → id < length slots
there_below P slots id h = elim (cases_lt id (length slots)) as (λ _. id < length slots) [
  | inl below ↦ below
  | inr past ↦ absurd (subst (λ o. MatchOption o ⊥ P) (get_or_past slots id None past) h)
]

local_below : {A : Type 0} (f : A → List Item) (xs : List A) (k : ℕ) (y : Item) → Contains (named_by f (slice_get xs k)) y → k < length xs
local_below f [] k y c = absurd (none_in y c)
local_below f (x ∷ xs) zero y c = omega arith
local_below f (x ∷ xs) (suc k) y c = (let h = local_below f xs k y c in omega (arith, h))

written_some : (o : Option TypeItem) → IsSome (written o) → IsSome o
written_some (Some ty) h = refl
written_some None h = h

named_written : (o : Option TypeItem) (y : Item) → Contains (named_by type_items (written o)) y → IsSome o
named_written (Some ty) y c = refl
named_written None y c = absurd (none_in y c)

some_is : {A : Type 0} (o : Option A) (x : A) → o ≡ Some x → IsSome o
some_is o x e = subst IsSome (sym e) refl

-- ---- ids of types
group_in : (n place : ℕ) (slots : List (Option Group)) (g : Group) → get_or slots place None ≡ Some g → Contains (map (λ (e : ℕ × Group). e.1) (entries_from n slots)) g
group_in n place [] g e = absurd (let no : None ≡ Some g = e in cc)
group_in n zero (None ∷ slots) g e = absurd (let no : None ≡ Some g = e in cc)
group_in n (suc place) (None ∷ slots) g e = group_in (n + 1) place slots g e
group_in n zero (Some h ∷ slots) g e = (0, omega arith, (let both : Some h ≡ Some g = e in cc))
group_in n (suc place) (Some h ∷ slots) g e = (let c = group_in (n + 1) place slots g e in (suc c.0, omega (arith, c.1), c.2))

-- a count past an id
past_more : (n id : ℕ) → n ≤ past_id n id
past_more n id = elim (cases_lt id n) as (λ _. n ≤ past_id n id) [ inl below ↦ rw (lt-ltb id n below) omega arith | inr past ↦ rw (le-ltb id n past) omega (arith, past) ]

past_this : (n id : ℕ) → id < past_id n id
past_this n id = elim (cases_lt id n) as (λ _. id < past_id n id) [ inl below ↦ rw (lt-ltb id n below) below | inr past ↦ rw (le-ltb id n past) omega arith ]

all_more : (ids : List ℕ) (n : ℕ) → n ≤ fold past_id n ids
all_more [] n = omega arith
all_more (id ∷ ids) n = (let first = past_more n id in let rest = all_more ids (past_id n id) in omega (arith, first, rest))

all_these : (ids : List ℕ) (n id : ℕ) → Contains ids id → id < fold past_id n ids
all_these [] n id c = absurd (none_in id c)
all_these (i ∷ ids) n id c = elim (cases_in i ids id c) as (λ _. id < fold past_id n (i ∷ ids)) [
  | inl e ↦ (let this = past_this n i in let rest = all_more ids (past_id n i) in omega (arith, this, rest, e))
  | inr d ↦ all_these ids (past_id n i) id d
]

groups_more : (gs : List Group) (n : ℕ) → n ≤ fold past_group n gs
groups_more [] n = omega arith
groups_more (g ∷ gs) n = (let first = all_more g.types n in let rest = groups_more gs (past_group n g) in omega (arith, first, rest))

groups_these : (gs : List Group) (n : ℕ) (g : Group) (id : ℕ) → Contains gs g → Contains g.types id → id < fold past_group n gs
groups_these [] n g id c d = absurd (none_in g c)
groups_these (h ∷ gs) n g id c d = elim (cases_in h gs g c) as (λ _. id < fold past_group n (h ∷ gs)) [
  | inl e ↦ (let this = all_these h.types n id (subst (λ (k : Group). Contains k.types id) (sym e) d) in let rest = groups_more gs (past_group n h) in omega (arith, this, rest))
  | inr rest ↦ groups_these gs (past_group n h) g id rest d
]

-- no count is past a bound of the ids
past_within : (n id bound : ℕ) → n ≤ bound → id < bound → past_id n id ≤ bound
past_within n id bound is small = elim (cases_lt id n) as (λ _. past_id n id ≤ bound) [ inl below ↦ rw (lt-ltb id n below) is | inr past ↦ rw (le-ltb id n past) omega (arith, small) ]

all_within : (ids : List ℕ) (n bound : ℕ) → n ≤ bound → ((id : ℕ) → Contains ids id → id < bound) → fold past_id n ids ≤ bound
all_within [] n bound is all = is
all_within (id ∷ ids) n bound is all = all_within ids (past_id n id) bound (past_within n id bound is (all id (first_in id ids))) (λ i c. all i (suc c.0, omega (arith, c.1), c.2))

groups_within : (gs : List Group) (n bound : ℕ) → n ≤ bound → ((g : Group) → Contains gs g → (id : ℕ) → Contains g.types id → id < bound) → fold past_group n gs ≤ bound
groups_within [] n bound is all = is
groups_within (g ∷ gs) n bound is all = groups_within gs (past_group n g) bound (all_within g.types n bound is (all g (first_in g gs))) (λ h c. all h (suc c.0, omega (arith, c.1), c.2))

group_there : (n : ℕ) (slots : List (Option Group)) (g : Group) → Contains (map (λ (e : ℕ × Group). e.1) (entries_from n slots)) g → (place : ℕ) × (get_or slots place None ≡ Some g)
group_there n [] g c = absurd (none_in g c)
group_there n (None ∷ slots) g c = (let there = group_there (n + 1) slots g c in (suc there.0, there.1))
group_there n (Some h ∷ slots) g c = elim (cases_in h (map (λ (e : ℕ × Group). e.1) (entries_from (n + 1) slots)) g c) as (λ _. (place : ℕ) × (get_or (Some h ∷ slots) place None ≡ Some g)) [
  | inl e ↦ (0, ap (λ (k : Group). Some k) e)
  | inr rest ↦ (let there = group_there (n + 1) slots g rest in (suc there.0, there.1))
]

types_within : (t : TypeTable) → AreGrouped t → (bound : ℕ) → ((id : ℕ) → IsLiveType t id → id < bound) → past_types t ≤ bound
types_within t grouped bound all = groups_within (map (λ (e : ℕ × Group). e.1) (entries_from 0 t.groups)) 0 bound (omega arith) (λ g c id member. (let there = group_there 0 t.groups g c in
    let live = grouped.live there.0 g there.1 id member in
    all id (some_is (type_at t id) live.0 live.1)))

-- the ids of live types are below what is past all groups
pub types_below : (t : TypeTable) → AreGrouped t → (n : ℕ) → n ≡ fold past_group 0 (map (λ (e : ℕ × Group). e.1) (entries_from 0 t.groups)) → (id : ℕ) → IsLiveType t id → id < n
types_below t grouped n is id live = go (type_at t id) refl live
  where
    go : (o : Option TypeItem) → type_at t id ≡ o → IsSome o → id < n
    go None e some = absurd (false≢true some)
    go (Some ty) e some =
        let in_group = grouped.listed id ty e in
        let has = in_group.1 in
        let below = groups_these (map (λ (e : ℕ × Group). e.1) (entries_from 0 t.groups)) 0 in_group.0 id (group_in 0 has.place t.groups in_group.0 has.live) has.listed in
        omega (arith, below, is)

-- one more than the last live type
pub past_highest : (t : TypeTable) → AreGrouped t → (id : ℕ) → IsHighest t id → id + 1 ≡ past_types t
past_highest t grouped id last =
    let below = types_below t grouped (past_types t) refl id last.live in
    let within = types_within t grouped (id + 1) (λ other live. (let above = last.above other live in omega (arith, above))) in
    omega (arith, below, within)

pub past_none : (t : TypeTable) → AreGrouped t → ((id : ℕ) → IsLiveType t id → ⊥) → 0 ≡ past_types t
past_none t grouped none = (let within = types_within t grouped 0 (λ id live. absurd (none id live)) in omega (arith, within))

module _ (m : Module) (grouped : AreGrouped m.types) where
  type_below : (id : ℕ) → IsLiveType m.types id → id < past_types m.types
  type_below id live = types_below m.types grouped (past_types m.types) refl id live

  looks_fit_in : (active : List (List Item)) (space : Space) (id : ℕ) (y : Item) → LooksIn m active space id y → FitsIn (counts_of m) (item space id)
  looks_fit_in active spaces.Type id y (inl c) = type_below id (named_written (type_at m.types id) y c)
  looks_fit_in active spaces.Type id y (inr (group, has, ex, c)) = (let live = grouped.live has.place group has.live id has.listed in type_below id (some_is (type_at m.types id) live.0 live.1))
  looks_fit_in active spaces.Function id y (inl c) = named_below _ m.funcs.slots id y c
  looks_fit_in active spaces.Function id y (inr h) = there_below (λ (f : Function). KindNames f.kind y) m.funcs.slots id h
  looks_fit_in active spaces.Table id y c = named_below _ m.tables.slots id y c
  looks_fit_in active spaces.Memory id y c = named_below _ m.memories.slots id y c
  looks_fit_in active spaces.Tag id y c = named_below _ m.tags.slots id y c
  looks_fit_in active spaces.Global id y c = named_below _ m.globals.slots id y c
  looks_fit_in active spaces.Element id y c = named_below _ m.elements.slots id y c
  looks_fit_in active spaces.Data id y c = named_below _ m.data_segments.slots id y c
  looks_fit_in active spaces.Local id y c = local_below local_items m.locals id y c
  looks_fit_in active spaces.Label id y h = absurd h

  pub looks_fit : (active : List (List Item)) (x y : Item) → Looks m active x y → FitsIn (counts_of m) x
  looks_fit active x y h = looks_fit_in active x.space x.id y h

  lives_fit_in : (space : Space) (id : ℕ) → LivesIn m space id → FitsIn (counts_of m) (item space id)
  lives_fit_in spaces.Type id h = type_below id (written_some (type_at m.types id) h)
  lives_fit_in spaces.Function id h = some_below m.funcs.slots id h
  lives_fit_in spaces.Table id h = some_below m.tables.slots id h
  lives_fit_in spaces.Memory id h = some_below m.memories.slots id h
  lives_fit_in spaces.Tag id h = some_below m.tags.slots id h
  lives_fit_in spaces.Global id h = some_below m.globals.slots id h
  lives_fit_in spaces.Element id h = some_below m.elements.slots id h
  lives_fit_in spaces.Data id h = some_below m.data_segments.slots id h
  lives_fit_in spaces.Local id h = h
  lives_fit_in spaces.Label id h = absurd h

  -- what lives has an id below the counts
  pub lives_fit : (x : Item) → Lives m x → FitsIn (counts_of m) x
  lives_fit x h = lives_fit_in x.space x.id h

-- the same roots in other words
module _ (P Q : Item → Type 0) (R : Item → Item → Type 0) (f : (x : Item) → P x → Q x) where
  chain_from : (x : Item) → Chain P R x → Chain Q R x
  chain_from x (root r) = root (f x r)
  chain_from y (refers {x} k r) = refers (chain_from x k) r

module _ (counts : List ℕ) (P Q : Item → Type 0) (R : Item → Item → Type 0) (same : (x : Item) → P x ↔ Q x) (s : State) (h : IsReachedIn counts P R s) where
  there : (x : Item) → Chain P R x → Chain Q R x
  there x k = chain_from P Q R (λ y p. (same y).0 p) x k

  back : (x : Item) → Chain Q R x → Chain P R x
  back x k = chain_from Q P R (λ y q. (same y).1 q) x k

  missing_same : (claimed : List (List ℕ)) (o : Option Item) → Lacks counts P R (record { item = o; claimed = claimed }) → Lacks counts Q R (record { item = o; claimed = claimed })
  missing_same claimed None fits = λ x r. fits x (back x r)
  missing_same claimed (Some i) d = (there i d.0, d.1, elim d.2 as (λ _. IsTrue (is_claimed claimed i) ⊎ ((x : Item) → Chain Q R x → IsTrue (is_claimed claimed x) → FitsIn counts x)) [ inl is ↦ inl is | inr all ↦ inr (λ x r. all x (back x r)) ])

  pub from_same : IsReachedIn counts Q R s
  from_same = record {
    marked = λ x. (λ set. (let both = (h.marked x).0 set in (there x both.0, both.1)), λ both. (h.marked x).1 (back x both.0, both.1));
    missing = missing_same s.missing.claimed s.missing.item h.missing;
  }

-- what is looked at reaches what references reach
module _ (m : Module) (active : List (List Item)) (ok : AreActive m active) (pushed : List Item) (s : State) (h : IsReachedIn (counts_of m) (Root m pushed) (Looks m active) s) where
  missing_said : (claimed : List (List ℕ)) (o : Option Item) → Lacks (counts_of m) (Root m pushed) (Looks m active) (record { item = o; claimed = claimed }) → Lacks (counts_of m) (Root m pushed) (Refers m) (record { item = o; claimed = claimed })
  missing_said claimed None fits = λ x r. fits x (reached_looked m active ok pushed x r)
  missing_said claimed (Some i) d = (
    looked_reached m active ok pushed i d.0,
    d.1,
    elim d.2 as (λ _. IsTrue (is_claimed claimed i) ⊎ ((x : Item) → IsReached m pushed x → IsTrue (is_claimed claimed x) → FitsIn (counts_of m) x)) [
      | inl is ↦ inl is
      | inr all ↦ inr (λ x r. all x (reached_looked m active ok pushed x r))
    ],
  )

  pub reaches : IsReachedIn (counts_of m) (Root m pushed) (Refers m) s
  reaches = record {
    marked = λ x. (λ set. (let both = (h.marked x).0 set in (looked_reached m active ok pushed x both.0, both.1)), λ both. (h.marked x).1 (reached_looked m active ok pushed x both.0, both.1));
    missing = missing_said s.missing.claimed s.missing.item h.missing;
  }
