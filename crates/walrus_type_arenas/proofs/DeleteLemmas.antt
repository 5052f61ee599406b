-- The table over its deletes.
use Rattle.std.proofs.Common.{◌≡◌, ◌≢◌, ◌∙◌, ℕ, zero, suc, ◌+◌, ◌<◌, Bool, true, false, not, ◌==◌, List, [], ◌∷◌, length, map, filter, take, ◌++◌, add-one, Contains, AllPairs, Option, Some, None, slice_index, slice_index_or, slice_set, refl, sym, ap, arith, ◌⊎◌, inl, inr, ⊎_elim, subst, IsSome}
use Rattle.std.specs.Option.{option_map}
use Rattle.std.proofs.lemmas.Bool.{cases_Bool, cases_eq, eqb-false, ne_eqb, not-true}
use Rattle.std.proofs.lemmas.List.{get_or-set_same, length-set, map-set}
use Rattle.std.proofs.Math.Seq.{take-suc}
use Rattle.std.proofs.lemmas.List.Kept.{AllPairs-filter}
use Rattle.walrus_type_index.proofs.walrus_forms.walrus_arena.ArenaLemmas.{live-within, at-other, at-deleted}
use Rattle.walrus_type_index.specs.walrus_items.declared.subtype.RecGroup.{RecGroup}
use Rattle.walrus_type_index.specs.walrus_items.Items.{Item, Group, item_of, group_of}
use Rattle.walrus_type_index.specs.walrus_items.declared.subtype.Type.{«Type» as TypeItem}
use Rattle.walrus_type_arenas.specs.Table.{Table, RiseBelow, IsGrouped, HasMember, Deletes, DeletesGroup, table_of, group_at, type_at, nonempty_group, without_member, clear_all}
use Rattle.walrus_type_arenas.proofs.TableLemmas.{at-map, held}

-- a group with a member is no empty one
pub nonempty-some : (explicit : Bool) (xs : List ℕ) → (xs ≡ [] → ⊥) → nonempty_group explicit xs ≡ Some (record { explicit = explicit; types = xs })
nonempty-some explicit [] some = absurd (some refl)
nonempty-some explicit (x ∷ xs) some = refl

-- what is left of a group
pub left-of : (id : ℕ) (old new : RecGroup) (group : Group) (slot : Option RecGroup) → slot ≡ Some old → option_map group_of slot ≡ Some group
    → new.types.items ≡ filter (λ member. not (member == id)) old.types.items → new.explicit ≡ old.explicit
    → without_member id group ≡ nonempty_group new.explicit new.types.items
left-of id old new group slot is seen members same =
    let there : Some (group_of old) ≡ Some group = ap (option_map group_of) (sym is) ∙ seen in
    let e : group ≡ group_of old = cc in
    ap (without_member id) e ∙ ap (λ (b : Bool). nonempty_group b (filter (λ member. not (member == id)) old.types.items)) (sym same)
    ∙ ap (λ (xs : List ℕ). nonempty_group new.explicit xs) (sym members)

-- an element is the first one or a later one
pub cons-cases : (y : ℕ) (ys : List ℕ) (x : ℕ) → Contains (y ∷ ys) x → (y ≡ x) ⊎ Contains ys x
cons-cases y ys x (zero, less, at) = inl at
cons-cases y ys x (suc k, less, at) = inr (k, omega arith, at)

pub cons-here : (y : ℕ) (ys : List ℕ) (x : ℕ) → y ≡ x → Contains (y ∷ ys) x
cons-here y ys x is = (0, omega arith, is)

pub cons-later : (y : ℕ) (ys : List ℕ) (x : ℕ) → Contains ys x → Contains (y ∷ ys) x
cons-later y ys x (k, less, at) = (suc k, omega arith, at)

filter-keeps : (p : ℕ → Bool) (y : ℕ) (ys : List ℕ) → p y ≡ true → filter p (y ∷ ys) ≡ y ∷ filter p ys
filter-keeps p y ys passes = rw passes refl

filter-skips : (p : ℕ → Bool) (y : ℕ) (ys : List ℕ) → p y ≡ false → filter p (y ∷ ys) ≡ filter p ys
filter-skips p y ys fails = rw fails refl

-- a filter's elements are elements that pass
pub contains-filter : (p : ℕ → Bool) (xs : List ℕ) (x : ℕ) → Contains (filter p xs) x → Contains xs x × (p x ≡ true)
contains-filter p [] x (k, less, at) = absurd (omega arith)
contains-filter p (y ∷ ys) x in_it =
    ⊎_elim
    (λ passes.
    let kept = subst (λ (zs : List ℕ). Contains zs x) (filter-keeps p y ys passes) in_it in
    ⊎_elim
    (λ is. (cons-here y ys x is, ap p (sym is) ∙ passes))
    (λ later. let h = contains-filter p ys x later in (cons-later y ys x h.0, h.1))
    (cons-cases y (filter p ys) x kept))
    (λ fails.
    let h = contains-filter p ys x (subst (λ (zs : List ℕ). Contains zs x) (filter-skips p y ys fails) in_it) in
    (cons-later y ys x h.0, h.1))
    (cases_Bool (p y))

-- an element that passes is left
pub filter-contains : (p : ℕ → Bool) (xs : List ℕ) (x : ℕ) → Contains xs x → p x ≡ true → Contains (filter p xs) x
filter-contains p [] x (k, less, at) ok = absurd (omega arith)
filter-contains p (y ∷ ys) x in_it ok =
    ⊎_elim
    (λ is.
    let passes : p y ≡ true = ap p is ∙ ok in
    subst (λ (zs : List ℕ). Contains zs x) (sym (filter-keeps p y ys passes)) (cons-here y (filter p ys) x is))
    (λ later.
    let h = filter-contains p ys x later ok in
    ⊎_elim
    (λ passes. subst (λ (zs : List ℕ). Contains zs x) (sym (filter-keeps p y ys passes)) (cons-later y (filter p ys) x h))
    (λ fails. subst (λ (zs : List ℕ). Contains zs x) (sym (filter-skips p y ys fails)) h)
    (cases_Bool (p y)))
    (cons-cases y ys x in_it)

-- what is left of a group has the members that aren't deleted
left-types : (explicit : Bool) (xs : List ℕ) (h : Group) → nonempty_group explicit xs ≡ Some h → h.types ≡ xs
left-types explicit [] h is = absurd cc
left-types explicit (x ∷ xs) h is =
    let e : record { explicit = explicit; types = x ∷ xs } ≡ h = cc in ap (λ (g : Group). g.types) (sym e)

pub nothing : (x : ℕ) → Contains [] x → ⊥
nothing x (k, less, at) = omega arith

other-passes : (id other : ℕ) → other ≢ id → not (other == id) ≡ true
other-passes id other apart = ap not (ne_eqb other id apart)

passes-other : (id other : ℕ) → not (other == id) ≡ true → other ≢ id
passes-other id other ok = eqb-false other id (not-true (other == id) ok)

-- a type leaves the table and its group
pub grouped-deleted : (types : List (Option Item)) (groups : List (Option Group)) (homes : List ℕ) (id home : ℕ) (group : Group)
    → IsGrouped types groups homes → slice_index homes id ≡ home → slice_index_or groups home None ≡ Some group
    → IsGrouped (slice_set types id None) (slice_set groups home (without_member id group)) homes
grouped-deleted types groups homes id home group g at_home is_group =
    let left : List ℕ = filter (λ member. not (member == id)) group.types in
    let within = live-within groups home group is_group in
    record {
      sized = g.sized ∙ sym (length-set types id None);
      listed = λ other item at.
          let old = at-deleted types id other item at in
          let h = g.listed other item old.0 in
          ⊎_elim
          (λ same.
          let there : slice_index_or groups home None ≡ Some h.0 = ap (λ (i : ℕ). slice_index_or groups i None) (sym same) ∙ h.1 in
          let is : h.0 ≡ group = cc in
          let member = filter-contains (λ m. not (m == id)) group.types other (subst (λ (x : Group). Contains x.types other) is h.2) (other-passes id other old.1) in
          let some = nonempty-some group.explicit left (λ e. nothing other (subst (λ (zs : List ℕ). Contains zs other) e member)) in
          let here : slice_index_or (slice_set groups home (without_member id group)) (slice_index homes other) None ≡ Some (record { explicit = group.explicit; types = left }) =
          ap (λ (i : ℕ). slice_index_or (slice_set groups home (without_member id group)) i None) same
          ∙ get_or-set_same groups home (without_member id group) None within ∙ some in
          (record { explicit = group.explicit; types = left }, here, member))
          (λ apart. (h.0, at-other groups (without_member id group) home (slice_index homes other) apart ∙ h.1, h.2))
          (cases_eq (slice_index homes other) home);
      member = λ place h at other in_it. ⊎_elim
          (λ same.
          let is : without_member id group ≡ Some h =
          sym (get_or-set_same groups home (without_member id group) None within)
          ∙ ap (λ (i : ℕ). slice_index_or (slice_set groups home (without_member id group)) i None) (sym same) ∙ at in
          let members = left-types group.explicit left h is in
          let was = contains-filter (λ m. not (m == id)) group.types other (subst (λ (zs : List ℕ). Contains zs other) members in_it) in
          let m = g.member home group is_group other was.0 in
          (m.0, at-other types None id other (passes-other id other was.1) ∙ m.1, m.2 ∙ sym same))
          (λ apart.
          let old : slice_index_or groups place None ≡ Some h = sym (at-other groups (without_member id group) home place apart) ∙ at in
          let m = g.member place h old other in_it in
          let differs : other ≢ id = λ e. apart (sym m.2 ∙ ap (λ (i : ℕ). slice_index homes i) e ∙ at_home) in
          (m.0, at-other types None id other differs ∙ m.1, m.2))
          (cases_eq place home);
      once = λ place h at. ⊎_elim
          (λ same.
          let is : without_member id group ≡ Some h =
          sym (get_or-set_same groups home (without_member id group) None within)
          ∙ ap (λ (i : ℕ). slice_index_or (slice_set groups home (without_member id group)) i None) (sym same) ∙ at in
          subst (λ (zs : List ℕ). AllPairs (λ x y. x ≢ y) zs) (sym (left-types group.explicit left h is))
          (AllPairs-filter (λ x y. x ≢ y) (λ m. not (m == id)) group.types (g.once home group is_group)))
          (λ apart. g.once place h (sym (at-other groups (without_member id group) home place apart) ∙ at))
          (cases_eq place home);
      homes_rise = subst (λ (n : ℕ). RiseBelow n homes) (sym (length-set groups home (without_member id group))) g.homes_rise;
    }

-- deleting all of a list's ids leaves the others
pub length-clear_all : (ids : List ℕ) (types : List (Option Item)) → length (clear_all ids types) ≡ length types
length-clear_all [] types = refl
length-clear_all (id ∷ ids) types = length-clear_all ids (slice_set types id None) ∙ length-set types id None

pub at-cleared : (ids : List ℕ) (types : List (Option Item)) (i : ℕ) (item : Item) → slice_index_or (clear_all ids types) i None ≡ Some item
    → (slice_index_or types i None ≡ Some item) × (Contains ids i → ⊥)
at-cleared [] types i item at = (at, nothing i)
at-cleared (id ∷ ids) types i item at =
    let later = at-cleared ids (slice_set types id None) i item at in
    let here = at-deleted types id i item later.0 in
    (here.0, λ in_it. ⊎_elim (λ is. here.1 (sym is)) later.1 (cons-cases id ids i in_it))

pub cleared-at : (ids : List ℕ) (types : List (Option Item)) (i : ℕ) → (Contains ids i → ⊥) → slice_index_or (clear_all ids types) i None ≡ slice_index_or types i None
cleared-at [] types i none = refl
cleared-at (id ∷ ids) types i none =
    cleared-at ids (slice_set types id None) i (λ later. none (cons-later id ids i later))
    ∙ at-other types None id i (λ is. none (cons-here id ids i (sym is)))

pub clear_all-append : (xs ys : List ℕ) (types : List (Option Item)) → clear_all (xs ++ ys) types ≡ clear_all ys (clear_all xs types)
clear_all-append [] ys types = refl
clear_all-append (x ∷ xs) ys types = clear_all-append xs ys (slice_set types x None)

-- a step of a loop that deletes each of a list's ids
pub clear_all-more : (ids : List ℕ) (i : ℕ) (id : ℕ) (types now : List (Option Item)) → i < length ids → id ≡ slice_index_or ids i id
    → now ≡ clear_all (take i ids) types → slice_set now id None ≡ clear_all (take (i + 1) ids) types
clear_all-more ids i id types now less is before =
    ap (λ (ts : List (Option Item)). slice_set ts id None) before
    ∙ ap (λ (d : ℕ). slice_set (clear_all (take i ids) types) d None) is
    ∙ sym (clear_all-append (take i ids) (slice_index_or ids i id ∷ []) types)
    ∙ ap (λ (xs : List ℕ). clear_all xs types) (sym (ap (λ (n : ℕ). take n ids) (add-one i) ∙ take-suc ids i id less))

-- a group leaves the table with its members
pub grouped-cleared : (types : List (Option Item)) (groups : List (Option Group)) (homes : List ℕ) (home : ℕ) (group : Group)
    → IsGrouped types groups homes → slice_index_or groups home None ≡ Some group
    → IsGrouped (clear_all group.types types) (slice_set groups home None) homes
grouped-cleared types groups homes home group g is_group = record {
  sized = g.sized ∙ sym (length-clear_all group.types types);
  listed = λ other item at.
      let old = at-cleared group.types types other item at in
      let h = g.listed other item old.0 in
      let apart : slice_index homes other ≢ home = λ same.
      let there : slice_index_or groups home None ≡ Some h.0 = ap (λ (i : ℕ). slice_index_or groups i None) (sym same) ∙ h.1 in
      let is : h.0 ≡ group = cc in
      old.1 (subst (λ (x : Group). Contains x.types other) is h.2) in
      (h.0, at-other groups None home (slice_index homes other) apart ∙ h.1, h.2);
  member = λ place h at other in_it.
      let old = at-deleted groups home place h at in
      let m = g.member place h old.0 other in_it in
      let kept = cleared-at group.types types other (λ doomed. let d = g.member home group is_group other doomed in old.1 (sym m.2 ∙ d.2)) in
      (m.0, kept ∙ m.1, m.2);
  once = λ place h at. g.once place h (at-deleted groups home place h at).0;
  homes_rise = subst (λ (n : ℕ). RiseBelow n homes) (sym (length-set groups home None)) g.homes_rise;
}

-- a type's home is the one group that lists it
pub one-home : (types : List (Option Item)) (groups : List (Option Group)) (homes : List ℕ) (place : ℕ) (group : Group) (id : ℕ)
    → IsGrouped types groups homes → slice_index_or groups place None ≡ Some group → Contains group.types id
    → slice_index homes id ≡ place
one-home types groups homes place group id g at in_it = (g.member place group at id in_it).2

-- a slot that shows something holds something
shown-held : {X Y : Type 0} (f : X → Y) (o : Option X) (y : Y) → option_map f o ≡ Some y → IsSome o
shown-held f None y is = absurd cc
shown-held f (Some x) y is = refl

module _ (types : List (Option TypeItem)) (groups : List (Option RecGroup)) (homes : List ℕ)
    (g : IsGrouped (map (option_map item_of) types) (map (option_map group_of) groups) homes) where
  -- the home of a live type, as the table sees it
  home-shown : (id home : ℕ) → slice_index homes id ≡ home → IsSome (slice_index_or types id None)
      → (group : Group) × (slice_index_or (map (option_map group_of) groups) home None ≡ Some group) × Contains group.types id
  home-shown id home at_home live =
      let h = held (slice_index_or types id None) live in
      let listed = g.listed id (item_of h.0) (at-map item_of types id ∙ ap (option_map item_of) h.1) in
      (listed.0, ap (λ (i : ℕ). slice_index_or (map (option_map group_of) groups) i None) (sym at_home) ∙ listed.1, listed.2)

  -- the home of a live type lives
  pub home-live : (id home : ℕ) → slice_index homes id ≡ home → IsSome (slice_index_or types id None) → IsSome (slice_index_or groups home None)
  home-live id home at_home live =
      let h = home-shown id home at_home live in
      shown-held group_of (slice_index_or groups home None) h.0 (sym (at-map group_of groups home) ∙ h.1)

  -- the homes of live types are known
  pub home-within : (id : ℕ) → IsSome (slice_index_or types id None) → id < length homes
  home-within id live =
      let h = held (slice_index_or types id None) live in
      let less = live-within (map (option_map item_of) types) id (item_of h.0) (at-map item_of types id ∙ ap (option_map item_of) h.1) in
      omega (arith, g.sized)

  -- a group that lists a type is its home
  home-is : (id home place : ℕ) (group : Group) (t : Table) → table_of types groups ≡ t → slice_index homes id ≡ home
      → group_at t place ≡ Some group → Contains group.types id → home ≡ place
  home-is id home place group t view at_home at in_it =
      let there : slice_index_or (map (option_map group_of) groups) place None ≡ Some group = ap (λ (u : Table). group_at u place) view ∙ at in
      sym at_home ∙ one-home (map (option_map item_of) types) (map (option_map group_of) groups) homes place group id g there in_it

  shown-at : (home place : ℕ) (group : Group) (t : Table) → table_of types groups ≡ t → home ≡ place → group_at t place ≡ Some group
      → option_map group_of (slice_index_or groups home None) ≡ Some group
  shown-at home place group t view is at =
      sym (at-map group_of groups home)
      ∙ ap (λ (i : ℕ). slice_index_or (map (option_map group_of) groups) i None) is
      ∙ ap (λ (u : Table). group_at u place) view ∙ at

  -- a type is deleted
  pub deletes : (after : List (Option RecGroup)) (id home : ℕ) (t : Table) → table_of types groups ≡ t → slice_index homes id ≡ home
      → ((group : Group) → option_map group_of (slice_index_or groups home None) ≡ Some group
      → map (option_map group_of) after ≡ slice_set (map (option_map group_of) groups) home (without_member id group))
      → Deletes id t (table_of (slice_set types id None) after)
  deletes after id home t view at_home left = record {
    types = map-set (option_map item_of) types id None ∙ ap (λ (u : Table). slice_set u.types id None) view;
    groups = λ place group at in_it.
        let is = home-is id home place group t view at_home at in_it in
        left group (shown-at home place group t view is at)
        ∙ ap (λ (u : Table). slice_set u.groups home (without_member id group)) view
        ∙ ap (λ (i : ℕ). slice_set t.groups i (without_member id group)) is;
  }

  pub deletes-grouped : (after : List (Option RecGroup)) (id home : ℕ) → slice_index homes id ≡ home → IsSome (slice_index_or types id None)
      → ((group : Group) → option_map group_of (slice_index_or groups home None) ≡ Some group
      → map (option_map group_of) after ≡ slice_set (map (option_map group_of) groups) home (without_member id group))
      → IsGrouped (map (option_map item_of) (slice_set types id None)) (map (option_map group_of) after) homes
  deletes-grouped after id home at_home live left =
      let h = home-shown id home at_home live in
      rw (map-set, left h.0 (sym (at-map group_of groups home) ∙ h.1))
      (grouped-deleted (map (option_map item_of) types) (map (option_map group_of) groups) homes id home h.0 g at_home h.1)

  -- a group is deleted with its members
  pub deletes-group : (after : List (Option TypeItem)) (id home : ℕ) (t : Table) (was : RecGroup) → table_of types groups ≡ t → slice_index homes id ≡ home
      → slice_index_or groups home None ≡ Some was
      → map (option_map item_of) after ≡ clear_all was.types.items (map (option_map item_of) types)
      → DeletesGroup id t (table_of after (slice_set groups home None))
  deletes-group after id home t was view at_home is_was cleared = λ place group at in_it.
      let is = home-is id home place group t view at_home at in_it in
      let shown : Some (group_of was) ≡ Some group = ap (option_map group_of) (sym is_was) ∙ shown-at home place group t view is at in
      let same : group_of was ≡ group = cc in
      let new_types : map (option_map item_of) after ≡ clear_all group.types t.types =
      cleared ∙ ap (λ (x : Group). clear_all x.types (map (option_map item_of) types)) same ∙ ap (λ (u : Table). clear_all group.types u.types) view in
      let new_groups : map (option_map group_of) (slice_set groups home None) ≡ slice_set t.groups place None =
      map-set (option_map group_of) groups home None ∙ ap (λ (u : Table). slice_set u.groups home None) view ∙ ap (λ (i : ℕ). slice_set t.groups i None) is in
      ap (λ (ts : List (Option Item)). let u : Table = record { types = ts; groups = map (option_map group_of) (slice_set groups home None) } in u) new_types
      ∙ ap (λ (gs : List (Option Group)). let u : Table = record { types = clear_all group.types t.types; groups = gs } in u) new_groups

  pub deletes-group-grouped : (after : List (Option TypeItem)) (home : ℕ) (was : RecGroup)
      → slice_index_or groups home None ≡ Some was
      → map (option_map item_of) after ≡ clear_all was.types.items (map (option_map item_of) types)
      → IsGrouped (map (option_map item_of) after) (map (option_map group_of) (slice_set groups home None)) homes
  deletes-group-grouped after home was is_was cleared =
      rw (map-set, cleared)
      (grouped-cleared (map (option_map item_of) types) (map (option_map group_of) groups) homes home (group_of was) g
      (at-map group_of groups home ∙ ap (option_map group_of) is_was))

  -- two groups that list a type are one
  pub one-group : (t : Table) (id place : ℕ) (mine group : Group) → table_of types groups ≡ t → HasMember t id mine
      → group_at t place ≡ Some group → Contains group.types id → mine ≡ group
  one-group t id place mine group view has at in_it =
      let a = home-is id (slice_index homes id) has.place mine t view refl has.live has.listed in
      let b = home-is id (slice_index homes id) place group t view refl at in_it in
      let there : group_at t place ≡ Some mine = ap (λ (i : ℕ). group_at t i) (sym b ∙ a) ∙ has.live in
      cc

  -- a type in a group lives
  pub member-live : (t : Table) (id place : ℕ) (group : Group) → table_of types groups ≡ t
      → group_at t place ≡ Some group → Contains group.types id → (item : Item) × (type_at t id ≡ Some item)
  member-live t id place group view at in_it =
      let m = g.member place group (ap (λ (u : Table). group_at u place) view ∙ at) id in_it in
      (m.0, ap (λ (u : Table). type_at u id) (sym view) ∙ m.1)

-- a live type of a table lives inside
pub live-inside : (types : List (Option TypeItem)) (groups : List (Option RecGroup)) (t : Table) (id : ℕ) → table_of types groups ≡ t
    → IsSome (type_at t id) → IsSome (slice_index_or types id None)
live-inside types groups t id view live =
    let h = held (type_at t id) live in
    shown-held item_of (slice_index_or types id None) h.0 (sym (at-map item_of types id) ∙ ap (λ (u : Table). type_at u id) view ∙ h.1)
