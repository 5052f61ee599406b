-- What deletes and names leave of a table.
use Rattle.std.proofs.Common.{◌≡◌, ◌∙◌, ℕ, zero, suc, ◌<◌, ◌⊎◌, inl, inr, Bool, true, false, not, ◌==◌, ◌&&◌, Contains, List, [], ◌∷◌, length, filter, Option, Some, None, IsSome, if◌then◌else◌, refl, sym, ap, subst, arith}
use Rattle.std.specs.Prelude.{slice_index_or, slice_set, is_some}
use Rattle.std.specs.List.{slice_get}
use Rattle.std.specs.Option.{option_and_then}
use Rattle.std.proofs.Math.ListN.{get_or-map}
use Rattle.std.proofs.lemmas.Bool.{false≢true, cases_eq, cases_Bool, eq-eqb}
use Rattle.std.proofs.lemmas.List.{get_or-set_same}
use Rattle.std.proofs.lemmas.Option.{same_Some, none-some}
use Rattle.walrus_arena.proofs.ArenaLemmas.{live-within, at-deleted, at-other}
use Rattle.walrus_forms.specs.Kinds.{Kind}
use Rattle.walrus_forms.specs.Same.{same_kind}
use Rattle.walrus_types.specs.Items.{Item, Group}
use Rattle.walrus_types.specs.Table.{Table, type_at, group_at, IsLive, names_itself, merges, HasMember, nonempty_group, without_member, with_live, clear_all, Deletes, DeletesGroup, DeletesAll}
use Rattle.walrus_types.specs.TypeLaws.{AreGrouped}
use Rattle.walrus_types.specs.Merged.{single_group, TypesHaveOwnIds}
use Rattle.walrus_types.proofs.DeleteLemmas.{contains-filter, at-cleared}
use Rattle.walrus_types.proofs.Places.{contains_has}
use Rattle.walrus_types.proofs.SweepLemmas.{was-there, member-there}
use Rattle.walrus_type_laws.specs.Edits.{IsSettled}

-- the types of u are some of t's, but for their names
abbrev pub SomeTypes : Table → Table → Type 0
SomeTypes t u = (i : ℕ) (item : Item) → type_at u i ≡ Some item → (x : Item) × (type_at t i ≡ Some x) × (x.kind ≡ item.kind) × (x.id ≡ item.id)

-- so, and its groups are some of t's, but for marked ones without entry types
pub record Shrinks (t u : Table) : Type 0 where
  pub types : SomeTypes t u
  pub groups : (q : ℕ) (g : Group) → group_at u q ≡ Some g
      → (group_at t q ≡ Some g) ⊎ ((g.explicit ≡ true) × ((i : ℕ) (item : Item) → Contains g.types i → type_at u i ≡ Some item → item.kind.entry ≡ true → ⊥))

pub types_own : (t u : Table) → SomeTypes t u → TypesHaveOwnIds t → TypesHaveOwnIds u
types_own t u types own = λ id item is. let x = types id item is in sym x.3 ∙ own id x.0 x.1

pub shrinks_settled : (t u : Table) → Shrinks t u → IsSettled t → IsSettled u
shrinks_settled t u shrinks settled = record {
  merged = record {
    apart = λ place a b x y is is_b apart less is_a.
        let old_x = shrinks.types a x is_a in
        let old_y = shrinks.types b y is_b in
        elim (shrinks.groups place (single_group b) is) as (λ _. merges y.kind (a, x) ≡ false) [
          | inl old ↦
              ap (λ (k : Kind). same_kind x.kind k && not (names_itself a x.kind)) (sym old_y.2)
              ∙ ap (λ (k : Kind). same_kind k (old_y.0).kind && not (names_itself a k)) (sym old_x.2)
              ∙ settled.merged.apart place a b old_x.0 old_y.0 old old_y.1 (ap (λ (k : Kind). names_itself b k) old_y.2 ∙ apart) less old_x.1
          | inr cut ↦ absurd (false≢true cut.0)
        ];
    entries = λ place g is id item c is_id entry.
        let old_item = shrinks.types id item is_id in
        elim (shrinks.groups place g is) as (λ _. g.types ≡ id ∷ []) [
          | inl old ↦ settled.merged.entries place g old id old_item.0 c old_item.1 (ap (λ (k : Kind). k.entry) old_item.2 ∙ entry)
          | inr cut ↦ absurd (cut.1 id item c is_id entry)
        ];
  };
  single = λ place g is unmarked. elim (shrinks.groups place g is) as (λ _. length g.types ≡ 1) [
    | inl old ↦ settled.single place g old unmarked
    | inr cut ↦ absurd (false≢true (sym unmarked ∙ cut.0))
  ];
}

first_is : (i x k : ℕ) → slice_get (i ∷ []) k ≡ Some x → i ≡ x
first_is i x zero is = same_Some i x is
first_is i x (suc k) is = absurd (none-some x is)

one_left : (i x : ℕ) → Contains (i ∷ []) x → i ≡ x
one_left i x c = let h = contains_has (i ∷ []) x c in first_is i x h.0 h.1

of_nonempty : (explicit : Bool) (ids : List ℕ) (g : Group) → nonempty_group explicit ids ≡ Some g → (g ≡ record { explicit = explicit; types = ids }) × (0 < length ids)
of_nonempty explicit [] g is = absurd (none-some g is)
of_nonempty explicit (id ∷ ids) g is = (sym (same_Some (record { explicit = explicit; types = id ∷ ids }) g is), omega arith)

one_id : (ids : List ℕ) (id : ℕ) → length ids ≡ 1 → Contains ids id → ids ≡ id ∷ []
one_id [] id one c = absurd (omega (arith, one))
one_id (x ∷ []) id one c = ap (λ (y : ℕ). y ∷ []) (one_left x id c)
one_id (x ∷ y ∷ ids) id one c = absurd (omega (arith, one))

abbrev other_than : ℕ → ℕ → Bool
other_than id member = not (member == id)

itself_goes : (id : ℕ) → other_than id id ≡ false
itself_goes id = ap not (eq-eqb id id refl)

none_left : (ids : List ℕ) (id : ℕ) → length ids ≡ 1 → Contains ids id → filter (other_than id) ids ≡ []
none_left ids id one c =
    ap (λ (xs : List ℕ). filter (other_than id) xs) (one_id ids id one c) ∙ ap (λ (b : Bool). if b then id ∷ [] else []) (itself_goes id)

live_item : (t : Table) (id : ℕ) → IsLive t id → (item : Item) × (type_at t id ≡ Some item)
live_item t id live = elim (type_at t id) as (λ o. IsSome o → (item : Item) × (o ≡ Some item)) [
  | None ↦ λ h. absurd (false≢true h)
  | Some item ↦ λ h. (item, refl)
] live

pub deletes_types : (t u : Table) (id : ℕ) → Deletes id t u → SomeTypes t u
deletes_types t u id deletes i item is = (item, (at-deleted t.types id i item (ap (λ (xs : List (Option Item)). slice_index_or xs i None) (sym deletes.types) ∙ is)).0, refl, refl)

-- the group of a live type
home_of : (t : Table) → AreGrouped t → (id : ℕ) → IsLive t id → (group : Group) × HasMember t id group
home_of t grouped id live = let item = live_item t id live in grouped.listed id item.0 item.1

group_gone : (t u : Table) (id : ℕ) (group : Group) (h : HasMember t id group) → DeletesGroup id t u → u ≡ record { types = clear_all group.types t.types; groups = slice_set t.groups h.place None }
group_gone t u id group h deletes = deletes h.place group h.live h.listed

pub deletes_group_types : (t u : Table) → AreGrouped t → (id : ℕ) → IsLive t id → DeletesGroup id t u → SomeTypes t u
deletes_group_types t u grouped id live deletes i item at_i =
    let h = home_of t grouped id live in
    let is = group_gone t u id h.0 h.1 deletes in
    (item, (at-cleared (h.0).types t.types i item (ap (λ (w : Table). type_at w i) (sym is) ∙ at_i)).0, refl, refl)

pub deletes_group_shrinks : (t u : Table) → AreGrouped t → (id : ℕ) → IsLive t id → DeletesGroup id t u → Shrinks t u
deletes_group_shrinks t u grouped id live deletes =
    let h = home_of t grouped id live in
    let is = group_gone t u id h.0 h.1 deletes in
    record {
      types = deletes_group_types t u grouped id live deletes;
      groups = λ q g at_q. inl (at-deleted t.groups (h.1).place q g (ap (λ (w : Table). group_at w q) (sym is) ∙ at_q)).0;
    }

module _ (t u : Table) (grouped : AreGrouped t) (settled : IsSettled t) (id : ℕ) (live : IsLive t id) where
  pub deletes_shrinks : Deletes id t u → Shrinks t u
  deletes_shrinks deletes =
      let h = home_of t grouped id live in
      let group : Group = h.0 in
      let place : ℕ = (h.1).place in
      let at_place : group_at t place ≡ Some group = (h.1).live in
      let listed : Contains group.types id = (h.1).listed in
      let left : Option Group = without_member id group in
      let groups : u.groups ≡ slice_set t.groups place left = deletes.groups place group at_place listed in
      let old_live : (i : ℕ) (item : Item) → type_at u i ≡ Some item → type_at t i ≡ Some item =
      λ i item is. (at-deleted t.types id i item (ap (λ (xs : List (Option Item)). slice_index_or xs i None) (sym deletes.types) ∙ is)).0 in
      record {
        types = deletes_types t u id deletes;
        groups = λ q g is.
            let slot : slice_index_or (slice_set t.groups place left) q None ≡ Some g = ap (λ (gs : List (Option Group)). slice_index_or gs q None) (sym groups) ∙ is in
            elim (cases_eq q place) as (λ _. (group_at t q ≡ Some g) ⊎ ((g.explicit ≡ true) × ((i : ℕ) (item : Item) → Contains g.types i → type_at u i ≡ Some item → item.kind.entry ≡ true → ⊥))) [
              | inl same ↦
                  let there : left ≡ Some g =
                  sym (get_or-set_same t.groups place left None (live-within t.groups place group at_place)) ∙ ap (λ (n : ℕ). slice_index_or (slice_set t.groups place left) n None) (sym same) ∙ slot in
                  let made = of_nonempty group.explicit (filter (other_than id) group.types) g there in
                  let marked : g.explicit ≡ group.explicit = ap (λ (w : Group). w.explicit) made.0 in
                  elim (cases_Bool group.explicit) as (λ _. (group_at t q ≡ Some g) ⊎ ((g.explicit ≡ true) × ((i : ℕ) (item : Item) → Contains g.types i → type_at u i ≡ Some item → item.kind.entry ≡ true → ⊥))) [
                    | inl yes_marked ↦ inr (
                      marked ∙ yes_marked,
                      λ i item c is_i entry.
                          let kept = contains-filter (other_than id) group.types i (subst (λ (w : Group). Contains w.types i) made.0 c) in
                          let alone : group.types ≡ i ∷ [] = settled.merged.entries place group at_place i item kept.0 (old_live i item is_i) entry in
                          let itself : i ≡ id = one_left i id (subst (λ (xs : List ℕ). Contains xs id) alone listed) in
                          false≢true (sym (itself_goes id) ∙ ap (λ (n : ℕ). other_than id n) (sym itself) ∙ kept.1),
                    )
                    | inr unmarked ↦
                        let none = none_left group.types id (settled.single place group at_place unmarked) listed in
                        absurd (omega (arith, ap (λ (xs : List ℕ). length xs) none, made.1))
                  ]
              | inr apart ↦ inl (sym (at-other t.groups left place q apart) ∙ slot)
            ];
      }

-- types that are deleted together
abbrev lives : Table → ℕ → Bool
lives t id = is_some (type_at t id)

kept_head : (b : Bool) (x : ℕ) (xs : List ℕ) → b ≡ true → (if b then x ∷ xs else xs) ≡ x ∷ xs
kept_head true x xs e = refl
kept_head false x xs e = absurd (false≢true e)

-- all pass, or one doesn't
all_or_one : (p : ℕ → Bool) (xs : List ℕ) → (filter p xs ≡ xs) ⊎ ((j : ℕ) × Contains xs j × (p j ≡ false))
all_or_one p [] = inl refl
all_or_one p (x ∷ xs) = elim (cases_Bool (p x)) as (λ _. (filter p (x ∷ xs) ≡ x ∷ xs) ⊎ ((j : ℕ) × Contains (x ∷ xs) j × (p j ≡ false))) [
  | inl passes ↦ elim (all_or_one p xs) as (λ _. (filter p (x ∷ xs) ≡ x ∷ xs) ⊎ ((j : ℕ) × Contains (x ∷ xs) j × (p j ≡ false))) [
    | inl all ↦ inl (kept_head (p x) x (filter p xs) passes ∙ ap (λ (ys : List ℕ). x ∷ ys) all)
    | inr one ↦ inr (one.0, (suc (one.1).0, omega (arith, (one.1).1), (one.1).2), one.2)
  ]
  | inr fails ↦ inr (x, (0, omega arith, refl), fails)
]

pub deletes_these_types : (t u : Table) (ids : List ℕ) → DeletesAll ids t u → SomeTypes t u
deletes_these_types t u ids gone i item is =
    (item, (at-cleared ids t.types i item (ap (λ (xs : List (Option Item)). slice_index_or xs i None) (sym gone.types) ∙ is)).0, refl, refl)

-- a group of which a type goes is marked, and has no entry type among those that are left
pub deletes_these_shrinks : (t u : Table) → IsSettled t → (ids : List ℕ) → DeletesAll ids t u → Shrinks t u
deletes_these_shrinks t u settled ids gone = record {
  types = deletes_these_types t u ids gone;
  groups = λ q g at_q.
      let slot : option_and_then (with_live u.types) (group_at t q) ≡ Some g =
      sym (get_or-map (option_and_then (with_live u.types)) t.groups q None) ∙ ap (λ (gs : List (Option Group)). slice_index_or gs q None) (sym gone.groups) ∙ at_q in
      let was = was-there u.types (group_at t q) g slot in
      let before : Group = was.0 in
      let left : (i : ℕ) → Contains g.types i → Contains before.types i × (lives u i ≡ true) =
      λ i c. contains-filter (lives u) before.types i (subst (λ (w : Group). Contains w.types i) was.2 c) in
      elim (all_or_one (lives u) before.types) as (λ _. (group_at t q ≡ Some g) ⊎ ((g.explicit ≡ true) × ((i : ℕ) (item : Item) → Contains g.types i → type_at u i ≡ Some item → item.kind.entry ≡ true → ⊥))) [
        | inl all ↦ inl (was.1 ∙ ap Some (sym (was.2 ∙ ap (λ (types : List ℕ). let w : Group = record { explicit = before.explicit; types = types } in w) all)))
        | inr dead ↦ elim (cases_Bool before.explicit) as (λ _. (group_at t q ≡ Some g) ⊎ ((g.explicit ≡ true) × ((i : ℕ) (item : Item) → Contains g.types i → type_at u i ≡ Some item → item.kind.entry ≡ true → ⊥))) [
          | inl marked ↦ inr (
            ap (λ (w : Group). w.explicit) was.2 ∙ marked,
            λ i item c is_i entry.
                let kept = left i c in
                let old = deletes_these_types t u ids gone i item is_i in
                let alone : before.types ≡ i ∷ [] = settled.merged.entries q before was.1 i old.0 kept.0 old.1 (ap (λ (k : Kind). k.entry) old.2 ∙ entry) in
                let itself : i ≡ dead.0 = one_left i dead.0 (subst (λ (xs : List ℕ). Contains xs dead.0) alone dead.1) in
                false≢true (sym dead.2 ∙ ap (lives u) (sym itself) ∙ kept.1),
          )
          | inr unmarked ↦
              let alone : before.types ≡ dead.0 ∷ [] = one_id before.types dead.0 (settled.single q before was.1 unmarked) dead.1 in
              let one = member-there u.types (group_at t q) g slot in
              let kept = left one.0 one.1 in
              let itself : dead.0 ≡ one.0 = one_left dead.0 one.0 (subst (λ (xs : List ℕ). Contains xs one.0) alone kept.0) in
              absurd (false≢true (sym dead.2 ∙ ap (lives u) itself ∙ kept.1))
        ]
      ];
}

-- a name that is written
pub names_shrinks : (t u : Table) (id : ℕ) (x y : Item) → type_at t id ≡ Some x → y.id ≡ x.id → y.kind ≡ x.kind → u ≡ record t { types = slice_set t.types id (Some y) } → Shrinks t u
names_shrinks t u id x y live same_id same_kinds is = record {
  types = λ i item at_i.
      let slot : slice_index_or (slice_set t.types id (Some y)) i None ≡ Some item = ap (λ (w : Table). type_at w i) (sym is) ∙ at_i in
      elim (cases_eq i id) as (λ _. (x : Item) × (type_at t i ≡ Some x) × (x.kind ≡ item.kind) × (x.id ≡ item.id)) [
        | inl same ↦
            let written : y ≡ item =
            same_Some y item (sym (get_or-set_same t.types id (Some y) None (live-within t.types id x live)) ∙ ap (λ (n : ℕ). slice_index_or (slice_set t.types id (Some y)) n None) (sym same) ∙ slot) in
            (x, ap (λ (n : ℕ). type_at t n) same ∙ live, sym same_kinds ∙ ap (λ (w : Item). w.kind) written, sym same_id ∙ ap (λ (w : Item). w.id) written)
        | inr apart ↦ (item, sym (at-other t.types (Some y) id i apart) ∙ slot, refl, refl)
      ];
  groups = λ q g at_q. inl (ap (λ (w : Table). group_at w q) (sym is) ∙ at_q);
}

pub stays_shrinks : (t u : Table) → u ≡ t → Shrinks t u
stays_shrinks t u is = record {
  types = λ i item at_i. (item, ap (λ (w : Table). type_at w i) (sym is) ∙ at_i, refl, refl);
  groups = λ q g at_q. inl (ap (λ (w : Table). group_at w q) (sym is) ∙ at_q);
}
