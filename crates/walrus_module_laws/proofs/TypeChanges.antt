-- Types that are deleted, one or a group: what was linked stays so.
use Rattle.std.proofs.Common.{◌≡◌, ◌∙◌, ℕ, Bool, true, false, not, ◌==◌, List, [], ◌∷◌, Option, Some, None, Contains, length, filter, slice_index_or, slice_set, refl, sym, ap, subst, inl, inr, arith}
use Rattle.std.specs.Option.{IfSome}
use Rattle.std.proofs.lemmas.Bool.{cases_eq, eq-eqb}
use Rattle.std.proofs.lemmas.List.{get_or-set_same}
use Rattle.walrus_arena.proofs.ArenaLemmas.{live-within, at-other, at-deleted}
use Rattle.walrus_forms.specs.Forms.{params_of}
use Rattle.walrus_types.specs.Items.{Item as TypeItem, Group}
use Rattle.walrus_types.specs.Table.{Table, IsLive, Deletes, type_at, group_at, clear_all, nonempty_group, without_member}
use Rattle.walrus_types.specs.TypeLaws.{AreGrouped}
use Rattle.walrus_types.proofs.DeleteLemmas.{contains-filter}
use Rattle.walrus_linked.specs.walrus_local_function.declared.local_function.LocalFunction.{LocalFunction}
use Rattle.walrus_linked.specs.walrus_module_items.declared.function.FunctionKind.{FunctionKind}
use Rattle.walrus_linked.specs.walrus_module_items.declared.function.FunctionKind.TheVariants as functions
use Rattle.wasm_formats.specs.declared.fault.Space.{Space}
use Rattle.wasm_formats.specs.declared.fault.Space.TheVariants as spaces
use Rattle.walrus_linked.specs.walrus_module.Parts.{Module}
use Rattle.walrus_roots.specs.declared.item.Item.{Item}
use Rattle.walrus_roots.specs.Items.{item, space_number}
use Rattle.walrus_marks.specs.Named.{items_of}
use Rattle.walrus_linked.specs.Names.{named_by, type_names}
use Rattle.walrus_linked.specs.Linked.{IsLinked, IsWhole, HasArguments, GroupsAreWritten}
use Rattle.walrus_linked.proofs.GroupLemmas.{written_on}
use Rattle.walrus_linked.proofs.SlotLemmas.{some_of}
use Rattle.walrus_module_laws.proofs.GrownTypes.{type_of_item, item_of_type}
use Rattle.walrus_module_laws.specs.Changes.{AreUnnamed, IsMember}
use Rattle.walrus_module_laws.proofs.SlotLemmas.{still, other, still_all, other_all}
use Rattle.walrus_module_laws.proofs.DropLemmas.{InDrop, apart, after_drop}

-- what holds wherever there is something holds
if_some_of : {A : Type 0} (P : A → Type 0) (o : Option A) → ((x : A) → o ≡ Some x → P x) → IfSome o P
if_some_of P None h = tt
if_some_of P (Some x) h = h x refl

if_some_at : {A : Type 0} (P : A → Type 0) (o : Option A) (x : A) → o ≡ Some x → IfSome o P → P x
if_some_at {A} P o x is h = let F : Option A → Type 0 = λ v. IfSome v P in subst F is h

-- these are types, they are gone, and the others are there; and the members of explicit groups are types that live, as before
pub record AreGone (m : Module) (t : Table) (goes : Item → Type 0) : Type 0 where
  pub types : (s : Space) → (space_number s ≡ space_number spaces.Type → ⊥) → (id : ℕ) → goes (item s id) → ⊥
  pub still : (id : ℕ) (ty : TypeItem) → type_at t id ≡ Some ty → (type_at m.types id ≡ Some ty) × (goes (item spaces.Type id) → ⊥)
  pub other : (id : ℕ) → (goes (item spaces.Type id) → ⊥) → type_at t id ≡ type_at m.types id
  pub grouped : GroupsAreWritten m.types → GroupsAreWritten t

module _ (m : Module) (t : Table) (goes : Item → Type 0) (are : AreGone m t goes) where
  abbrev left : Module
  left = record m { types = t }

  left_in : (s : Space) → InDrop m left goes s
  left_in spaces.Type = record {
    import_at = λ id i h. h;
    import_kept = λ id i besides h. h;
    lives_at = λ id h.
        let a = type_of_item (type_at t id) h in
        let s = are.still id a.0 a.1 in
        (item_of_type (type_at m.types id) a.0 s.0 a.2, s.1);
    lives_kept = λ id besides h.
        let a = type_of_item (type_at m.types id) h in
        item_of_type (type_at t id) a.0 (are.other id besides ∙ a.1) a.2;
    named = λ id h y has.
        let a = type_of_item (type_at t id) h in
        let N : Option TypeItem → Type 0 = λ o. Contains (items_of (named_by type_names o)) y in
        subst N (a.1 ∙ sym (are.still id a.0 a.1).0) has;
  }
  left_in spaces.Function = record { import_at = λ id i h. h; import_kept = λ id i besides h. h; lives_at = λ id h. (h, are.types spaces.Function (λ e. absurd (omega (arith, e))) id); lives_kept = λ id besides h. h; named = λ id h y has. has }
  left_in spaces.Table = record { import_at = λ id i h. h; import_kept = λ id i besides h. h; lives_at = λ id h. (h, are.types spaces.Table (λ e. absurd (omega (arith, e))) id); lives_kept = λ id besides h. h; named = λ id h y has. has }
  left_in spaces.Memory = record { import_at = λ id i h. h; import_kept = λ id i besides h. h; lives_at = λ id h. (h, are.types spaces.Memory (λ e. absurd (omega (arith, e))) id); lives_kept = λ id besides h. h; named = λ id h y has. has }
  left_in spaces.Tag = record { import_at = λ id i h. h; import_kept = λ id i besides h. h; lives_at = λ id h. (h, are.types spaces.Tag (λ e. absurd (omega (arith, e))) id); lives_kept = λ id besides h. h; named = λ id h y has. has }
  left_in spaces.Global = record { import_at = λ id i h. h; import_kept = λ id i besides h. h; lives_at = λ id h. (h, are.types spaces.Global (λ e. absurd (omega (arith, e))) id); lives_kept = λ id besides h. h; named = λ id h y has. has }
  left_in spaces.Element = record { import_at = λ id i h. h; import_kept = λ id i besides h. h; lives_at = λ id h. (h, are.types spaces.Element (λ e. absurd (omega (arith, e))) id); lives_kept = λ id besides h. h; named = λ id h y has. has }
  left_in spaces.Data = record { import_at = λ id i h. h; import_kept = λ id i besides h. h; lives_at = λ id h. (h, are.types spaces.Data (λ e. absurd (omega (arith, e))) id); lives_kept = λ id besides h. h; named = λ id h y has. has }
  left_in spaces.Local = record { import_at = λ id i h. h; import_kept = λ id i besides h. h; lives_at = λ id h. (h, are.types spaces.Local (λ e. absurd (omega (arith, e))) id); lives_kept = λ id besides h. h; named = λ id h y has. has }
  left_in spaces.Label = record { import_at = λ id i h. h; import_kept = λ id i besides h. h; lives_at = λ id h. (h, are.types spaces.Label (λ e. absurd (omega (arith, e))) id); lives_kept = λ id besides h. h; named = λ id h y has. has }

  -- of a deleted type no count of arguments is asked
  arguments_kept : (local : LocalFunction) → HasArguments m.types local → HasArguments t local
  arguments_kept local h =
      let P : TypeItem → Type 0 = λ ty. length local.args.items ≡ length (params_of ty.kind.form) in
      record {
        distinct = h.distinct;
        counted = if_some_of P (type_at t local.builder.ty) (λ ty at. if_some_at P (type_at m.types local.builder.ty) ty (are.still local.builder.ty ty at).0 h.counted);
      }

  whole_kept : (kind : FunctionKind) → IsWhole m.types kind → IsWhole t kind
  whole_kept (functions.Import _) h = h
  whole_kept (functions.Local local) h = (arguments_kept local h.0, h.1)
  whole_kept (functions.Uninitialized _) h = h

  pub deleted : AreUnnamed m goes → IsLinked m → IsLinked left
  deleted none l = after_drop m left goes (record {
    imports_same = refl;
    exports_same = refl;
    start_same = refl;
    spaces = left_in;
    grouped = are.grouped l.grouped;
    whole = λ f function at. whole_kept function.kind (l.whole f function at);
  }) none l

-- what is left of a group that isn't empty
of_nonempty : (explicit : Bool) (xs : List ℕ) (g : Group) → nonempty_group explicit xs ≡ Some g → (g.explicit ≡ explicit) × (g.types ≡ xs)
of_nonempty explicit [] g e = absurd cc
of_nonempty explicit (x ∷ xs) g e = let is : g ≡ record { explicit = explicit; types = x ∷ xs } = cc in (ap (λ (h : Group). h.explicit) is, ap (λ (h : Group). h.types) is)

module _ (old t : Table) (grouped : AreGrouped old) (home : ℕ) (group : Group) (at : group_at old home ≡ Some group) where
  -- a member of another group is none of this one
  elsewhere : (place : ℕ) (g : Group) → group_at old place ≡ Some g → (place ≡ home → ⊥) → (id : ℕ) → Contains g.types id → Contains group.types id → ⊥
  elsewhere place g at_g apart id c d = apart (grouped.one id place home g group at_g c at d)

  -- each group has what is left of one that stood in its place
  abbrev AreLeft : (ℕ → Type 0) → Type 0
  AreLeft goes = (place : ℕ) (g : Group) → group_at t place ≡ Some g → (id : ℕ) → Contains g.types id
      → (was : Group) × (group_at old place ≡ Some was) × (was.explicit ≡ g.explicit) × Contains was.types id × (goes id → ⊥)

  still_written : (goes : ℕ → Type 0) → ((id : ℕ) → (goes id → ⊥) → type_at t id ≡ type_at old id) → AreLeft goes → GroupsAreWritten old → GroupsAreWritten t
  still_written goes same left written place g at_g marked id c =
      let was = left place g at_g id c in
      written_on (type_at old id) (type_at t id) (λ x e. same id was.4 ∙ e) (written place was.0 was.1 (was.2 ∙ marked) id was.3)

  one_left : (k : ℕ) → Contains group.types k → t.groups ≡ slice_set old.groups home (without_member k group) → AreLeft (λ id. id ≡ k)
  one_left k listed is place g at_g id c = elim (cases_eq place home) as (λ _. (was : Group) × (group_at old place ≡ Some was) × (was.explicit ≡ g.explicit) × Contains was.types id × (id ≡ k → ⊥)) [
    | inl e ↦
        let there : without_member k group ≡ Some g =
        sym (get_or-set_same old.groups home (without_member k group) None (live-within old.groups home group at)) ∙ ap (λ (i : ℕ). slice_index_or (slice_set old.groups home (without_member k group)) i None) (sym e) ∙ slot in
        let made = of_nonempty group.explicit (filter (λ member. not (member == k)) group.types) g there in
        let C : List ℕ → Type 0 = λ ids. Contains ids id in
        let kept = contains-filter (λ member. not (member == k)) group.types id (subst C made.1 c) in
        (group, ap (group_at old) e ∙ at, sym made.0, kept.0, λ same. let bad : false ≡ true = sym (ap not (eq-eqb id k same)) ∙ kept.1 in absurd cc)
    | inr apart ↦
        let was = sym (at-other old.groups (without_member k group) home place apart) ∙ slot in
        let C : ℕ → Type 0 = λ i. Contains g.types i in
        (g, was, refl, c, λ same. elsewhere place g was apart k (subst C same c) listed)
  ]
    where
      slot : slice_index_or (slice_set old.groups home (without_member k group)) place None ≡ Some g
      slot = ap (λ (gs : List (Option Group)). slice_index_or gs place None) (sym is) ∙ at_g

  all_left : t.groups ≡ slice_set old.groups home None → AreLeft (λ id. Contains group.types id)
  all_left is place g at_g id c =
      let was = at-deleted old.groups home place g (ap (λ (gs : List (Option Group)). slice_index_or gs place None) (sym is) ∙ at_g) in
      (g, was.0, refl, c, elsewhere place g was.0 was.1 id c)

pub one_gone : (m : Module) (t : Table) (k : ℕ) → Deletes k m.types t → AreGrouped m.types → IsLive m.types k → AreGone m t (λ x. x ≡ item spaces.Type k)
one_gone m t k gone grouped live = record {
  types = λ s differ id e. apart s spaces.Type differ id k e;
  still = λ id ty at. let s = still m.types.types t.types k gone.types id ty at in (s.0, λ e. s.1 (ap (λ (x : Item). x.id) e));
  other = λ id besides. other m.types.types t.types k gone.types id (λ e. besides (ap (item spaces.Type) e));
  grouped = let x = some_of (type_at m.types k) live in
      let home = grouped.listed k x.0 x.1 in
      let h = home.1 in
      still_written m.types t grouped h.place home.0 h.live (λ id. id ≡ k) (other m.types.types t.types k gone.types)
      (one_left m.types t grouped h.place home.0 h.live k h.listed (gone.groups h.place home.0 h.live h.listed));
}

pub group_gone : (m : Module) (t : Table) (place : ℕ) (group : Group) → group_at m.types place ≡ Some group → t ≡ record { types = clear_all group.types m.types.types; groups = slice_set m.types.groups place None }
    → AreGrouped m.types → AreGone m t (IsMember group)
group_gone m t place group at is grouped =
    let slots_are : (id : ℕ) → type_at t id ≡ slice_index_or (clear_all group.types m.types.types) id None = λ id. ap (λ (u : Table). type_at u id) is in
    let same : (id : ℕ) → (Contains group.types id → ⊥) → type_at t id ≡ type_at m.types id = λ id besides. slots_are id ∙ other_all group.types m.types.types id besides in
    record {
      types = λ s differ id e. apart s spaces.Type differ id e.0 e.2;
      still = λ id ty at.
          let s = still_all group.types m.types.types id ty (sym (slots_are id) ∙ at) in
          let C : ℕ → Type 0 = λ k. Contains group.types k in
          (s.0, λ e. s.1 (subst C (sym (ap (λ (x : Item). x.id) e.2)) e.1));
      other = λ id besides. same id (λ has. besides (id, has, refl));
      grouped = still_written m.types t grouped place group at (λ id. Contains group.types id) same (all_left m.types t grouped place group at (ap (λ (u : Table). u.groups) is));
    }
