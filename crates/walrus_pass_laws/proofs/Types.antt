-- Types, their groups, and their numbers.
use Rattle.std.proofs.Common.{◌≡◌, ◌∙◌, ◌⊎◌, ◌+◌, ℕ, zero, suc, Bool, true, false, List, [], ◌∷◌, ◌++◌, map, length, filter, take, drop, Option, Some, None, Contains, IsSome, refl, sym, ap, subst, inl, inr, arith, append-nil, if◌then◌else◌}
use Rattle.std.specs.Prelude.{slice_get, slice_index_or}
use Rattle.std.specs.List.{flat_map}
use Rattle.std.proofs.lemmas.Bool.{false≢true}
use Rattle.wasm_references.specs.wasm_formats.declared.fault.Space.TheVariants as spaces
use Rattle.wasm_references.specs.wasm_grammar.Modules as grammar
use Rattle.wasm_references.specs.References as abstract
use Rattle.wasm_references.specs.References.{Numbered, numbered, IsType, TypeRefers}
use Rattle.walrus_arena.specs.Arena.{entries_from}
use Rattle.walrus_walks.specs.walrus_forms.Kinds.{Kind, kind_names}
use Rattle.walrus_walks.specs.walrus_forms.Records.{TypeGroup}
use Rattle.walrus_walks.specs.walrus_types.Items.{Item as TypeItem, Group}
use Rattle.walrus_walks.specs.walrus_types.Table.{Table as TypeTable, type_at, group_at, HasMember}
use Rattle.walrus_walks.specs.walrus_types.TypeLaws.{AreGrouped}
use Rattle.walrus_roots.specs.declared.item.Item.{Item}
use Rattle.walrus_roots.specs.Items.{item}
use Rattle.walrus_meaning.specs.walrus_module.Items.{written, written_type}
use Rattle.walrus_passes.specs.walrus_refusals.walrus_used.walrus_references.References.{named_by, type_items, IsInGroup}
use Rattle.walrus_meaning.specs.Meaning.{plain_kind, group_kinds, has_kinds, own_groups, type_ids}
use Rattle.walrus_pass_laws.specs.Items.{own_item, own_items}
use Rattle.walrus_pass_laws.specs.Meant.{GroupIsWritten}
use Rattle.walrus_pass_laws.proofs.Owned.{item_of, owned_forth, owned_back}
use Rattle.walrus_pass_laws.proofs.Sets.{In, in_of, contains_of, in_map, map_in, in_flat, flat_same}

-- ---- lists

take_front : {A : Type 0} (n : ℕ) (xs ys : List A) → n ≡ length xs → take n (xs ++ ys) ≡ xs
take_front n xs ys e = subst (λ m. take m (xs ++ ys) ≡ xs) (sym e) (all xs)
  where
    all : (xs : List _) → take (length xs) (xs ++ ys) ≡ xs
    all [] = refl
    all (x ∷ xs) = ap (λ (l : List _). x ∷ l) (all xs)

drop_front : {A : Type 0} (n : ℕ) (xs ys : List A) → n ≡ length xs → drop n (xs ++ ys) ≡ ys
drop_front n xs ys e = subst (λ m. drop m (xs ++ ys) ≡ ys) (sym e) (all xs)
  where
    all : (xs : List _) → drop (length xs) (xs ++ ys) ≡ ys
    all [] = refl
    all (x ∷ xs) = all xs

pair_same : {A : Type 0} (n m : ℕ) (y x : A) → n ≡ m → y ≡ x → ◌≡◌ {A = ℕ × A} (n, y) (m, x)
pair_same {A} n m y x p q =
    let first : ◌≡◌ {A = ℕ × A} (n, y) (m, y) = ap (λ k. (k, y)) p in
    let second : ◌≡◌ {A = ℕ × A} (m, y) (m, x) = ap (λ z. (m, z)) q in
    first ∙ second

-- what stands at a place, among the entries from a number on
in_entries : {A : Type 0} (n : ℕ) (xs : List (Option A)) (place : ℕ) (x : A) → slice_index_or xs place None ≡ Some x → In (entries_from n xs) (n + place, x)
in_entries n [] place x e = absurd cc
in_entries n (None ∷ xs) zero x e = absurd cc
in_entries n (None ∷ xs) (suc place) x e = subst (λ k. In (entries_from (n + 1) xs) (k, x)) (omega arith) (in_entries (n + 1) xs place x e)
in_entries n (Some y ∷ xs) zero x e = inl (pair_same n (n + zero) y x (omega arith) (let f : y ≡ x = cc in f))
in_entries n (Some y ∷ xs) (suc place) x e = inr (subst (λ k. In (entries_from (n + 1) xs) (k, x)) (omega arith) (in_entries (n + 1) xs place x e))

of_entries : {A : Type 0} (n : ℕ) (xs : List (Option A)) (e : ℕ × A) → In (entries_from n xs) e → (place : ℕ) × (slice_index_or xs place None ≡ Some e.1)
of_entries n [] e h = absurd h
of_entries n (None ∷ xs) e h = (let r = of_entries (n + 1) xs e h in (suc r.0, r.1))
of_entries n (Some x ∷ xs) e (inl same) = (0, ap (λ (p : ℕ × _). Some p.1) same)
of_entries n (Some x ∷ xs) e (inr h) = (let r = of_entries (n + 1) xs e h in (suc r.0, r.1))

-- ---- the types of a group, and their numbers

abbrev pub plain_id : ℕ → Option TypeItem → List ℕ
plain_id id None = []
plain_id id (Some ty) = if ty.kind.entry then [] else id ∷ []

module _ (t : TypeTable) where
  abbrev pub ids_in : List ℕ → List ℕ
  ids_in ids = flat_map (λ id. plain_id id (type_at t id)) ids

  abbrev pub kinds_in : List ℕ → List Kind
  kinds_in ids = flat_map (λ id. plain_kind (type_at t id)) ids

  -- of one type
  abbrev alone : ℕ → TypeTable
  alone id = record { types = t.types; groups = Some (record { explicit = false; types = id ∷ [] }) ∷ [] }

  one_id : (id : ℕ) (o : Option TypeItem) → type_at t id ≡ o → type_ids (alone id) ≡ plain_id id o
  one_id id None e = rw e refl
  one_id id (Some ty) e = go ty.kind.entry refl
    where
      go : (b : Bool) → ty.kind.entry ≡ b → type_ids (alone id) ≡ plain_id id (Some ty)
      go true f = rw (e, f) refl
      go false f = rw (e, f) refl

  ids_are : type_ids t ≡ flat_map (λ (e : ℕ × Group). ids_in e.1.types) (entries_from 0 t.groups)
  ids_are = flat_same _ (λ (e : ℕ × Group). ids_in e.1.types) (λ (e : ℕ × Group). flat_same _ (λ id. plain_id id (type_at t id)) (λ id. sym (append-nil _) ∙ sym (append-nil _) ∙ one_id id (type_at t id) refl) e.1.types) (entries_from 0 t.groups)

  -- ---- the types of a group, place by place

  one_length : (id : ℕ) (o : Option TypeItem) (ids : List ℕ) (kinds : List Kind) → length kinds ≡ length ids → length (plain_kind o ++ kinds) ≡ length (plain_id id o ++ ids)
  one_length id None ids kinds e = e
  one_length id (Some ty) ids kinds e = elim ty.kind.entry as (λ b. length ((if b then [] else ty.kind ∷ []) ++ kinds) ≡ length ((if b then [] else id ∷ []) ++ ids)) [ true ↦ e | false ↦ ap suc e ]

  lengths : (ids : List ℕ) → length (kinds_in ids) ≡ length (ids_in ids)
  lengths [] = refl
  lengths (id ∷ ids) = one_length id (type_at t id) (ids_in ids) (kinds_in ids) (lengths ids)

  here_is : (id : ℕ) (o : Option TypeItem) (ty : TypeItem) (ids : List ℕ) (kinds : List Kind) → o ≡ Some ty → ty.kind.entry ≡ false
      → (slice_get (plain_id id o ++ ids) 0 ≡ Some id) × (slice_get (plain_kind o ++ kinds) 0 ≡ Some ty.kind)
  here_is id None ty ids kinds e f = absurd (let z : ⊥ = cc in z)
  here_is id (Some u) ty ids kinds e f = go u.kind.entry (ap (λ (w : TypeItem). w.kind.entry) same ∙ f)
    where
      same : u ≡ ty
      same = cc

      go : (b : Bool) → b ≡ false → (slice_get ((if b then [] else id ∷ []) ++ ids) 0 ≡ Some id) × (slice_get ((if b then [] else u.kind ∷ []) ++ kinds) 0 ≡ Some ty.kind)
      go true g = absurd (let z : ⊥ = cc in z)
      go false g = (refl, ap (λ (w : TypeItem). Some w.kind) same)

  there_is : (id : ℕ) (o : Option TypeItem) (ids : List ℕ) (kinds : List Kind) (p x : ℕ) (k : Kind) → slice_get ids p ≡ Some x → slice_get kinds p ≡ Some k
      → (q : ℕ) × (slice_get (plain_id id o ++ ids) q ≡ Some x) × (slice_get (plain_kind o ++ kinds) q ≡ Some k)
  there_is id None ids kinds p x k e f = (p, e, f)
  there_is id (Some ty) ids kinds p x k e f =
      elim ty.kind.entry as (λ b. (q : ℕ) × (slice_get ((if b then [] else id ∷ []) ++ ids) q ≡ Some x) × (slice_get ((if b then [] else ty.kind ∷ []) ++ kinds) q ≡ Some k)) [ true ↦ (p, e, f) | false ↦ (suc p, e, f) ]

  -- a type is the first, or one of the others
  pub record IsFirst (id : ℕ) (o : Option TypeItem) (x : ℕ) (k : Kind) : Type 0 where
    pub ty : TypeItem
    pub known : o ≡ Some ty
    pub written : ty.kind.entry ≡ false
    pub number : id ≡ x
    pub kind : ty.kind ≡ k

  at_cases : (id : ℕ) (o : Option TypeItem) (ids : List ℕ) (kinds : List Kind) (q x : ℕ) (k : Kind) → slice_get (plain_id id o ++ ids) q ≡ Some x → slice_get (plain_kind o ++ kinds) q ≡ Some k
      → IsFirst id o x k ⊎ ((p : ℕ) × (slice_get ids p ≡ Some x) × (slice_get kinds p ≡ Some k))
  at_cases id None ids kinds q x k e f = inr (q, e, f)
  at_cases id (Some ty) ids kinds q x k e f = go ty.kind.entry refl q e f
    where
      go : (b : Bool) → ty.kind.entry ≡ b → (q : ℕ) → slice_get ((if b then [] else id ∷ []) ++ ids) q ≡ Some x → slice_get ((if b then [] else ty.kind ∷ []) ++ kinds) q ≡ Some k
          → IsFirst id (Some ty) x k ⊎ ((p : ℕ) × (slice_get ids p ≡ Some x) × (slice_get kinds p ≡ Some k))
      go true b q e f = inr (q, e, f)
      go false b zero e f = inl (record { ty = ty; known = refl; written = b; number = (let s : id ≡ x = cc in s); kind = (let s : ty.kind ≡ k = cc in s) })
      go false b (suc q) e f = inr (q, e, f)

  member_at : (ids : List ℕ) (id : ℕ) (ty : TypeItem) → In ids id → type_at t id ≡ Some ty → ty.kind.entry ≡ false
      → (p : ℕ) × (slice_get (ids_in ids) p ≡ Some id) × (slice_get (kinds_in ids) p ≡ Some ty.kind)
  member_at [] id ty h is plain = absurd h
  member_at (j ∷ ids) id ty (inl e) is plain =
      let first = here_is j (type_at t j) ty (ids_in ids) (kinds_in ids) (ap (type_at t) e ∙ is) plain in
      (0, first.0 ∙ ap Some e, first.1)
  member_at (j ∷ ids) id ty (inr h) is plain =
      let r = member_at ids id ty h is plain in
      there_is j (type_at t j) (ids_in ids) (kinds_in ids) r.0 id ty.kind r.1 r.2

  -- the type of a number in a group
  pub record IsMember (ids : List ℕ) (x : ℕ) (k : Kind) : Type 0 where
    pub ty : TypeItem
    pub listed : In ids x
    pub known : type_at t x ≡ Some ty
    pub written : ty.kind.entry ≡ false
    pub kind : ty.kind ≡ k

  member_of : (ids : List ℕ) (q x : ℕ) (k : Kind) → slice_get (ids_in ids) q ≡ Some x → slice_get (kinds_in ids) q ≡ Some k → IsMember ids x k
  member_of [] q x k e f = absurd (let z : ⊥ = cc in z)
  member_of (j ∷ ids) q x k e f = elim (at_cases j (type_at t j) (ids_in ids) (kinds_in ids) q x k e f) as (λ _. IsMember (j ∷ ids) x k) [
    | inl h ↦ record { ty = h.ty; listed = inl h.number; known = ap (type_at t) (sym h.number) ∙ h.known; written = h.written; kind = h.kind }
    | inr r ↦ (let m = member_of ids r.0 x k r.1 r.2 in record { ty = m.ty; listed = inr m.listed; known = m.known; written = m.written; kind = m.kind })
  ]

  -- ---- groups

  abbrev pub pair : Group → TypeGroup × List ℕ
  pair g = (group_kinds t g, ids_in g.types)

  abbrev heads : List (ℕ × Group) → List TypeGroup
  heads es = filter has_kinds (map (λ e. group_kinds t e.1) es)

  abbrev tails : List (ℕ × Group) → List ℕ
  tails es = flat_map (λ (e : ℕ × Group). ids_in e.1.types) es

  abbrev with_ids : TypeGroup → List ℕ → TypeGroup × List ℕ
  with_ids g ns = (g, ns)

  no_kinds : (marked : Bool) (ks : List Kind) → has_kinds (record { marked = marked; kinds = ks }) ≡ false → ks ≡ []
  no_kinds marked [] e = refl
  no_kinds marked (k ∷ ks) e = absurd (false≢true (sym e))

  some_kinds : (marked : Bool) (ks : List Kind) (p : ℕ) (k : Kind) → slice_get ks p ≡ Some k → has_kinds (record { marked = marked; kinds = ks }) ≡ true
  some_kinds marked [] p k e = absurd (let z : ⊥ = cc in z)
  some_kinds marked (_ ∷ _) p k e = refl

  no_ids : (ids : List ℕ) → kinds_in ids ≡ [] → ids_in ids ≡ []
  no_ids ids e = none (ids_in ids) (sym (lengths ids) ∙ ap (λ (ks : List Kind). length ks) e)
    where
      none : (xs : List ℕ) → length xs ≡ 0 → xs ≡ []
      none [] z = refl
      none (x ∷ xs) z = absurd (omega (arith, z))

  one_more : (g : Group) (rest : List TypeGroup) (more : List ℕ) (b : Bool) → has_kinds (group_kinds t g) ≡ b
      → numbered (if b then group_kinds t g ∷ rest else rest) (ids_in g.types ++ more) ≡ (if b then pair g ∷ numbered rest more else numbered rest more)
  one_more g rest more true e =
      let n = length (kinds_in g.types) in
      ap (λ (l : List ℕ). with_ids (group_kinds t g) l ∷ numbered rest (drop n (ids_in g.types ++ more))) (take_front n (ids_in g.types) more (lengths g.types))
      ∙ ap (λ (l : List ℕ). pair g ∷ numbered rest l) (drop_front n (ids_in g.types) more (lengths g.types))
  one_more g rest more false e = ap (λ (l : List ℕ). numbered rest (l ++ more)) (no_ids g.types (no_kinds g.explicit (kinds_in g.types) e))

  abbrev all : List (ℕ × Group) → List (TypeGroup × List ℕ)
  all es = numbered (heads es) (tails es)

  all_cons : (e : ℕ × Group) (es : List (ℕ × Group)) → all (e ∷ es) ≡ (if has_kinds (group_kinds t e.1) then pair e.1 ∷ all es else all es)
  all_cons e es = one_more e.1 (heads es) (tails es) (has_kinds (group_kinds t e.1)) refl

  picked : (b : Bool) (p : TypeGroup × List ℕ) (ps : List (TypeGroup × List ℕ)) (x : TypeGroup × List ℕ) → In (if b then p ∷ ps else ps) x → (p ≡ x) ⊎ In ps x
  picked true p ps x h = h
  picked false p ps x h = inr h

  kept_on : (b : Bool) (p : TypeGroup × List ℕ) (ps : List (TypeGroup × List ℕ)) (x : TypeGroup × List ℕ) → In ps x → In (if b then p ∷ ps else ps) x
  kept_on true p ps x h = inr h
  kept_on false p ps x h = h

  group_of : (es : List (ℕ × Group)) (x : TypeGroup × List ℕ) → In (all es) x → (e : ℕ × Group) × In es e × (pair e.1 ≡ x)
  group_of [] x h = absurd h
  group_of (e ∷ es) x h = elim (picked (has_kinds (group_kinds t e.1)) (pair e.1) (all es) x (subst (λ (l : List (TypeGroup × List ℕ)). In l x) (all_cons e es) h)) as (λ _. (d : ℕ × Group) × In (e ∷ es) d × (pair d.1 ≡ x)) [
    | inl s ↦ (e, inl refl, s)
    | inr r ↦ (let d = group_of es x r in (d.0, inr d.1, d.2))
  ]

  group_in : (es : List (ℕ × Group)) (e : ℕ × Group) → In es e → has_kinds (group_kinds t e.1) ≡ true → In (all es) (pair e.1)
  group_in [] e h has = absurd h
  group_in (d ∷ es) e (inl s) has =
      let has_too : has_kinds (group_kinds t d.1) ≡ true = ap (λ (x : ℕ × Group). has_kinds (group_kinds t x.1)) s ∙ has in
      subst (λ (l : List (TypeGroup × List ℕ)). In l (pair e.1)) (sym (all_cons d es)) (rw has_too (inl (ap (λ (x : ℕ × Group). pair x.1) s)))
  group_in (d ∷ es) e (inr h) has =
      subst (λ (l : List (TypeGroup × List ℕ)). In l (pair e.1)) (sym (all_cons d es)) (kept_on (has_kinds (group_kinds t d.1)) (pair d.1) (all es) (pair e.1) (group_in es e h has))

  -- ---- what types name

  types_meant : (ns : List ℕ) → own_items (map (item spaces.«Type») ns) ≡ map (abstract.item spaces.«Type») ns
  types_meant [] = refl
  types_meant (n ∷ ns) = ap (λ (l : List grammar.Item). abstract.item spaces.«Type» n ∷ l) (types_meant ns)

  is_written : (o : Option TypeItem) → IsSome (written o) → (ty : TypeItem) × (o ≡ Some ty) × (ty.kind.entry ≡ false)
  is_written None some = absurd (false≢true some)
  is_written (Some ty) some = (ty, refl, go ty.kind.entry some)
    where
      go : (b : Bool) → IsSome (if b then None else Some ty) → b ≡ false
      go true some = absurd (false≢true some)
      go false some = refl

  named_written : (o : Option TypeItem) (y : Item) → Contains (named_by type_items (written o)) y → (ty : TypeItem) × (o ≡ Some ty) × (ty.kind.entry ≡ false) × Contains (type_items ty) y
  named_written None y c = absurd (in_of [] y c)
  named_written (Some ty) y c = (let r = go ty.kind.entry c in (ty, refl, r.0, r.1))
    where
      go : (b : Bool) → Contains (named_by type_items (if b then None else Some ty)) y → (b ≡ false) × Contains (type_items ty) y
      go true c = absurd (in_of [] y c)
      go false c = (refl, c)

  by_written : (o : Option TypeItem) (ty : TypeItem) (y : Item) → o ≡ Some ty → ty.kind.entry ≡ false → Contains (type_items ty) y → Contains (named_by type_items (written o)) y
  by_written o ty y is plain c = subst (λ (o : Option TypeItem). Contains (named_by type_items (written o)) y) (sym is) (go ty.kind.entry plain)
    where
      go : (b : Bool) → b ≡ false → Contains (named_by type_items (if b then None else Some ty)) y
      go true f = absurd (false≢true (sym f))
      go false f = c

  module _ (grouped : AreGrouped t) (v : Numbered) (groups : v.filled.groups ≡ own_groups t) (types : v.types ≡ type_ids t) where
    all_are : numbered v.filled.groups v.types ≡ all (entries_from 0 t.groups)
    all_are = ap (λ (gs : List TypeGroup). numbered gs v.types) groups ∙ ap (numbered (own_groups t)) (types ∙ ids_are)

    type_is : (id : ℕ) (ty : TypeItem) (g : Group) → type_at t id ≡ Some ty → ty.kind.entry ≡ false → HasMember t id g → IsType v id (pair g) ty.kind
    type_is id ty g is plain has =
        let at = member_at g.types id ty (in_of g.types id has.listed) is plain in
        record {
          listed = contains_of (numbered v.filled.groups v.types) (pair g) (subst (λ (l : List (TypeGroup × List ℕ)). In l (pair g)) (sym all_are) (
              group_in (entries_from 0 t.groups) (0 + has.place, g) (in_entries 0 t.groups has.place g has.live) (some_kinds g.explicit (kinds_in g.types) at.0 ty.kind at.2)
              ));
          place = at.0;
          number = at.1;
          known = at.2;
        }

    get_in : {A : Type 0} (xs : List A) (p : ℕ) (x : A) → slice_get xs p ≡ Some x → In xs x
    get_in [] p x e = absurd (let z : ⊥ = cc in z)
    get_in (y ∷ xs) zero x e = inl (let s : y ≡ x = cc in s)
    get_in (y ∷ xs) (suc p) x e = inr (get_in xs p x e)

    -- the members of a group that is written as one are its types
    listed_types : (g : Group) (y : Item) → ((k : ℕ) → Contains g.types k → IsSome (written_type t k)) → Contains (map (item spaces.«Type») g.types) y → Contains (map (abstract.item spaces.«Type») (ids_in g.types)) (own_item y)
    listed_types g y all c =
        let r = in_map (item spaces.«Type») g.types y (in_of (map (item spaces.«Type») g.types) y c) in
        let w = is_written (type_at t r.0) (all r.0 (contains_of g.types r.0 r.1)) in
        let at = member_at g.types r.0 w.0 r.1 w.1 w.2 in
        contains_of (map (abstract.item spaces.«Type») (ids_in g.types)) (own_item y) (
        subst (In (map (abstract.item spaces.«Type») (ids_in g.types))) (ap own_item r.2) (map_in (abstract.item spaces.«Type») (ids_in g.types) r.0 (get_in (ids_in g.types) at.0 r.0 at.1))
        )

    pub type_forth : (id : ℕ) (y : Item) → GroupIsWritten t id → Contains (named_by type_items (written_type t id)) y ⊎ IsInGroup t id y → TypeRefers v id (own_item y)
    type_forth id y all (inl c) =
        let w = named_written (type_at t id) y c in
        let home = grouped.listed id w.0 w.1 in
        (pair home.0, w.0.kind, type_is id w.0 home.0 w.1 w.2 home.1, inl (owned_forth (type_items w.0) (map (abstract.item spaces.«Type») (kind_names w.0.kind)) (types_meant (kind_names w.0.kind)) y w.3))
    type_forth id y all (inr h) =
        let w = is_written (type_at t id) (all h.0 h.1 h.2 id h.1.listed) in
        (pair h.0, w.0.kind, type_is id w.0 h.0 w.1 w.2 h.1, inr (h.2, listed_types h.0 y (all h.0 h.1 h.2) h.3))

    id_in : (id : ℕ) (o : Option TypeItem) (x : ℕ) → In (plain_id id o) x → id ≡ x
    id_in id None x h = absurd h
    id_in id (Some ty) x h = go ty.kind.entry h
      where
        go : (b : Bool) → In (if b then [] else id ∷ []) x → id ≡ x
        go true h = absurd h
        go false (inl e) = e
        go false (inr h) = absurd h

    ids_from : (ids : List ℕ) (x : ℕ) → In (ids_in ids) x → In ids x
    ids_from ids x h = (let r = in_flat (λ id. plain_id id (type_at t id)) ids x h in subst (In ids) (id_in r.0 (type_at t r.0) x r.2) r.1)

    pub type_back : (id : ℕ) (y : Item) → TypeRefers v id (own_item y) → Contains (named_by type_items (written_type t id)) y ⊎ IsInGroup t id y
    type_back id y (group, kind, is, names) =
        let found = group_of (entries_from 0 t.groups) group (subst (λ (l : List (TypeGroup × List ℕ)). In l group) all_are (in_of (numbered v.filled.groups v.types) group is.listed)) in
        go found.0.1 (of_entries 0 t.groups found.0 found.1) found.2 is names
      where
        go : (g : Group) → (place : ℕ) × (group_at t place ≡ Some g) → pair g ≡ group → IsType v id group kind
            → Contains (map (abstract.item spaces.«Type») (kind_names kind)) (own_item y) ⊎ ((group.0.marked ≡ true) × Contains (map (abstract.item spaces.«Type») group.1) (own_item y))
            → Contains (named_by type_items (written_type t id)) y ⊎ IsInGroup t id y
        go g at same is names =
            let m = member_of g.types is.place id kind (ap (λ (p : TypeGroup × List ℕ). slice_get p.1 is.place) same ∙ is.number) (ap (λ (p : TypeGroup × List ℕ). slice_get p.0.kinds is.place) same ∙ is.known) in
            elim names as (λ _. Contains (named_by type_items (written_type t id)) y ⊎ IsInGroup t id y) [
              | inl c ↦ inl (by_written (type_at t id) m.ty y m.known m.written (
                  owned_back (type_items m.ty) (map (abstract.item spaces.«Type») (kind_names m.ty.kind)) (types_meant (kind_names m.ty.kind)) y (
                  subst (λ (k : Kind). Contains (map (abstract.item spaces.«Type») (kind_names k)) (own_item y)) (sym m.kind) c
                  )
                  ))
              | inr h ↦ inr (
                g,
                record { place = at.0; live = at.1; listed = contains_of g.types id m.listed },
                ap (λ (p : TypeGroup × List ℕ). p.0.marked) same ∙ h.0,
                (let r = in_map (abstract.item spaces.«Type») group.1 (own_item y) (in_of (map (abstract.item spaces.«Type») group.1) (own_item y) h.1) in
                    let there : In g.types r.0 = ids_from g.types r.0 (subst (λ (p : TypeGroup × List ℕ). In p.1 r.0) (sym same) r.1) in
                    contains_of (map (item spaces.«Type») g.types) y (subst (In (map (item spaces.«Type») g.types)) (ap item_of r.2) (map_in (item spaces.«Type») g.types r.0 there))),
              )
            ]
