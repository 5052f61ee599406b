-- Lemmas: the types of a table, by their ids and by their places in what a module means.
use Rattle.std.specs.Prelude.{ℕ, zero, suc, ◌≡◌, ◌⊎◌, ◌+◌, Bool, true, false, List, [], ◌∷◌, ◌++◌, length, map, filter, Option, Some, None, slice_get, slice_index_or, refl, if◌then◌else◌}
use Rattle.std.specs.List.{AllZip, flat_map}
use Rattle.std.proofs.Common.{ap, sym, ◌∙◌, subst, arith, append-nil, inl, inr}
use Rattle.std.proofs.lemmas.Option.{none-some, same_Some}
use Rattle.walrus_arena.specs.Arena.{entries_from}
use Rattle.walrus_forms.specs.Kinds.{Kind}
use Rattle.walrus_forms.specs.Records.{TypeGroup}
use Rattle.walrus_types.specs.Items.{Item as TypeItem, Group}
use Rattle.walrus_types.specs.Table.{Table as TypeTable, type_at}
use Rattle.walrus_types.specs.TypeLaws.{AreGrouped}
use Rattle.walrus_types.proofs.Places.{once_of}
use Rattle.wasm_merged_modules.specs.Merged.{kinds_of}
use Rattle.walrus_meaning.specs.Meaning.{group_kinds, has_kinds, own_groups, plain_kind, type_ids}
use Rattle.walrus_pass_laws.proofs.Sets.{In, contains_of, flat_in, flat_same, in_flat, in_of}
use Rattle.walrus_kept_laws.proofs.Reach.{AreOnce}

-- ---- lists

pub zip_join : {A B : Type 0} (R : A → B → Type 0) (xs us : List A) (ys vs : List B) → AllZip R xs ys → AllZip R us vs → AllZip R (xs ++ us) (ys ++ vs)
zip_join R [] us [] vs h g = g
zip_join R [] us (y ∷ ys) vs h g = absurd h
zip_join R (x ∷ xs) us [] vs h g = absurd h
zip_join R (x ∷ xs) us (y ∷ ys) vs h g = (h.0, zip_join R xs us ys vs h.1 g)

pub zip_many : {A B : Type 0} (R : A → B → Type 0) (xs : List A) (ys : List B) → AllZip R xs ys → length xs ≡ length ys
zip_many R [] [] h = refl
zip_many R [] (y ∷ ys) h = absurd h
zip_many R (x ∷ xs) [] h = absurd h
zip_many R (x ∷ xs) (y ∷ ys) h = ap suc (zip_many R xs ys h.1)

pub in_get : {A : Type 0} (xs : List A) (x : A) → In xs x → (n : ℕ) × (slice_get xs n ≡ Some x)
in_get [] x h = absurd h
in_get {A} (y ∷ xs) x (inl e) = (zero, ap (λ (z : A). Some z) e)
in_get (y ∷ xs) x (inr h) = let t = in_get xs x h in (suc t.0, t.1)

pub get_in : {A : Type 0} (xs : List A) (n : ℕ) (x : A) → slice_get xs n ≡ Some x → In xs x
get_in [] n x e = absurd (none-some x e)
get_in (y ∷ xs) zero x e = inl (same_Some y x e)
get_in (y ∷ xs) (suc n) x e = inr (get_in xs n x e)

-- each stands once
abbrev Distinct : List ℕ → Type 0
Distinct [] = Unit {0}
Distinct (x ∷ xs) = (In xs x → ⊥) × Distinct xs

distinct_once : (xs : List ℕ) → Distinct xs → AreOnce xs
distinct_once [] h i j id e f = absurd (none-some id e)
distinct_once (x ∷ xs) h zero zero id e f = refl
distinct_once (x ∷ xs) h zero (suc j) id e f = absurd (h.0 (subst (In xs) (sym (same_Some x id e)) (get_in xs j id f)))
distinct_once (x ∷ xs) h (suc i) zero id e f = absurd (h.0 (subst (In xs) (sym (same_Some x id f)) (get_in xs i id e)))
distinct_once (x ∷ xs) h (suc i) (suc j) id e f = ap suc (distinct_once xs h.1 i j id e f)

distinct_join : (xs ys : List ℕ) → Distinct xs → Distinct ys → ((x : ℕ) → In xs x → In ys x → ⊥) → Distinct (xs ++ ys)
distinct_join [] ys h g apart = g
distinct_join (x ∷ xs) ys h g apart = (λ i. either (cases xs ys x i), distinct_join xs ys h.1 g (λ z a b. apart z (inr a) b))
  where
    cases : (xs ys : List ℕ) (x : ℕ) → In (xs ++ ys) x → In xs x ⊎ In ys x
    cases [] ys x i = inr i
    cases (y ∷ xs) ys x (inl e) = inl (inl e)
    cases (y ∷ xs) ys x (inr i) = elim (cases xs ys x i) as (λ _. In (y ∷ xs) x ⊎ In ys x) [ inl a ↦ inl (inr a) | inr b ↦ inr b ]

    either : In xs x ⊎ In ys x → ⊥
    either (inl a) = h.0 a
    either (inr b) = apart x (inl refl) b

once_distinct : (xs : List ℕ) → AreOnce xs → Distinct xs
once_distinct [] h = tt
once_distinct (x ∷ xs) h = (λ i. (let n = in_get xs x i in let e = h zero (suc n.0) x refl n.1 in omega (arith, e)), once_distinct xs (λ i j id e f. (let z = h (suc i) (suc j) id e f in omega (arith, z))))

-- ---- the ids of a group

abbrev plain_id : ℕ → Option TypeItem → List ℕ
plain_id id None = []
plain_id id (Some ty) = if ty.kind.entry then [] else id ∷ []

module _ (t : TypeTable) where
  abbrev ids_in : List ℕ → List ℕ
  ids_in ids = flat_map (λ id. plain_id id (type_at t id)) ids

  abbrev kinds_in : List ℕ → List Kind
  kinds_in ids = flat_map (λ id. plain_kind (type_at t id)) ids

  -- of one type
  abbrev alone : ℕ → TypeTable
  alone id = record { types = t.types; groups = Some (record { explicit = false; types = id ∷ [] }) ∷ [] }

  one_id : (id : ℕ) (o : Option TypeItem) → type_at t id ≡ o → type_ids (alone id) ≡ plain_id id o
  one_id id None e = rw e refl
  one_id id (Some ty) e = go ty.kind.entry refl
    where
      go : (b : Bool) → ty.kind.entry ≡ b → type_ids (alone id) ≡ plain_id id (Some ty)
      go true f = rw (e, f) refl
      go false f = rw (e, f) refl

  abbrev Entry : Type 0
  Entry = ℕ × Group

  ids_are : type_ids t ≡ flat_map (λ (e : Entry). ids_in e.1.types) (entries_from 0 t.groups)
  ids_are = flat_same _ (λ (e : Entry). ids_in e.1.types) (λ (e : Entry). flat_same _ (λ id. plain_id id (type_at t id)) (λ id. sym (append-nil _) ∙ sym (append-nil _) ∙ one_id id (type_at t id) refl) e.1.types) (entries_from 0 t.groups)

  -- ---- kinds

  pub record HasKind (id : ℕ) (kind : Kind) : Type 0 where
    pub ty : TypeItem
    pub known : type_at t id ≡ Some ty
    pub plain : ty.kind.entry ≡ false
    pub is : ty.kind ≡ kind

  one_beside : (id : ℕ) (o : Option TypeItem) → type_at t id ≡ o → AllZip HasKind (plain_id id o) (plain_kind o)
  one_beside id None e = tt
  one_beside id (Some ty) e = go ty.kind.entry refl
    where
      go : (b : Bool) → ty.kind.entry ≡ b → AllZip HasKind (if b then [] else id ∷ []) (if b then [] else ty.kind ∷ [])
      go true f = tt
      go false f = (record { ty = ty; known = e; plain = f; is = refl }, tt)

  members_beside : (ids : List ℕ) → AllZip HasKind (ids_in ids) (kinds_in ids)
  members_beside [] = tt
  members_beside (id ∷ ids) = zip_join HasKind (plain_id id (type_at t id)) (ids_in ids) (plain_kind (type_at t id)) (kinds_in ids) (one_beside id (type_at t id) refl) (members_beside ids)

  groups_beside : (es : List Entry) → AllZip HasKind (flat_map (λ (e : Entry). ids_in e.1.types) es) (flat_map (λ (e : Entry). kinds_in e.1.types) es)
  groups_beside [] = tt
  groups_beside (e ∷ es) =
      zip_join HasKind (ids_in e.1.types) (flat_map (λ (e : Entry). ids_in e.1.types) es) (kinds_in e.1.types) (flat_map (λ (e : Entry). kinds_in e.1.types) es) (members_beside e.1.types) (groups_beside es)

  -- groups without kinds have none
  filled_kinds : (gs : List TypeGroup) → kinds_of (filter has_kinds gs) ≡ kinds_of gs
  filled_kinds [] = refl
  filled_kinds (g ∷ gs) = by g.kinds refl (filled_kinds gs)
    where
      by : (ks : List Kind) → g.kinds ≡ ks → kinds_of (filter has_kinds gs) ≡ kinds_of gs → kinds_of (filter has_kinds (g ∷ gs)) ≡ g.kinds ++ kinds_of gs
      by [] e later = rw e later
      by (k ∷ ks) e later = rw e (ap (λ (l : List Kind). k ∷ (ks ++ l)) later)

  entry_kinds : (es : List Entry) → kinds_of (map (λ e. group_kinds t e.1) es) ≡ flat_map (λ (e : Entry). kinds_in e.1.types) es
  entry_kinds [] = refl
  entry_kinds (e ∷ es) = ap (λ (l : List Kind). kinds_in e.1.types ++ l) (entry_kinds es)

  kinds_are : kinds_of (own_groups t) ≡ flat_map (λ (e : Entry). kinds_in e.1.types) (entries_from 0 t.groups)
  kinds_are = filled_kinds (map (λ e. group_kinds t e.1) (entries_from 0 t.groups)) ∙ entry_kinds (entries_from 0 t.groups)

  -- each id beside the kind of its type
  pub types_beside : AllZip HasKind (type_ids t) (kinds_of (own_groups t))
  types_beside =
      subst (λ (l : List ℕ). AllZip HasKind l (kinds_of (own_groups t))) (sym ids_are)
      (subst (AllZip HasKind (flat_map (λ (e : Entry). ids_in e.1.types) (entries_from 0 t.groups))) (sym kinds_are) (groups_beside (entries_from 0 t.groups)))

  -- ---- each type that is written has a place

  in_entries : (n : ℕ) (xs : List (Option Group)) (place : ℕ) (g : Group) → slice_index_or xs place None ≡ Some g → (e : Entry) × In (entries_from n xs) e × (e.1 ≡ g)
  in_entries n [] place g e = absurd (none-some g e)
  in_entries n (None ∷ xs) zero g e = absurd (none-some g e)
  in_entries n (None ∷ xs) (suc place) g e = in_entries (n + 1) xs place g e
  in_entries n (Some y ∷ xs) zero g e = ((n, y), inl refl, same_Some y g e)
  in_entries n (Some y ∷ xs) (suc place) g e = let t = in_entries (n + 1) xs place g e in (t.0, inr t.1, t.2)

  own_in : (id : ℕ) (o : Option TypeItem) (ty : TypeItem) → o ≡ Some ty → ty.kind.entry ≡ false → In (plain_id id o) id
  own_in id None ty e f = absurd (none-some ty e)
  own_in id (Some u) ty e f = go u.kind.entry (ap (λ (x : TypeItem). x.kind.entry) (same_Some u ty e) ∙ f)
    where
      go : (b : Bool) → b ≡ false → In (if b then [] else id ∷ []) id
      go true g = absurd cc
      go false g = inl refl

  pub type_placed : AreGrouped t → (id : ℕ) (ty : TypeItem) → type_at t id ≡ Some ty → ty.kind.entry ≡ false → (n : ℕ) × (slice_get (type_ids t) n ≡ Some id)
  type_placed grouped id ty at plain =
      let home = grouped.listed id ty at in
      let e = in_entries 0 t.groups home.1.place home.0 home.1.live in
      let member : In e.0.1.types id = subst (λ (g : Group). In g.types id) (sym e.2) (in_of home.0.types id home.1.listed) in
      let here : In (ids_in e.0.1.types) id = flat_in (λ k. plain_id k (type_at t k)) e.0.1.types id id member (own_in id (type_at t id) ty at plain) in
      in_get (type_ids t) id (subst (λ (l : List ℕ). In l id) (sym ids_are) (flat_in (λ (e : Entry). ids_in e.1.types) (entries_from 0 t.groups) e.0 id e.1 here))

  -- ---- each has one

  id_from : (id : ℕ) (o : Option TypeItem) (x : ℕ) → In (plain_id id o) x → id ≡ x
  id_from id None x h = absurd h
  id_from id (Some ty) x h = go ty.kind.entry h
    where
      go : (b : Bool) → In (if b then [] else id ∷ []) x → id ≡ x
      go true h = absurd h
      go false (inl e) = e
      go false (inr h) = absurd h

  ids_from : (ids : List ℕ) (x : ℕ) → In (ids_in ids) x → In ids x
  ids_from ids x h = let r = in_flat (λ id. plain_id id (type_at t id)) ids x h in subst (In ids) (id_from r.0 (type_at t r.0) x r.2) r.1

  plain_distinct : (id : ℕ) (o : Option TypeItem) → Distinct (plain_id id o)
  plain_distinct id None = tt
  plain_distinct id (Some ty) = go ty.kind.entry
    where
      go : (b : Bool) → Distinct (if b then [] else id ∷ [])
      go true = tt
      go false = (λ h. h, tt)

  members_distinct : (ids : List ℕ) → Distinct ids → Distinct (ids_in ids)
  members_distinct [] h = tt
  members_distinct (id ∷ ids) h =
      distinct_join (plain_id id (type_at t id)) (ids_in ids) (plain_distinct id (type_at t id)) (members_distinct ids h.1)
      (λ x a b. h.0 (subst (In ids) (sym (id_from id (type_at t id) x a)) (ids_from ids x b)))

  pub record EntryOf (n : ℕ) (xs : List (Option Group)) (e : Entry) : Type 0 where
    pub place : ℕ
    pub is : e.0 ≡ n + place
    pub at : slice_index_or xs place None ≡ Some e.1

  entry_of : (n : ℕ) (xs : List (Option Group)) (e : Entry) → In (entries_from n xs) e → EntryOf n xs e
  entry_of n [] e h = absurd h
  entry_of n (None ∷ xs) e h = let r = entry_of (n + 1) xs e h in record { place = suc r.place; is = (let z = r.is in omega (arith, z)); at = r.at }
  entry_of n (Some g ∷ xs) e (inl same) = record { place = 0; is = (let z : n ≡ e.0 = ap (λ (p : Entry). p.0) same in omega (arith, z)); at = ap (λ (p : Entry). Some p.1) same }
  entry_of n (Some g ∷ xs) e (inr h) = let r = entry_of (n + 1) xs e h in record { place = suc r.place; is = (let z = r.is in omega (arith, z)); at = r.at }

  flat_distinct : (n : ℕ) (xs : List (Option Group)) → ((place : ℕ) (g : Group) → slice_index_or xs place None ≡ Some g → Distinct g.types)
      → ((id p q : ℕ) (g h : Group) → slice_index_or xs p None ≡ Some g → In g.types id → slice_index_or xs q None ≡ Some h → In h.types id → p ≡ q)
      → Distinct (flat_map (λ (e : Entry). ids_in e.1.types) (entries_from n xs))
  flat_distinct n [] each one = tt
  flat_distinct n (None ∷ xs) each one =
      flat_distinct (n + 1) xs (λ place g at. each (suc place) g at) (λ id p q g h at_p a at_q b. (let e = one id (suc p) (suc q) g h at_p a at_q b in omega (arith, e)))
  flat_distinct n (Some g ∷ xs) each one =
      distinct_join (ids_in g.types) (flat_map (λ (e : Entry). ids_in e.1.types) (entries_from (n + 1) xs)) (members_distinct g.types (each 0 g refl))
      (flat_distinct (n + 1) xs (λ place h at. each (suc place) h at) (λ id p q h k at_p a at_q b. (let e = one id (suc p) (suc q) h k at_p a at_q b in omega (arith, e))))
      (λ x a b. (
      let e = in_flat (λ (e : Entry). ids_in e.1.types) (entries_from (n + 1) xs) x b in
      let r = entry_of (n + 1) xs e.0 e.1 in
      let same = one x 0 (suc r.place) g e.0.1 refl (ids_from g.types x a) r.at (ids_from e.0.1.types x e.2) in
      omega (arith, same)
      ))

  pub ids_once : AreGrouped t → AreOnce (type_ids t)
  ids_once grouped =
      distinct_once (type_ids t) (subst Distinct (sym ids_are) (
      flat_distinct 0 t.groups (λ place g at. once_distinct g.types (once_of g.types (grouped.once place g at)))
      (λ id p q g h at_p a at_q b. grouped.one id p q g h at_p (contains_of g.types id a) at_q (contains_of h.types id b))
      ))
