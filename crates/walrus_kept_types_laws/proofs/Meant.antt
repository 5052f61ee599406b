-- Lemmas: the groups that a module means are those that its table writes, with the ids of their types in this order.
use Rattle.std.proofs.Common.{◌≡◌, ◌∙◌, inl, inr, ℕ, zero, suc, ◌+◌, Bool, true, false, ◌||◌, List, [], ◌∷◌, ◌++◌, length, map, filter, take, drop, Option, Some, None, is_some, if◌then◌else◌, refl, sym, ap, subst, append-nil}
use Rattle.std.specs.Prelude.{slice_index_or}
use Rattle.std.specs.List.{slice_get, list_any, flat_map}
use Rattle.std.specs.Option.{option_and_then}
use Rattle.std.proofs.lemmas.Bool.{false≢true, cases_Bool}
use Rattle.std.proofs.lemmas.List.{length-map, map-append}
use Rattle.std.proofs.lemmas.Option.{none-some, same_Some}
use Rattle.walrus_arena.specs.Arena.{entries_from}
use Rattle.walrus_forms.specs.Kinds.{Kind}
use Rattle.walrus_forms.specs.Records.{TypeGroup}
use Rattle.walrus_types.specs.Emission.{shown_kind, written_kind, is_written, written_groups}
use Rattle.walrus_types.specs.Items.{Item, Group}
use Rattle.walrus_types.specs.Table.{Table, type_at, group_at}
use Rattle.walrus_types.proofs.OnceLemmas.{is_shown}
use Rattle.walrus_type_laws.proofs.Written.{AllWritten, kind_of, types_of}
use Rattle.walrus_meaning.specs.Meaning.{group_kinds, has_kinds, own_groups, plain_kind, type_ids}
use Rattle.wasm_merged_modules.specs.Merged.{kinds_of}
use Rattle.wasm_references.specs.References.{numbered}
use Rattle.walrus_kept_types_laws.proofs.Lists.{failed, flat_append, none_of, passed}

abbrev shown_of : Option Item → Option Kind
shown_of o = option_and_then (λ item. shown_kind item.kind) o

-- a type that is written is plain
plain_is : (o : Option Item) (k : Kind) → shown_of o ≡ Some k → plain_kind o ≡ k ∷ []
plain_is None k is = absurd (none-some k is)
plain_is (Some ty) k is = by ty.kind.entry is
  where
    by : (b : Bool) → (if b then None else Some ty.kind) ≡ Some k → (if b then [] else ty.kind ∷ []) ≡ k ∷ []
    by true e = absurd (none-some k e)
    by false e = ap (λ (x : Kind). x ∷ []) (same_Some ty.kind k e)

abbrev plain_id : ℕ → Option Item → List ℕ
plain_id id None = []
plain_id id (Some ty) = if ty.kind.entry then [] else id ∷ []

id_is : (id : ℕ) (o : Option Item) → is_some (shown_of o) ≡ true → plain_id id o ≡ id ∷ []
id_is id None w = absurd (false≢true w)
id_is id (Some ty) w = by ty.kind.entry w
  where
    by : (b : Bool) → is_some (if b then None else Some ty.kind) ≡ true → (if b then [] else id ∷ []) ≡ id ∷ []
    by true e = absurd (false≢true e)
    by false e = refl

no_id : (id : ℕ) (o : Option Item) → is_some (shown_of o) ≡ false → plain_id id o ≡ []
no_id id None w = refl
no_id id (Some ty) w = by ty.kind.entry w
  where
    by : (b : Bool) → is_some (if b then None else Some ty.kind) ≡ false → (if b then [] else id ∷ []) ≡ []
    by true e = refl
    by false e = absurd (false≢true (sym e))

flat_same : {A B : Type 0} (f g : A → List B) → ((x : A) → f x ≡ g x) → (xs : List A) → flat_map f xs ≡ flat_map g xs
flat_same f g h xs = ap (λ k. flat_map k xs) (λ i x. h x i)

take_all : {X : Type 0} (n : ℕ) (xs ys : List X) → n ≡ length xs → take n (xs ++ ys) ≡ xs
take_all {X} n xs ys e = subst (λ (m : ℕ). take m (xs ++ ys) ≡ xs) (sym e) (all xs)
  where
    all : (xs : List X) → take (length xs) (xs ++ ys) ≡ xs
    all [] = refl
    all (x ∷ xs) = ap (λ (l : List X). x ∷ l) (all xs)

drop_all : {X : Type 0} (n : ℕ) (xs ys : List X) → n ≡ length xs → drop n (xs ++ ys) ≡ ys
drop_all {X} n xs ys e = subst (λ (m : ℕ). drop m (xs ++ ys) ≡ ys) (sym e) (all xs)
  where
    all : (xs : List X) → drop (length xs) (xs ++ ys) ≡ ys
    all [] = refl
    all (x ∷ xs) = all xs

module _ (t : Table) where
  abbrev pub ids_in : List ℕ → List ℕ
  ids_in ids = flat_map (λ id. plain_id id (type_at t id)) ids

  abbrev pub kinds_in : List ℕ → List Kind
  kinds_in ids = flat_map (λ id. plain_kind (type_at t id)) ids

  abbrev Inside : List ℕ → Type 0
  Inside xs = (k id : ℕ) → slice_get xs k ≡ Some id → is_written t id ≡ true

  -- ---- the ids of all types

  abbrev alone : ℕ → Table
  alone id = record { types = t.types; groups = Some (record { explicit = false; types = id ∷ [] }) ∷ [] }

  one_id : (id : ℕ) (o : Option Item) → type_at t id ≡ o → type_ids (alone id) ≡ plain_id id o
  one_id id None e = rw e refl
  one_id id (Some ty) e = by ty.kind.entry refl
    where
      by : (b : Bool) → ty.kind.entry ≡ b → type_ids (alone id) ≡ plain_id id (Some ty)
      by true f = rw (e, f) refl
      by false f = rw (e, f) refl

  ids_are : type_ids t ≡ flat_map (λ (e : ℕ × Group). ids_in e.1.types) (entries_from 0 t.groups)
  ids_are = flat_same _ (λ (e : ℕ × Group). ids_in e.1.types) (λ (e : ℕ × Group). flat_same _ (λ id. plain_id id (type_at t id)) (λ id. sym (append-nil _) ∙ sym (append-nil _) ∙ one_id id (type_at t id) refl) e.1.types) (entries_from 0 t.groups)

  ids_all : (xs : List ℕ) → Inside xs → ids_in xs ≡ xs
  ids_all [] inside = refl
  ids_all (x ∷ xs) inside =
      ap (λ (l : List ℕ). l ++ ids_in xs) (id_is x (type_at t x) (inside 0 x refl)) ∙ ap (λ (l : List ℕ). x ∷ l) (ids_all xs (λ k id at. inside (suc k) id at))

  ids_none : (xs : List ℕ) → ((k id : ℕ) → slice_get xs k ≡ Some id → is_written t id ≡ false) → ids_in xs ≡ []
  ids_none [] none = refl
  ids_none (x ∷ xs) none = ap (λ (l : List ℕ). l ++ ids_in xs) (no_id x (type_at t x) (none 0 x refl)) ∙ ids_none xs (λ k id at. none (suc k) id at)

  -- so many groups as are shown, and all types of these
  abbrev shown : ℕ → List (Option Group) → List Group
  shown n slots = filter (is_shown t) (map (λ (e : ℕ × Group). e.1) (entries_from n slots))

  ids_shown : (n : ℕ) (slots : List (Option Group)) → ((i : ℕ) (g : Group) → slice_index_or slots i None ≡ Some g → is_shown t g ≡ true → Inside g.types)
      → flat_map (λ (e : ℕ × Group). ids_in e.1.types) (entries_from n slots) ≡ flat_map types_of (shown n slots)
  ids_shown n [] all = refl
  ids_shown n (None ∷ slots) all = ids_shown (n + 1) slots (λ i. all (suc i))
  ids_shown n (Some g ∷ slots) all =
      let later = ids_shown (n + 1) slots (λ i. all (suc i)) in
      let more : List Group = map (λ (e : ℕ × Group). e.1) (entries_from (n + 1) slots) in
      let rest : List ℕ = flat_map (λ (e : ℕ × Group). ids_in e.1.types) (entries_from (n + 1) slots) in
      elim (cases_Bool (is_shown t g)) as (λ _. ids_in g.types ++ rest ≡ flat_map types_of (filter (is_shown t) (g ∷ more))) [
        | inl so ↦
            ap (λ (l : List ℕ). l ++ rest) (ids_all g.types (all 0 g refl so)) ∙ ap (λ (l : List ℕ). g.types ++ l) later
            ∙ sym (ap (λ (l : List Group). flat_map types_of l) (passed (is_shown t) g more so))
        | inr not_so ↦
            ap (λ (l : List ℕ). l ++ rest) (ids_none g.types (none_of (is_written t) g.types not_so)) ∙ later
            ∙ sym (ap (λ (l : List Group). flat_map types_of l) (failed (is_shown t) g more not_so))
      ]

  pub ids_members : ((place : ℕ) (g : Group) → group_at t place ≡ Some g → is_shown t g ≡ true → Inside g.types) → type_ids t ≡ flat_map types_of (written_groups t)
  ids_members all = ids_are ∙ ids_shown 0 t.groups all

  -- ---- groups

  has_more : (marked : Bool) (o : Option Item) (ks : List Kind) (b : Bool) → has_kinds (record { marked = marked; kinds = ks }) ≡ b → has_kinds (record { marked = marked; kinds = plain_kind o ++ ks }) ≡ (is_some (shown_of o) || b)
  has_more marked None ks b h = h
  has_more marked (Some ty) ks b h = by ty.kind.entry
    where
      by : (e : Bool) → has_kinds (record { marked = marked; kinds = (if e then [] else ty.kind ∷ []) ++ ks }) ≡ (is_some (if e then None else Some ty.kind) || b)
      by true = h
      by false = refl

  has_shown : (marked : Bool) (xs : List ℕ) → has_kinds (record { marked = marked; kinds = kinds_in xs }) ≡ list_any (is_written t) xs
  has_shown marked [] = refl
  has_shown marked (x ∷ xs) = has_more marked (type_at t x) (kinds_in xs) (list_any (is_written t) xs) (has_shown marked xs)

  groups_in : (es : List (ℕ × Group)) → filter has_kinds (map (λ e. group_kinds t e.1) es) ≡ map (group_kinds t) (filter (is_shown t) (map (λ (e : ℕ × Group). e.1) es))
  groups_in [] = refl
  groups_in (e ∷ es) =
      ap (λ (b : Bool). if b then group_kinds t e.1 ∷ filter has_kinds (map (λ e. group_kinds t e.1) es) else filter has_kinds (map (λ e. group_kinds t e.1) es)) (has_shown e.1.explicit e.1.types)
      ∙ by (is_shown t e.1) (groups_in es)
    where
      by : (b : Bool) → filter has_kinds (map (λ e. group_kinds t e.1) es) ≡ map (group_kinds t) (filter (is_shown t) (map (λ (e : ℕ × Group). e.1) es))
          → (if b then group_kinds t e.1 ∷ filter has_kinds (map (λ e. group_kinds t e.1) es) else filter has_kinds (map (λ e. group_kinds t e.1) es))
          ≡ map (group_kinds t) (if b then e.1 ∷ filter (is_shown t) (map (λ (e : ℕ × Group). e.1) es) else filter (is_shown t) (map (λ (e : ℕ × Group). e.1) es))
      by true later = ap (λ (l : List TypeGroup). group_kinds t e.1 ∷ l) later
      by false later = later

  pub own_are : own_groups t ≡ map (group_kinds t) (written_groups t)
  own_are = groups_in (entries_from 0 t.groups)

  -- ---- the kinds of groups whose types are written

  kinds_many : (xs : List ℕ) → Inside xs → length (kinds_in xs) ≡ length xs
  kinds_many [] inside = refl
  kinds_many (x ∷ xs) inside =
      let k = kind_of t x (inside 0 x refl) in
      ap (λ (l : List Kind). length (l ++ kinds_in xs)) (plain_is (type_at t x) k.0 k.1) ∙ ap suc (kinds_many xs (λ j id at. inside (suc j) id at))

  kind_at : (xs : List ℕ) → Inside xs → (k id : ℕ) (kind : Kind) → slice_get xs k ≡ Some id → written_kind t id ≡ Some kind → slice_get (kinds_in xs) k ≡ Some kind
  kind_at [] inside k id kind at is = absurd (none-some id at)
  kind_at (x ∷ xs) inside zero id kind at is =
      ap (λ (l : List Kind). slice_get (l ++ kinds_in xs) 0) (plain_is (type_at t x) kind (ap (written_kind t) (same_Some x id at) ∙ is))
  kind_at (x ∷ xs) inside (suc k) id kind at is =
      let own = kind_of t x (inside 0 x refl) in
      ap (λ (l : List Kind). slice_get (l ++ kinds_in xs) (suc k)) (plain_is (type_at t x) own.0 own.1) ∙ kind_at xs (λ j i is_at. inside (suc j) i is_at) k id kind at is

  kinds_flat : (gs : List Group) → kinds_of (map (group_kinds t) gs) ≡ kinds_in (flat_map types_of gs)
  kinds_flat [] = refl
  kinds_flat (g ∷ gs) =
      ap (λ (l : List Kind). kinds_in g.types ++ l) (kinds_flat gs) ∙ sym (flat_append (λ id. plain_kind (type_at t id)) g.types (flat_map types_of gs))

  module _ (gs : List Group) (inside : Inside (flat_map types_of gs)) where
    pub groups_many : length (kinds_of (map (group_kinds t) gs)) ≡ length (flat_map types_of gs)
    groups_many = ap (λ (l : List Kind). length l) (kinds_flat gs) ∙ kinds_many (flat_map types_of gs) inside

    pub groups_kind : (k id : ℕ) (kind : Kind) → slice_get (flat_map types_of gs) k ≡ Some id → written_kind t id ≡ Some kind → slice_get (kinds_of (map (group_kinds t) gs)) k ≡ Some kind
    groups_kind k id kind at is = ap (λ (l : List Kind). slice_get l k) (kinds_flat gs) ∙ kind_at (flat_map types_of gs) inside k id kind at is

  -- each group with the numbers of its types
  pub groups_numbered : (r : ℕ → ℕ) (gs : List Group) → AllWritten t gs
      → numbered (map (group_kinds t) gs) (map r (flat_map types_of gs)) ≡ map (λ (g : Group). (group_kinds t g, map r g.types)) gs
  groups_numbered r [] all = refl
  groups_numbered r (g ∷ gs) all =
      let n : ℕ = length (kinds_in g.types) in
      let many : n ≡ length (map r g.types) = kinds_many g.types (λ k id at. all 0 k g id refl at) ∙ sym (length-map g.types r) in
      let later : List ℕ = map r (flat_map types_of gs) in
      let whole : map r (flat_map types_of (g ∷ gs)) ≡ map r g.types ++ later = map-append r g.types (flat_map types_of gs) in
      ap (λ (l : List ℕ). numbered (group_kinds t g ∷ map (group_kinds t) gs) l) whole
      ∙ ap (λ (l : List ℕ). let p : TypeGroup × List ℕ = (group_kinds t g, l) in p ∷ numbered (map (group_kinds t) gs) (drop n (map r g.types ++ later))) (take_all n (map r g.types) later many)
      ∙ ap (λ (l : List ℕ). let p : TypeGroup × List ℕ = (group_kinds t g, map r g.types) in p ∷ numbered (map (group_kinds t) gs) l) (drop_all n (map r g.types) later many)
      ∙ ap (λ (l : List (TypeGroup × List ℕ)). let p : TypeGroup × List ℕ = (group_kinds t g, map r g.types) in p ∷ l) (groups_numbered r gs (λ p k h id at_p at_k. all (suc p) k h id at_p at_k))
