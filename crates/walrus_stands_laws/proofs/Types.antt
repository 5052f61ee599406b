-- Lemmas: the types that are left are listed by their places.
use Rattle.std.specs.Prelude.{ℕ, zero, suc, ◌≡◌, ◌+◌, ◌||◌, Bool, true, false, Contains, List, [], ◌∷◌, map, filter, Option, Some, None, IsSome, is_some, slice_get, slice_index_or, refl, if◌then◌else◌}
use Rattle.std.specs.List.{list_any}
use Rattle.std.specs.Option.{option_and_then, unwrap_or}
use Rattle.std.proofs.Common.{ap, sym, ◌∙◌, subst, arith, inl, inr}
use Rattle.std.proofs.lemmas.Bool.{eq-eqb, ne_eqb}
use Rattle.std.proofs.lemmas.Option.{get_or_from_slice_get, none-some, same_Some, slice_get_within}
use Rattle.walrus_forms.specs.Renaming.{index_at}
use Rattle.walrus_meaning.specs.Meaning.{type_ids}
use Rattle.walrus_module.specs.Items.{written, written_type}
use Rattle.walrus_types.specs.Emission.{IsEmission, is_written, shown_kind, written_groups, written_in, written_types}
use Rattle.walrus_types.specs.Items.{Item, Group}
use Rattle.walrus_types.specs.Table.{Table, type_at}
use Rattle.walrus_types.specs.TypeLaws.{AreGrouped}
use Rattle.walrus_types.proofs.OnceLemmas.{place_written, reordered, some_is}
use Rattle.walrus_types.proofs.Places.{Has, at_map, contains_has, has_contains, map_at, seat, start, unseat}
use Rattle.walrus_type_arenas.proofs.DeleteLemmas.{contains-filter}
use Rattle.walrus_pass_laws.proofs.Sets.{In, contains_of, in_of}
use Rattle.walrus_kept_types_laws.specs.Placed.{place_among, placed_indices}
use Rattle.walrus_kept_laws.proofs.Reach.{AreOnce}
use Rattle.walrus_kept_laws.proofs.Types.{ids_once, type_placed}
use Rattle.walrus_stands_laws.specs.Types.{LeftTypesAreListed}

-- ---- places

place_at : (ids : List ℕ) → AreOnce ids → (k id : ℕ) → slice_get ids k ≡ Some id → place_among ids id ≡ k
place_at [] once k id at = absurd (none-some id at)
place_at (n ∷ ns) once zero id at =
    let e : n ≡ id = same_Some n id at in
    ap (λ (b : Bool). if b then 0 else suc (place_among ns id)) (eq-eqb n id e)
place_at (n ∷ ns) once (suc k) id at =
    let apart : n ≡ id → ⊥ = λ e. (let z = once 0 (suc k) id (ap (λ (x : ℕ). let o : Option ℕ = Some x in o) e) at in omega (arith, z)) in
    ap (λ (b : Bool). if b then 0 else suc (place_among ns id)) (ne_eqb n id apart)
    ∙ ap suc (place_at ns (λ p q x at_p at_q. (let e = once (suc p) (suc q) x at_p at_q in omega (arith, e))) k id at)

any_true : (test : ℕ → Bool) (xs : List ℕ) (x : ℕ) → In xs x → test x ≡ true → list_any test xs ≡ true
any_true test [] x h e = absurd h
any_true test (y ∷ xs) x (inl same) e = ap (λ (b : Bool). b || list_any test xs) (ap test same ∙ e)
any_true test (y ∷ xs) x (inr h) e = ap (λ (b : Bool). test y || b) (any_true test xs x h e) ∙ or_true (test y)
  where
    or_true : (b : Bool) → (b || true) ≡ true
    or_true true = refl
    or_true false = refl

in_passed : (test : ℕ → Bool) (xs : List ℕ) (x : ℕ) → In xs x → test x ≡ true → In (filter test xs) x
in_passed test [] x h e = absurd h
in_passed test (y ∷ xs) x (inl same) e = subst (λ (b : Bool). In (if b then y ∷ filter test xs else filter test xs) x) (sym (ap test same ∙ e)) (inl same)
in_passed test (y ∷ xs) x (inr h) e = by (test y) (in_passed test xs x h e)
  where
    by : (b : Bool) → In (filter test xs) x → In (if b then y ∷ filter test xs else filter test xs) x
    by true h = inr h
    by false h = h

-- ---- types that are written

record Shown (t : Table) (id : ℕ) : Type 0 where
  ty : Item
  known : type_at t id ≡ Some ty
  plain : ty.kind.entry ≡ false

shown : (t : Table) (id : ℕ) → IsSome (written_type t id) → Shown t id
shown t id h = by (type_at t id) refl h
  where
    by : (o : Option Item) → type_at t id ≡ o → IsSome (written o) → Shown t id
    by None at s = absurd cc
    by (Some ty) at s = go ty.kind.entry refl s
      where
        go : (b : Bool) → ty.kind.entry ≡ b → IsSome (if b then None else Some ty) → Shown t id
        go true e s = absurd cc
        go false e s = record { ty = ty; known = at; plain = e }

shown_written : (t : Table) (id : ℕ) → is_written t id ≡ true → Shown t id
shown_written t id h = by (type_at t id) refl h
  where
    by : (o : Option Item) → type_at t id ≡ o → is_some (option_and_then (λ (i : Item). shown_kind i.kind) o) ≡ true → Shown t id
    by None at s = absurd cc
    by (Some ty) at s = go ty.kind.entry refl s
      where
        go : (b : Bool) → ty.kind.entry ≡ b → is_some (if b then None else Some ty.kind) ≡ true → Shown t id
        go true e s = absurd cc
        go false e s = record { ty = ty; known = at; plain = e }

written_so : (t : Table) (id : ℕ) → Shown t id → is_written t id ≡ true
written_so t id s =
    ap (λ (o : Option Item). is_some (option_and_then (λ (i : Item). shown_kind i.kind) o)) s.known ∙ ap (λ (b : Bool). is_some (if b then None else Some s.ty.kind)) s.plain

some_so : (t : Table) (id : ℕ) → Shown t id → IsSome (written_type t id)
some_so t id s = subst (λ (o : Option Item). IsSome (written o)) (sym s.known) (subst (λ (b : Bool). IsSome (if b then None else Some s.ty)) (sym s.plain) refl)

-- ---- the order in which they are written

module _ (t : Table) (grouped : AreGrouped t) (out : _) (indices : List (Option ℕ)) (e : IsEmission t out indices) where
  listed : (id : ℕ) → Shown t id → Has (written_types t e.groups) id
  listed id s =
      let w = written_so t id s in
      let home = grouped.listed id s.ty s.known in
      let wg = place_written t home.1.place home.0 home.1.live (any_true (is_written t) home.0.types id (in_of home.0.types id home.1.listed) w) in
      let re = reordered t e.groups e.arranged.in_order in
      let turn = re.turns.onto wg.0 (slice_get_within (written_groups t) wg.0 home.0 wg.1) in
      let f = re.forth turn.0 wg.0 turn.1 in
      let same : home.0 ≡ f.0 = same_Some home.0 f.0 (sym wg.1 ∙ f.2) in
      let member : Contains (written_in t f.0) id = contains_of (written_in t f.0) id (in_passed (is_written t) f.0.types id (in_of f.0.types id (subst (λ (g : Group). Contains g.types id) same home.1.listed)) w) in
      let k = contains_has (written_in t f.0) id member in
      (start (written_in t) e.groups turn.0 + k.0, unseat (written_in t) e.groups turn.0 k.0 f.0 id f.1 k.1)

  index_of : (id : ℕ) → Shown t id → (index : ℕ) × (slice_index_or indices id None ≡ Some index)
  index_of id s = (unwrap_or (slice_index_or indices id None) 0, some_is (slice_index_or indices id None) (e.arranged.indexed.each id (has_contains (written_types t e.groups) id (listed id s))))

  written_at : (id index : ℕ) → slice_index_or indices id None ≡ Some index → is_written t id ≡ true
  written_at id index is =
      let s = seat (written_in t) e.groups index id (e.arranged.indexed.place id index is) in
      (contains-filter (is_written t) s.from.types id (has_contains (written_in t s.from) id (s.place, s.at_place))).1

-- ---- of what is left

pub types_listed : LeftTypesAreListed
types_listed old new grouped still left out indices order e inverse =
    let ids : List ℕ = type_ids old in
    let once : AreOnce ids = ids_once old grouped in
    record {
      each = λ place id at some.
          let index = index_of new still out indices e id (shown new id some) in
          let renamed : index_at (placed_indices ids indices) place ≡ index.0 =
          ap (λ (o : Option ℕ). unwrap_or o 0) (get_or_from_slice_get (placed_indices ids indices) place (slice_index_or indices id None) None (at_map (λ n. slice_index_or indices n None) ids place id at) ∙ index.1) in
          ap (λ (n : ℕ). slice_get (map (place_among ids) order) n) renamed
          ∙ at_map (place_among ids) order index.0 id ((inverse index.0 id).1 index.1)
          ∙ ap (λ (n : ℕ). let o : Option ℕ = Some n in o) (place_at ids once place id at);
      only = λ i place at.
          let m = map_at (place_among ids) order i place at in
          let s = shown_written new m.0 (written_at new still out indices e m.0 i ((inverse i m.0).0 m.1)) in
          let there = type_placed old grouped m.0 s.ty (left.only m.0 s.ty s.known) s.plain in
          (m.0, ap (λ (n : ℕ). slice_get ids n) (sym m.2 ∙ place_at ids once there.0 m.0 there.1) ∙ there.1, some_so new m.0 s);
    }
