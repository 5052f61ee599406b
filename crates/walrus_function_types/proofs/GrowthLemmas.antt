-- Lemmas: tables of types that grow.
use Rattle.std.proofs.Common.{◌≡◌, ◌∙◌, ◌⊎◌, inl, inr, ℕ, zero, suc, ◌+◌, ◌-◌, ◌<◌, ◌≤◌, Bool, true, false, List, [], ◌∷◌, ◌++◌, length, refl, sym, ap, subst, arith, if◌then◌else◌}
use Rattle.std.proofs.lemmas.Bool.{cases_lt}
use Rattle.std.proofs.lemmas.List.{append_assoc}
use Rattle.std.specs.Prelude.{Option, Some, None, MatchOption, slice_index_or}
use Rattle.walrus_forms.proofs.EqLemmas.{same-kind-law}
use Rattle.walrus_types.proofs.LawLemmas.{latest-law}
use Rattle.walrus_types.specs.TypeLaws.{IsLatest}
use Rattle.walrus_types.specs.walrus_forms.declared.value.ValType.{ValType}
use Rattle.walrus_types.specs.walrus_forms.Kinds.{Kind, entry_kind, function_kind}
use Rattle.walrus_types.specs.walrus_forms.Same.{same_kind}
use Rattle.walrus_types.specs.Items.{Item}
use Rattle.walrus_types.specs.Table.{Adds, Merges, Table, equal_type, found_type, latest_id, latest_in, next_id, type_at}
use Rattle.walrus_arena.specs.Arena.{entries_from}
use Rattle.walrus_function_types.specs.Growth.{EntryTypesGrow, FoundTypesStay, Grows, Stays, TablesGrowOn}

-- ---- slots one behind the other

some_is : {X : Type 0} (x y : X) → Some x ≡ Some y → x ≡ y
some_is x y e = cc

within : (xs : List (Option Item)) (i : ℕ) (x : Item) → slice_index_or xs i None ≡ Some x → i < length xs
within [] i x e = absurd cc
within (y ∷ ys) zero x e = omega arith
within (y ∷ ys) (suc i) x e = let lt = within ys i x e in omega (arith, lt)

pub front : (xs ys : List (Option Item)) (i : ℕ) → i < length xs → slice_index_or (xs ++ ys) i None ≡ slice_index_or xs i None
front [] ys i lt = absurd (omega (arith, lt))
front (x ∷ xs) ys zero lt = refl
front (x ∷ xs) ys (suc i) lt = front xs ys i (omega (arith, lt))

back : (xs ys : List (Option Item)) (i j : ℕ) → length xs + i ≡ j → slice_index_or (xs ++ ys) j None ≡ slice_index_or ys i None
back [] ys i j is = let e : j ≡ i = omega (arith, is) in ap (λ (k : ℕ). slice_index_or ys k None) e
back (x ∷ xs) ys i zero is = absurd (omega (arith, is))
back (x ∷ xs) ys i (suc j) is = back xs ys i j (omega (arith, is))

one_behind : (xs : List (Option Item)) (item : Item) (i : ℕ) (y : Item) → length xs ≤ i → slice_index_or (xs ++ Some item ∷ []) i None ≡ Some y → item ≡ y
one_behind [] item zero y le e = some_is item y e
one_behind [] item (suc i) y le e = absurd cc
one_behind (x ∷ xs) item zero y le e = absurd (omega (arith, le))
one_behind (x ∷ xs) item (suc i) y le e = one_behind xs item i y (omega (arith, le)) e

-- ---- what lives, and what is found

pub lives_on : (t v : Table) → Grows t v → (id : ℕ) (item : Item) → type_at t id ≡ Some item → type_at v id ≡ Some item
lives_on t v g id item e = ap (λ (l : List (Option Item)). slice_index_or l id None) g.behind ∙ front t.types g.more id (within t.types id item e) ∙ e

module _ (test : Item → Bool) where
  abbrev passes : ℕ × Item → Bool
  passes e = test e.1

  latest_append : (xs ys : List (Option Item)) (first : ℕ) (found : Option ℕ)
      → latest_in passes found (entries_from first (xs ++ ys)) ≡ latest_in passes (latest_in passes found (entries_from first xs)) (entries_from (first + length xs) ys)
  latest_append [] ys first found = let e : first ≡ first + 0 = omega arith in ap (λ (n : ℕ). latest_in passes found (entries_from n ys)) e
  latest_append (None ∷ xs) ys first found =
      let e : first + 1 + length xs ≡ first + suc (length xs) = omega arith in
      latest_append xs ys (first + 1) found ∙ ap (λ (n : ℕ). latest_in passes (latest_in passes found (entries_from (first + 1) xs)) (entries_from n ys)) e
  latest_append (Some x ∷ xs) ys first found =
      let e : first + 1 + length xs ≡ first + suc (length xs) = omega arith in
      let next : Option ℕ = if test x then Some first else found in
      latest_append xs ys (first + 1) next ∙ ap (λ (n : ℕ). latest_in passes (latest_in passes next (entries_from (first + 1) xs)) (entries_from n ys)) e

  latest_kept : (ys : List (Option Item)) (first : ℕ) (found : Option ℕ) → ((i : ℕ) (y : Item) → slice_index_or ys i None ≡ Some y → test y ≡ false)
      → latest_in passes found (entries_from first ys) ≡ found
  latest_kept [] first found none = refl
  latest_kept (None ∷ ys) first found none = latest_kept ys (first + 1) found (λ i y e. none (suc i) y e)
  latest_kept (Some x ∷ ys) first found none =
      let same : (if test x then Some first else found) ≡ found = ap (λ (c : Bool). if c then Some first else found) (none 0 x refl) in
      ap (λ (o : Option ℕ). latest_in passes o (entries_from (first + 1) ys)) same ∙ latest_kept ys (first + 1) found (λ i y e. none (suc i) y e)

pub found_stays : (t v : Table) → Grows t v → (params results : List ValType) (id : ℕ) → found_type params results t ≡ Some id → found_type params results v ≡ Some id
found_stays t v g params results id e =
    ap (λ (l : List (Option Item)). latest_in (λ x. test x.1) None (entries_from 0 l)) g.behind
    ∙ latest_append test t.types g.more 0 None
    ∙ latest_kept test g.more (0 + length t.types) (found_type params results t) none
    ∙ e
  where
    wanted : Kind
    wanted = function_kind params results

    test : Item → Bool
    test x = same_kind x.kind wanted

    last : IsLatest (λ x. test x.1) t id
    last = subst (λ (o : Option ℕ). MatchOption o ((other : ℕ) (x : Item) → type_at t other ≡ Some x → test x ≡ false) (IsLatest (λ x. test x.1) t)) e (latest-law t (λ x. test x.1))

    none : (i : ℕ) (y : Item) → slice_index_or g.more i None ≡ Some y → test y ≡ false
    none i y there = go (same_kind y.kind wanted) refl
      where
        go : (c : Bool) → same_kind y.kind wanted ≡ c → test y ≡ false
        go false is = is
        go true is =
            let kind_is : y.kind ≡ wanted = (same-kind-law y.kind wanted).0 is in
            let mine : last.item.kind ≡ wanted = (same-kind-law last.item.kind wanted).0 last.passes in
            let at : type_at v (length t.types + i) ≡ Some y = ap (λ (l : List (Option Item)). slice_index_or l (length t.types + i) None) g.behind ∙ back t.types g.more i (length t.types + i) refl ∙ there in
            absurd (g.apart id (length t.types + i) last.item y last.live (omega arith) at (ap (λ (k : Kind). k.entry) kind_is) (mine ∙ sym kind_is))

pub found_types_stay : FoundTypesStay
found_types_stay t v g = record { live = lives_on t v g; found = found_stays t v g }

-- ---- one by one

pub grows_same : (t v : Table) → v ≡ t → Grows t v
grows_same t v is = subst (Grows t) (sym is) (record { more = []; behind = nothing t.types; apart = λ id other x y live le there plain alike. absurd (let lt = within t.types other y there in omega (arith, lt, le)) })
  where
    nothing : (l : List (Option Item)) → l ≡ l ++ []
    nothing [] = refl
    nothing (x ∷ l) = ap (λ (k : List (Option Item)). x ∷ k) (nothing l)

pub grows_on : TablesGrowOn
grows_on t v w g h = record {
  more = g.more ++ h.more;
  behind = h.behind ∙ ap (λ (l : List (Option Item)). l ++ h.more) g.behind ∙ append_assoc t.types g.more h.more;
  apart = λ id other x y live le there plain. go id other x y live le there plain (cases_lt other (next_id v));
}
  where
    go : (id other : ℕ) (x y : Item) → type_at t id ≡ Some x → next_id t ≤ other → type_at w other ≡ Some y → y.kind.entry ≡ false → (other < next_id v) ⊎ (next_id v ≤ other) → x.kind ≡ y.kind → ⊥
    go id other x y live le there plain (inl lt) =
        g.apart id other x y live le (sym (ap (λ (l : List (Option Item)). slice_index_or l other None) h.behind ∙ front v.types h.more other lt) ∙ there) plain
    go id other x y live le there plain (inr behind) = h.apart id other x y (lives_on t v g id x live) behind there plain

-- a type was added that nothing equals, or an entry type
pub adds_grow : (kind : Kind) (id : ℕ) (t v : Table) → Adds kind id t v → ((k : ℕ) (x : Item) → type_at t k ≡ Some x → kind.entry ≡ false → x.kind ≡ kind → ⊥) → Grows t v
adds_grow kind id t v adds new = record {
  more = Some item ∷ [];
  behind = adds.types;
  apart = λ k other x y live le there plain alike.
      let one : item ≡ y = one_behind t.types item other y le (sym (ap (λ (l : List (Option Item)). slice_index_or l other None) adds.types) ∙ there) in
      let same : kind ≡ y.kind = ap (λ (z : Item). z.kind) one in
      new k x live (ap (λ (z : Kind). z.entry) same ∙ plain) (alike ∙ sym same);
}
  where
    item : Item
    item = record { id = id; kind = kind; name = None }

pub merges_grow : (kind : Kind) (id : ℕ) (t v : Table) → Merges kind id t v → ((k : ℕ) (x : Item) → type_at t k ≡ Some x → kind.entry ≡ false → x.kind ≡ kind → ⊥) → Grows t v
merges_grow kind id t v m new = go (equal_type kind t) m
  where
    go : (o : Option ℕ) → MatchOption o (Adds kind id t v) (λ found. (id ≡ found) × (v ≡ t)) → Grows t v
    go None adds = adds_grow kind id t v adds new
    go (Some found) h = grows_same t v h.1

-- where nothing is found by these lists
pub function_grows : (params results : List ValType) (id : ℕ) (t v : Table) → found_type params results t ≡ None → Merges (function_kind params results) id t v → Grows t v
function_grows params results id t v none m = merges_grow wanted id t v m (λ k x live plain is. absurd (let a = missing k x live in let b = (same-kind-law x.kind wanted).1 is in let c = sym a ∙ b in cc))
  where
    wanted : Kind
    wanted = function_kind params results

    missing : (k : ℕ) (x : Item) → type_at t k ≡ Some x → same_kind x.kind wanted ≡ false
    missing = subst (λ (o : Option ℕ). MatchOption o ((k : ℕ) (x : Item) → type_at t k ≡ Some x → same_kind x.kind wanted ≡ false) (IsLatest (λ x. same_kind x.1.kind wanted) t)) none (latest-law t (λ x. same_kind x.1.kind wanted))

pub entry_grows : EntryTypesGrow
entry_grows results id t v m = merges_grow (entry_kind results) id t v m (λ k x live plain is. absurd cc)
