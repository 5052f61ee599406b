-- Lemmas: the type that is found for parameters and results, by ids and by places.
use Rattle.std.specs.Prelude.{ℕ, zero, suc, ◌≡◌, ◌⊎◌, ◌<◌, ◌≤◌, ◌+◌, ◌&&◌, Bool, true, false, List, [], ◌∷◌, ◌++◌, length, Option, Some, None, MatchOption, slice_get, refl, if◌then◌else◌}
use Rattle.std.proofs.Common.{ap, sym, ◌∙◌, subst, arith, inl, inr}
use Rattle.std.proofs.lemmas.Bool.{cases_lt}
use Rattle.std.proofs.lemmas.List.{length-append}
use Rattle.std.proofs.lemmas.Option.{none-some, same_Some, slice_get_within}
use Rattle.walrus_forms.specs.declared.value.ValType.{ValType}
use Rattle.walrus_forms.specs.Kinds.{Kind, function_kind, kind_names}
use Rattle.walrus_forms.specs.Renaming.{renamed_kind}
use Rattle.walrus_forms.specs.Same.{SameKindIsEquality, same_kind}
use Rattle.walrus_forms.proofs.RenamingLemmas.{In, kinds-agree}
use Rattle.walrus_types.specs.Items.{Item}
use Rattle.walrus_types.specs.Table.{Table, found_type, type_at}
use Rattle.walrus_types.specs.TypeLaws.{FindsLatest, IsLatest}
use Rattle.wasm_body_grammar.specs.Rules.{found_in, latest_from, leads, serves}
use Rattle.wasm_merged_modules.specs.Merged.{AreNew}
use Rattle.wasm_merged_modules.proofs.Merged.{alone_leads}
use Rattle.wasm_normal_modules.proofs.Reading.{kind_own}

-- ---- the last of some kinds that passes

module _ (test : ℕ → Kind → Bool) where
  -- a place from the first one on, whose kind passes
  pub record PassesAt (first : ℕ) (kinds : List Kind) (r : ℕ) : Type 0 where
    pub place : ℕ
    pub kind : Kind
    pub is : r ≡ first + place
    pub known : slice_get kinds place ≡ Some kind
    pub passes : test r kind ≡ true

  later : (first : ℕ) (k : Kind) (kinds : List Kind) (r : ℕ) → PassesAt (first + 1) kinds r → PassesAt first (k ∷ kinds) r
  later first k kinds r h = record { place = suc h.place; kind = h.kind; is = omega (arith, h.is); known = h.known; passes = h.passes }

  kept_on : (kinds : List Kind) (first f : ℕ) → (r : ℕ) × (latest_from test first (Some f) kinds ≡ Some r) × ((r ≡ f) ⊎ PassesAt first kinds r)
  kept_on [] first f = (f, refl, inl refl)
  kept_on (k ∷ kinds) first f = by (kept_on kinds (first + 1) first) (kept_on kinds (first + 1) f) (test first k) refl
    where
      by : (r : ℕ) × (latest_from test (first + 1) (Some first) kinds ≡ Some r) × ((r ≡ first) ⊎ PassesAt (first + 1) kinds r)
          → (r : ℕ) × (latest_from test (first + 1) (Some f) kinds ≡ Some r) × ((r ≡ f) ⊎ PassesAt (first + 1) kinds r) → (b : Bool) → test first k ≡ b → (r : ℕ) × (latest_from test (first + 1) (if b then Some first else Some f) kinds ≡ Some r) × ((r ≡ f) ⊎ PassesAt first (k ∷ kinds) r)
      by t u true e = (
        t.0,
        t.1,
        elim t.2 as (λ _. (t.0 ≡ f) ⊎ PassesAt first (k ∷ kinds) t.0) [
          | inl same ↦ inr (record { place = 0; kind = k; is = omega (arith, same); known = refl; passes = ap (λ (n : ℕ). test n k) same ∙ e })
          | inr h ↦ inr (later first k kinds t.0 h)
        ],
      )
      by t u false e = (u.0, u.1, elim u.2 as (λ _. (u.0 ≡ f) ⊎ PassesAt first (k ∷ kinds) u.0) [ inl same ↦ inl same | inr h ↦ inr (later first k kinds u.0 h) ])

  -- where one passes, the last that does is no earlier
  pub last_passes : (kinds : List Kind) (first : ℕ) (found : Option ℕ) (j : ℕ) (kind : Kind) → slice_get kinds j ≡ Some kind → test (first + j) kind ≡ true
      → (r : ℕ) × (latest_from test first found kinds ≡ Some r) × (first + j ≤ r) × PassesAt first kinds r
  last_passes [] first found j kind e passes = absurd (none-some kind e)
  last_passes (k ∷ kinds) first found zero kind e passes =
      let here : test first k ≡ true = ap (λ (x : Kind). test first x) (same_Some k kind e) ∙ ap (λ (n : ℕ). test n kind) (let z : first ≡ first + 0 = omega arith in z) ∙ passes in
      let t = kept_on kinds (first + 1) first in
      let at : PassesAt first (k ∷ kinds) t.0 = elim t.2 as (λ _. PassesAt first (k ∷ kinds) t.0) [
        | inl same ↦ record { place = 0; kind = k; is = omega (arith, same); known = refl; passes = ap (λ (n : ℕ). test n k) same ∙ here }
        | inr h ↦ later first k kinds t.0 h
      ] in
      (t.0, ap (λ (b : Bool). latest_from test (first + 1) (if b then Some first else found) kinds) here ∙ t.1, (let is = at.is in omega (arith, is)), at)
  last_passes (k ∷ kinds) first found (suc j) kind e passes =
      let t = last_passes kinds (first + 1) (if test first k then Some first else found) j kind e (ap (λ (n : ℕ). test n kind) (let z : (first + 1) + j ≡ first + suc j = omega arith in z) ∙ passes) in
      (t.0, t.1, omega (arith, t.2), later first k kinds t.0 t.3)

-- ---- kinds that are new, one behind the other

pub get_front : (xs ys : List Kind) (n : ℕ) (k : Kind) → slice_get xs n ≡ Some k → slice_get (xs ++ ys) n ≡ Some k
get_front [] ys n k e = absurd (none-some k e)
get_front (x ∷ xs) ys zero k e = e
get_front (x ∷ xs) ys (suc n) k e = get_front xs ys n k e

get_behind : (xs ys : List Kind) (n : ℕ) → n < length xs → slice_get (xs ++ ys) n ≡ slice_get xs n
get_behind [] ys n lt = absurd (omega (arith, lt))
get_behind (x ∷ xs) ys zero lt = refl
get_behind (x ∷ xs) ys (suc n) lt = get_behind xs ys n (omega (arith, lt))

at_end : (xs : List Kind) (y : Kind) (ys : List Kind) → slice_get (xs ++ y ∷ ys) (length xs) ≡ Some y
at_end [] y ys = refl
at_end (x ∷ xs) y ys = at_end xs y ys

one_on : (xs : List Kind) (y : Kind) (ys : List Kind) → (xs ++ y ∷ []) ++ ys ≡ xs ++ y ∷ ys
one_on [] y ys = refl
one_on (x ∷ xs) y ys = ap (λ (l : List Kind). x ∷ l) (one_on xs y ys)

none_past : (xs : List Kind) (n : ℕ) (k : Kind) → length xs ≤ n → slice_get xs n ≡ Some k → ⊥
none_past [] n k le e = none-some k e
none_past (x ∷ xs) zero k le e = omega (arith, le)
none_past (x ∷ xs) (suc n) k le e = none_past xs n k (omega (arith, le)) e

-- none is one that stands before it
pub new_apart : (there kinds : List Kind) → AreNew there kinds → (i j : ℕ) (kind : Kind) → i < j → length there ≤ j → slice_get (there ++ kinds) i ≡ Some kind → slice_get (there ++ kinds) j ≡ Some kind → ⊥
new_apart there [] new i j kind lt le at_i at_j = none_past (there ++ []) j kind (let many = length-append there [] in omega (arith, le, many)) at_j
new_apart there (k ∷ kinds) new i j kind lt le at_i at_j = elim (cases_lt (length there) j) as (λ _. ⊥) [
  | inl past ↦ (
      let many = length-append there (k ∷ []) in
      new_apart (there ++ k ∷ []) kinds new.2 i j kind lt (omega (arith, past, many)) (ap (λ (l : List Kind). slice_get l i) (one_on there k kinds) ∙ at_i) (ap (λ (l : List Kind). slice_get l j) (one_on there k kinds) ∙ at_j)
      )
  | inr here ↦ (
      let same : length there ≡ j = omega (arith, le, here) in
      let is : k ≡ kind = same_Some k kind (sym (at_end there k kinds) ∙ ap (slice_get (there ++ k ∷ kinds)) same ∙ at_j) in
      new.1 i (sym (get_behind there (k ∷ kinds) i (omega (arith, lt, same))) ∙ at_i ∙ ap (λ (x : Kind). Some x) (sym is))
      )
]

not_both : (b : Bool) → b ≡ true → b ≡ false → ⊥
not_both b h g = cc

-- ---- the two

module _ (is : SameKindIsEquality) (finds : (test : ℕ × Item → Bool) (t : Table) → FindsLatest test t) (t : Table) (kinds : List Kind) (ids : List ℕ) (k : ℕ) (same : ℕ → ℕ)
    (own : (n : ℕ) → n < length kinds → same n ≡ n)
    (names : (n : ℕ) (kind : Kind) → slice_get kinds n ≡ Some kind → (j : ℕ) → In j (kind_names kind) → j < length kinds)
    (stands : (n id : ℕ) → slice_get ids n ≡ Some id → (x : Item) × (type_at t id ≡ Some x) × (slice_get kinds n ≡ Some x.kind))
    (placed : (id : ℕ) (x : Item) → type_at t id ≡ Some x → x.kind.entry ≡ false → (n : ℕ) × (slice_get ids n ≡ Some id))
    (has_id : (n : ℕ) (kind : Kind) → slice_get kinds n ≡ Some kind → (id : ℕ) × (slice_get ids n ≡ Some id))
    (fixed : (n : ℕ) → n < k → slice_get ids n ≡ Some n)
    (apart : (i j : ℕ) (kind : Kind) → i < j → k ≤ j → slice_get kinds i ≡ Some kind → slice_get kinds j ≡ Some kind → ⊥) where
  stays : (kind : Kind) → ((j : ℕ) → In j (kind_names kind) → j < length kinds) → renamed_kind same kind ≡ kind
  stays kind below = kinds-agree same (λ n. n) kind (λ n i. own n (below n i)) ∙ kind_own kind

  module _ (ps rs : List ValType) (below : (j : ℕ) → In j (kind_names (function_kind ps rs)) → j < length kinds) where
    abbrev wanted : Kind
    wanted = function_kind ps rs

    abbrev test : ℕ → Kind → Bool
    test n kind = leads same n && serves same ps rs kind

    wanted_serves : (n : ℕ) (kind : Kind) → slice_get kinds n ≡ Some kind → kind ≡ wanted → test n kind ≡ true
    wanted_serves n kind at e =
        let lt : n < length kinds = slice_get_within kinds n kind at in
        let lead : leads same n ≡ true = alone_leads same n (λ m less d. (let a = own m (omega (arith, less, lt)) in let b = own n lt in omega (arith, a, b, d, less))) in
        let serve : serves same ps rs kind ≡ true = (is (renamed_kind same kind) (renamed_kind same wanted)).1 (ap (renamed_kind same) e) in
        ap (λ (b : Bool). b && serves same ps rs kind) lead ∙ serve

    serves_wanted : (n : ℕ) (kind : Kind) → slice_get kinds n ≡ Some kind → test n kind ≡ true → kind ≡ wanted
    serves_wanted n kind at e =
        let serve : serves same ps rs kind ≡ true = right (leads same n) (serves same ps rs kind) e in
        sym (stays kind (names n kind at)) ∙ (is (renamed_kind same kind) (renamed_kind same wanted)).0 serve ∙ stays wanted below
      where
        right : (a b : Bool) → (a && b) ≡ true → b ≡ true
        right true b e = e
        right false b e = absurd cc

    pub found_there : (id : ℕ) → found_type ps rs t ≡ Some id → (n : ℕ) × (found_in same ps rs kinds ≡ Some n) × (slice_get ids n ≡ Some id)
    found_there id e =
        let latest : IsLatest (λ e. same_kind e.1.kind wanted) t id = subst (λ (o : Option ℕ). MatchOption o ((i : ℕ) (x : Item) → type_at t i ≡ Some x → same_kind x.kind wanted ≡ false) (IsLatest (λ e. same_kind e.1.kind wanted) t)) e (finds (λ e. same_kind e.1.kind wanted) t) in
        let kind_is : latest.item.kind ≡ wanted = (is latest.item.kind wanted).0 latest.passes in
        let home = placed id latest.item latest.live (ap (λ (x : Kind). x.entry) kind_is) in
        let there = stands home.0 id home.1 in
        let same_item : there.0 ≡ latest.item = same_Some there.0 latest.item (sym there.1 ∙ latest.live) in
        let known : slice_get kinds home.0 ≡ Some wanted = there.2 ∙ ap (λ (x : Item). Some x.kind) same_item ∙ ap (λ (x : Kind). Some x) kind_is in
        let r = last_passes test kinds 0 None home.0 wanted known (wanted_serves (0 + home.0) wanted (ap (slice_get kinds) (let z : 0 + home.0 ≡ home.0 = omega arith in z) ∙ known) refl) in
        let at = r.3 in
        let place : r.0 ≡ at.place = (let z = at.is in omega (arith, z)) in
        let at_r : slice_get kinds r.0 ≡ Some at.kind = ap (slice_get kinds) place ∙ at.known in
        let at_kind : at.kind ≡ wanted = serves_wanted r.0 at.kind at_r at.passes in
        let known_r : slice_get kinds r.0 ≡ Some wanted = at_r ∙ ap (λ (x : Kind). Some x) at_kind in
        let id_r = has_id r.0 wanted known_r in (
          r.0,
          r.1,
          elim (cases_lt home.0 r.0) as (λ _. slice_get ids r.0 ≡ Some id) [
            | inr past ↦ ap (slice_get ids) (let z : r.0 ≡ home.0 = (let le = r.2 in omega (arith, past, le)) in z) ∙ home.1
            | inl less ↦ elim (cases_lt r.0 k) as (λ _. slice_get ids r.0 ≡ Some id) [
              | inr behind ↦ absurd (apart home.0 r.0 wanted less behind known known_r)
              | inl low ↦ (
                  let here : home.0 ≡ id = same_Some home.0 id (sym (fixed home.0 (omega (arith, less, low))) ∙ home.1) in
                  let later = stands r.0 r.0 (fixed r.0 low) in
                  let later_kind : later.0.kind ≡ wanted = same_Some later.0.kind wanted (sym later.2 ∙ known_r) in
                  let passes : same_kind later.0.kind wanted ≡ true = (is later.0.kind wanted).1 later_kind in
                  let not_so : same_kind later.0.kind wanted ≡ false = latest.latest r.0 later.0 (omega (arith, less, here)) later.1 in
                  absurd (not_both (same_kind later.0.kind wanted) passes not_so)
                  )
            ]
          ],
        )
