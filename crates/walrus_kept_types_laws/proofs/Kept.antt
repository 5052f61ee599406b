-- Lemmas: what is written of the types of a module that was read.
use Rattle.std.proofs.Common.{◌≡◌, ◌∙◌, inl, inr, ℕ, zero, suc, Bool, true, filter, unwrap_or, List, [], ◌∷◌, map, Option, Some, None, refl, sym, ap, subst}
use Rattle.std.specs.Prelude.{slice_index_or}
use Rattle.std.specs.List.{slice_get}
use Rattle.std.proofs.lemmas.Bool.{cases_Bool, false≢true}
use Rattle.std.proofs.lemmas.Option.{none-some, same_Some}
use Rattle.walrus_forms.specs.Renaming.{at, index_at}
use Rattle.walrus_meaning.specs.Meaning.{type_ids}
use Rattle.walrus_types.specs.Emission.{IsEmission, is_written, written_in, written_types}
use Rattle.walrus_types.specs.Inverse.{AreInverse}
use Rattle.walrus_types.specs.Table.{Table}
use Rattle.walrus_types.specs.TypeLaws.{AreGrouped}
use Rattle.walrus_types.proofs.OnceLemmas.{inverse-law}
use Rattle.walrus_types.proofs.Places.{seat}
use Rattle.walrus_named_bodies.specs.Parsed.{read_features}
use Rattle.walrus_parse_laws.specs.Meant.{place_of}
use Rattle.wasm_merged_modules.specs.Merged.{ids_of}
use Rattle.wasm_part.specs.Handlers.{handler_groups}
use Rattle.wasm_part.specs.Seen.{file_seen}
use Rattle.wasm_references.specs.References.{Numbered}
use Rattle.walrus_kept_types_laws.specs.Kept.{FileTypesHaveTheirIndices, ReadTypesAreWritten}
use Rattle.walrus_kept_types_laws.specs.Placed.{place_among, placed_indices, placed_table}
use Rattle.walrus_kept_types_laws.specs.Read.{ReadTypesAreRead}
use Rattle.walrus_kept_types_laws.specs.Written.{KeptTypesAreWritten, WritesTypes}
use Rattle.walrus_kept_types_laws.proofs.Lists.{failed, found_at, passed}
use Rattle.walrus_kept_types_laws.proofs.Rest.{only_written}
use Rattle.walrus_kept_types_laws.proofs.Written.{have_indices}

-- lists with the same at each place are one
same_gets : (xs ys : List ℕ) → ((i x : ℕ) → slice_get xs i ≡ Some x → slice_get ys i ≡ Some x) → ((i x : ℕ) → slice_get ys i ≡ Some x → slice_get xs i ≡ Some x) → xs ≡ ys
same_gets [] [] forth back = refl
same_gets [] (y ∷ ys) forth back = absurd (none-some y (back 0 y refl))
same_gets (x ∷ xs) [] forth back = absurd (none-some x (forth 0 x refl))
same_gets (x ∷ xs) (y ∷ ys) forth back =
    ap (λ (z : ℕ). z ∷ xs) (sym (same_Some y x (forth 0 x refl))) ∙ ap (λ (l : List ℕ). y ∷ l) (same_gets xs ys (λ i z at. forth (suc i) z at) (λ i z at. back (suc i) z at))

-- the order that the indices tell
order_is : (t : Table) → AreGrouped t → (out : _) (indices : List (Option ℕ)) (order : List ℕ) (e : IsEmission t out indices) → AreInverse order indices → order ≡ written_types t e.groups
order_is t grouped out indices order e inverse =
    let own = inverse-law t grouped e.groups _ indices e.arranged.in_order e.arranged.indexed in
    same_gets order (written_types t e.groups) (λ i x at. (own i x).1 ((inverse i x).0 at)) (λ i x at. (inverse i x).1 ((own i x).0 at))

pub read_written : {B : Type 0} → ReadTypesAreRead B → KeptTypesAreWritten → ReadTypesAreWritten B
read_written are_read written config bytes m found file is reads h grouped t left rest out indices order e inverse =
    let r = are_read config bytes m found file is reads h grouped in
    let v : Numbered = file_seen place_of (read_features config) (handler_groups file) file in
    let ids : List ℕ = type_ids m.types in
    let w = written m.types t v r.are left rest (sym r.groups) refl out indices e in
    subst (λ (l : List ℕ). WritesTypes v (placed_table ids t) out (placed_indices ids indices) (map (place_among ids) l)) (sym (order_is t left out indices order e inverse)) w

-- ---- types of the file

first_passes : (test : ℕ → Bool) (y : ℕ) (ys : List ℕ) (x : ℕ) → test y ≡ true → ((k : ℕ) → slice_get ys k ≡ Some x → test x ≡ true) → (k : ℕ) → slice_get (y ∷ ys) k ≡ Some x → test x ≡ true
first_passes test y ys x so later zero is = ap test (sym (same_Some y x is)) ∙ so
first_passes test y ys x so later (suc k) is = later k is

pass_at : (test : ℕ → Bool) (xs : List ℕ) (x k : ℕ) → slice_get (filter test xs) k ≡ Some x → test x ≡ true
pass_at test [] x k at = absurd (none-some x at)
pass_at test (y ∷ xs) x k at = elim (cases_Bool (test y)) as (λ _. test x ≡ true) [
  | inl so ↦ first_passes test y (filter test xs) x so (λ j is. pass_at test xs x j is) k (ap (λ (l : List ℕ). slice_get l k) (sym (passed test y xs so)) ∙ at)
  | inr not_so ↦ pass_at test xs x k (ap (λ (l : List ℕ). slice_get l k) (sym (failed test y xs not_so)) ∙ at)
]

no_index : (o : Option ℕ) → ((i : ℕ) → o ≡ Some i → ⊥) → unwrap_or o 0 ≡ 0
no_index None none = refl
no_index (Some i) none = absurd (none i refl)

pub file_types_stay : {B : Type 0} → ReadTypesAreRead B → FileTypesHaveTheirIndices B
file_types_stay are_read config bytes m found file is reads h grouped t left out indices e n =
    let r = are_read config bytes m found file is reads h grouped in
    let ids : List ℕ = type_ids m.types in
    let k : ℕ = at (ids_of file.groups) n in
    elim (r.sent n) as (λ _. index_at (placed_indices ids indices) k ≡ index_at indices k) [
      | inl less ↦ (have_indices m.types r.are indices).first k less
      | inr none ↦ (
          let none_at : (id i : ℕ) → slice_index_or indices id None ≡ Some i → ⊥ =
          λ id i is_some.
          let at_i = e.arranged.indexed.place id i is_some in
          let s = seat (written_in t) e.groups i id at_i in
          let w = pass_at (is_written t) (s.from).types id s.place s.at_place in
          false≢true (sym (none id) ∙ only_written m.types t left.only id w) in
          no_index (slice_index_or (placed_indices ids indices) k None) (λ i there. (let f = found_at (λ j. slice_index_or indices j None) (λ (o : Option ℕ). o) refl ids k i there in none_at f.0 i f.2))
          ∙ sym (no_index (slice_index_or indices k None) (none_at k))
          )
    ]
