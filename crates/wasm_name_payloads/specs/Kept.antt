-- Lemmas: laws of names and producers.
use Rattle.std.specs.Prelude.{ℕ, ◌≡◌, true, List, [], ◌∷◌, ◌++◌, Some, if◌then◌else◌, refl}
use Rattle.std.proofs.Common.{ap, sym, ◌∙◌, subst, inl, inr}
use Rattle.std.proofs.lemmas.Bool.{cases_Bool, eq-eqb}
use Rattle.std.proofs.lemmas.List.{append-nil}
use Rattle.wasm_name_payloads.specs.Keepers.{Rest, Behind, Ended, Wrong, Kept, Grows}
use Rattle.wasm_name_payloads.specs.Windows.{total_again, total_found, total_grows, total_stays}
use Rattle.wasm_name_payloads.specs.Names.{Bearer, TheModule, AnItem, ALocal, subsection, takes_some, same_bearer, same_name, space_number}
use Rattle.wasm_name_payloads.specs.Producers.{Value, Field, fields, with_value}
use Rattle.wasm_name_payloads.specs.ReadBack.{names_read_back, producers_read_back}
use Rattle.wasm_name_payloads.specs.Laws.{NamesAreRead, FrontNamesStay, FaultsEndNames, NamesAreReadBack, LastNamesWin, ProducersAreRead, EntriesStay}

pub names_are_read : NamesAreRead
names_are_read = record { again = λ m. total_again (subsection m) (takes_some m); found = λ m. total_found (subsection m) (takes_some m) }

pub front_names_stay : FrontNamesStay
front_names_stay m = total_grows (subsection m) (takes_some m)

pub faults_end_names : FaultsEndNames
faults_end_names m = total_stays (subsection m) (takes_some m)

pub names_are_read_back : NamesAreReadBack
names_are_read_back = names_read_back

-- ---- the last name

bearer_is : (b : Bearer) → same_bearer b b ≡ true
bearer_is TheModule = refl
bearer_is (AnItem a) = rw (eq-eqb (space_number a.space) (space_number a.space) refl, eq-eqb a.number a.number refl) refl
bearer_is (ALocal f l) = rw (eq-eqb f f refl, eq-eqb l l refl) refl

pub last_names_win : LastNamesWin
last_names_win bearer found [] name = rw (bearer_is bearer) refl
last_names_win bearer found (g ∷ names) name = last_names_win bearer (if same_bearer g.bearer bearer then Some g.name else found) names name

-- ---- producers

pub producers_are_read : ProducersAreRead
producers_are_read = record {
  again = λ bytes more list h. ap (λ (k : Kept Field). k.items) (fields.again bytes more list h);
  front = λ bytes more small. front (fields.keeps bytes).items (fields.keeps bytes).rest more (fields.keeps (bytes ++ more)) (fields.grows bytes more small);
  fault = λ bytes more small wrong.
      ap (λ (k : Kept Field). k.items) (subst (λ (r : Rest). Grows more (fields.keeps bytes).items r (fields.keeps (bytes ++ more))) wrong (fields.grows bytes more small));
  back = producers_read_back;
}
  where
    front : (items : List Field) (rest : Rest) (more : List ℕ) (after : Kept Field) → Grows more items rest after → (others : List Field) × (after.items ≡ items ++ others)
    front items (Behind later) more after h = ([], ap (λ (k : Kept Field). k.items) h ∙ sym (append-nil items))
    front items Ended more after h = h
    front items Wrong more after h = ([], ap (λ (k : Kept Field). k.items) h ∙ sym (append-nil items))

name_is : (name : List ℕ) → same_name name name ≡ true
name_is [] = refl
name_is (b ∷ name) = rw (eq-eqb b b refl, name_is name) refl

value_stays : (name version : List ℕ) (values : List Value) → with_value name version (with_value name version values) ≡ with_value name version values
value_stays name version [] = rw (name_is name) refl
value_stays name version (v ∷ values) = elim (cases_Bool (same_name v.name name)) [
  | inl is ↦ rw (is, name_is name) refl
  | inr apart ↦ rw (apart, apart, value_stays name version values) refl
]

pub entries_stay : EntriesStay
entries_stay of name version [] = rw (name_is of, name_is name) refl
entries_stay of name version (f ∷ list) = elim (cases_Bool (same_name f.name of)) [
  | inl is ↦ rw (is, is, value_stays name version f.values) refl
  | inr apart ↦ rw (apart, apart, entries_stay of name version list) refl
]
