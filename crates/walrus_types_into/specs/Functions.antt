-- Lemmas: a function type of the file has the id of a live function type.
use Rattle.std.specs.Prelude.{ℕ, ◌≡◌, List, Option, Some, None, slice_get, IsTrue, refl}
use Rattle.walrus_forms.specs.Forms.{Form, FunctionForm, StructForm, ArrayForm, is_function}
use Rattle.walrus_forms.specs.Kinds.{Kind}
use Rattle.walrus_forms.specs.Records.{TypeGroup}
use Rattle.walrus_forms.specs.Renaming.{at, renamed_form}
use Rattle.walrus_types.specs.Table.{Table, IsFunctionType}
use Rattle.walrus_known_sections.specs.Types.{kinds_in}
use Rattle.wasm_grammar.specs.States.{form_test}
use Rattle.walrus_types_into.specs.Into.{TypesStand}

form_stays : (r : ℕ → ℕ) (kind : Kind) → form_test (Some kind) ≡ None → IsTrue (is_function (renamed_form r kind.form))
form_stays r kind e = go kind.form e
  where
    go : (form : Form) → form_test (Some (record kind { form = form })) ≡ None → IsTrue (is_function (renamed_form r form))
    go (FunctionForm params results) e = refl
    go (StructForm fields) e = absurd cc
    go (ArrayForm field) e = absurd cc

pub function_stands : (groups : List TypeGroup) (ids : List ℕ) (t : Table) → TypesStand groups ids t → (index : ℕ) → form_test (slice_get (kinds_in groups) index) ≡ None
    → (id : ℕ) × (slice_get ids index ≡ Some id) × IsFunctionType t id
function_stands groups ids t h index typed = go (slice_get (kinds_in groups) index) refl typed
  where
    go : (o : Option Kind) → slice_get (kinds_in groups) index ≡ o → form_test o ≡ None → (id : ℕ) × (slice_get ids index ≡ Some id) × IsFunctionType t id
    go None e typed = absurd cc
    go (Some kind) e typed = let s = h.stand index kind e in (s.0, s.1, rw s.2 (form_stays (at ids) kind typed))
