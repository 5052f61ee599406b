-- Entries of producers, as their texts.
use Rattle.std.proofs.Common.{◌≡◌, ◌∙◌, ℕ, zero, suc, List, [], ◌∷◌, refl, sym, ap, get_or, slice_set, string_bytes, bytes_eq}
use Rattle.wasm_producers.specs.Entries.{with_value, with_entry}
use Rattle.walrus_customs.specs.declared.producers.ProducerField.{ProducerField}
use Rattle.walrus_customs.specs.Producers.{value_of, values_of, field_of, fields_of}
use Rattle.walrus_customs.proofs.EditLemmas.{Edits}

pub values_edited : (name version : List ℕ)
    → Edits value_of (λ v. bytes_eq (string_bytes v.name) name) (record { name = name; version = version }) (λ _. record { name = name; version = version }) (with_value name version)
values_edited name version = record {
  none = refl;
  here = λ v vs passes. rw passes refl;
  there = λ v vs fails. rw fails refl;
}

pub fields_edited : (of name version : List ℕ)
    → Edits field_of (λ f. bytes_eq (string_bytes f.name) of) (record { name = of; values = with_value name version [] }) (λ f. record { name = f.name; values = with_value name version f.values }) (with_entry of name version)
fields_edited of name version = record {
  none = refl;
  here = λ f fs passes. rw passes refl;
  there = λ f fs fails. rw fails refl;
}

-- a field that keeps its name, and whose values are edited
pub field_put : (name version : List ℕ) (f g : ProducerField) → string_bytes g.name ≡ string_bytes f.name → values_of g.values.items ≡ with_value name version (values_of f.values.items)
    → field_of g ≡ record { name = string_bytes f.name; values = with_value name version (values_of f.values.items) }
field_put name version f g named put = λ i. record { name = named i; values = put i }

-- a field that keeps its name and its values
pub field_same : (f g : ProducerField) → string_bytes g.name ≡ string_bytes f.name → values_of g.values.items ≡ values_of f.values.items → field_of g ≡ field_of f
field_same f g named put = λ i. record { name = named i; values = put i }

-- a field that is seen as it was leaves all as they were
pub seen_alike : (fields : List ProducerField) (i : ℕ) (f g : ProducerField) → get_or fields i f ≡ f → field_of g ≡ field_of f → fields_of (slice_set fields i g) ≡ fields_of fields
seen_alike [] i f g at same = refl
seen_alike (x ∷ xs) zero f g at same = ap (λ y. y ∷ fields_of xs) (same ∙ ap field_of (sym at))
seen_alike (x ∷ xs) (suc i) f g at same = ap (λ ys. field_of x ∷ ys) (seen_alike xs i f g at same)
