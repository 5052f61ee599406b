-- Lemmas: values made of those that are read.
use Rattle.std.specs.Prelude.{ℕ, ◌≡◌, List, ◌++◌, Ok, refl}
use Rattle.std.proofs.Common.{ap, sym, ◌∙◌}
use Rattle.wasm_composite_types.specs.wasm_reader.Reading.{Reading, ◌>>=◌}
use Rattle.wasm_composite_types.specs.wasm_reader.Laws.{TakesSpelled}
use Rattle.wasm_composite_types.specs.wasm_reader.Spellings.{ok_is, then_was}
use Rattle.wasm_composite_types.specs.Taken.{Small, Fronts}
use Rattle.wasm_operators.specs.Readings.{mapped}
use Rattle.wasm_operators.specs.ItemSpellings.{Made}

module _ {A B : Type 0} (make : A → B) (reading : List ℕ → Reading A) (spells : List ℕ → A → Type 0) (taken : TakesSpelled reading spells) where
  made_again : (bytes more : List ℕ) (value : B) → Made make spells bytes value → mapped make (reading (bytes ++ more)) ≡ Ok (value, more)
  made_again bytes more value h = rw (taken.again bytes more h.0 h.2) (ap (λ (b : B). Ok (b, more)) (sym h.1))

  made_found : (bytes later : List ℕ) (value : B) → Small bytes → mapped make (reading bytes) ≡ Ok (value, later) → Fronts (Made make spells) bytes later value
  made_found bytes later value small e =
      let was = then_was (reading bytes) (λ x. Ok (make x.0, x.1)) (value, later) e in
      let same = ok_is (make was.0.0, was.0.1) (value, later) was.2 in
      let found = taken.found bytes was.0.1 was.0.0 small was.1 in
      (found.0, (was.0.0, sym (ap (λ p. p.0) same), found.1), found.2 ∙ ap (λ p. found.0 ++ p.1) same)

  -- a value made of the one that was read
  pub made_taken : TakesSpelled (λ bytes. mapped make (reading bytes)) (Made make spells)
  made_taken = record { again = made_again; found = made_found }
