-- Lemmas: which id a section has.
use Rattle.std.specs.Prelude.{ℕ, ◌≡◌, ◌==◌, Bool, true, false, List, refl}
use Rattle.std.proofs.Common.{ap, sym, ◌∙◌}
use Rattle.std.proofs.lemmas.Bool.{eqb-true}
use Rattle.wasm_features.specs.declared.WasmFeatures.{WasmFeatures}
use Rattle.wasm_grammar.specs.wasm_formats.Bytes.{either_type}
use Rattle.wasm_grammar.specs.States.{State}
use Rattle.wasm_sections.specs.Sections.{Section, CustomSection, TypeSection, ImportSection, FunctionSection, TableSection, MemorySection, TagSection, GlobalSection, ExportSection, StartSection, ElementSection, DataCountSection, CodeSection, DataSection, id_of, section}

-- one of two forms, with what chose it
pub either_case : {P Q R : Type 0} (c : Bool) → either_type c P Q → (c ≡ true → P → R) → (c ≡ false → Q → R) → R
either_case true h p q = p refl h
either_case false h p q = q refl h

-- the id of what this number's form spells
named : (id n : ℕ) (y z : Section) → (id == n) ≡ true → id_of y ≡ n → y ≡ z → id_of z ≡ id
named id n y z is own same = ap id_of (sym same) ∙ own ∙ sym (eqb-true id n is)

-- what is spelled behind an id is a section of that id
pub section_id : (features : WasmFeatures) (s : State) (id : ℕ) (bytes : List ℕ) (x : Section) → (section features s id).spells bytes x → id_of x ≡ id
section_id features s id bytes x h =
    either_case (id == 0) h (λ is k. named id 0 (CustomSection k.0) x is refl k.1)
    (λ _ h. either_case (id == 1) h (λ is k. named id 1 (TypeSection k.0) x is refl k.1)
    (λ _ h. either_case (id == 2) h (λ is k. named id 2 (ImportSection k.0) x is refl k.1)
    (λ _ h. either_case (id == 3) h (λ is k. named id 3 (FunctionSection k.0) x is refl k.1)
    (λ _ h. either_case (id == 4) h (λ is k. named id 4 (TableSection k.0) x is refl k.1)
    (λ _ h. either_case (id == 5) h (λ is k. named id 5 (MemorySection k.0) x is refl k.1)
    (λ _ h. either_case (id == 13) h (λ is k. named id 13 (TagSection k.0) x is refl k.1)
    (λ _ h. either_case (id == 6) h (λ is k. named id 6 (GlobalSection k.0) x is refl k.1)
    (λ _ h. either_case (id == 7) h (λ is k. named id 7 (ExportSection k.0) x is refl k.1)
    (λ _ h. either_case (id == 8) h (λ is k. named id 8 (StartSection k.0) x is refl k.1)
    (λ _ h. either_case (id == 9) h (λ is k. named id 9 (ElementSection k.0) x is refl k.1)
    (λ _ h. either_case (id == 12) h (λ is k. named id 12 (DataCountSection k.0) x is refl k.1)
    (λ _ h. either_case (id == 10) h (λ is k. named id 10 (CodeSection k.0) x is refl k.1)
    (λ _ h. either_case (id == 11) h (λ is k. named id 11 (DataSection k.0) x is refl k.1)
    (λ _ h. absurd h))))))))))))))
