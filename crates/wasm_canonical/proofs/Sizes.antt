-- Lemmas: sizes in a short file are within the limits of the format.
use Rattle.std.specs.Prelude.{ℕ, ◌<◌, ◌≤◌, ◌^◌, List, [], ◌∷◌, ◌++◌, length}
use Rattle.std.proofs.Common.{subst, arith}
use Rattle.std.proofs.lemmas.List.{length-append}
use Rattle.wasm_features.specs.declared.WasmFeatures.{WasmFeatures}
use Rattle.wasm_operators.specs.Bytes.{unsigned_bytes}
use Rattle.wasm_grammar.specs.States.{State, nothing_yet}
use Rattle.wasm_sections.specs.Sections.{Section, CustomSection, TypeSection, ImportSection, FunctionSection, TableSection, MemorySection, TagSection, GlobalSection, ExportSection, StartSection, ElementSection, DataCountSection, CodeSection, DataSection, SectionEntry, id_of, next}
use Rattle.wasm_sections.specs.Modules.{magic}
use Rattle.wasm_section_bytes.specs.Files.{SectionFits, SectionsFit, section_bytes, sections_bytes}
use Rattle.wasm_canonical.specs.Sizes.{ContentFits, ContentsFit, ShortFilesFit}

small : (c : List ℕ) → length (unsigned_bytes (length c) ++ c) ≤ 2 ^ 30 → length c < 2 ^ 32
small c le = omega (arith, le, length-append (unsigned_bytes (length c)) c)

id_small : (x : Section) → id_of x < 256
id_small (CustomSection x) = omega arith
id_small (TypeSection x) = omega arith
id_small (ImportSection x) = omega arith
id_small (FunctionSection x) = omega arith
id_small (TableSection x) = omega arith
id_small (MemorySection x) = omega arith
id_small (TagSection x) = omega arith
id_small (GlobalSection x) = omega arith
id_small (ExportSection x) = omega arith
id_small (StartSection x) = omega arith
id_small (ElementSection x) = omega arith
id_small (DataCountSection x) = omega arith
id_small (CodeSection x) = omega arith
id_small (DataSection x) = omega arith

module _ (features : WasmFeatures) where
  section_fits : (s : State) (x : Section) → ContentFits features s x → length (section_bytes features s x) ≤ 2 ^ 30 → SectionFits features s x
  section_fits s (CustomSection x) h le = (h, small _ le)
  section_fits s (TypeSection x) h le = (h, small _ le)
  section_fits s (ImportSection x) h le = (h, small _ le)
  section_fits s (FunctionSection x) h le = (h, small _ le)
  section_fits s (TableSection x) h le = (h, small _ le)
  section_fits s (MemorySection x) h le = (h, small _ le)
  section_fits s (TagSection x) h le = (h, small _ le)
  section_fits s (GlobalSection x) h le = (h, small _ le)
  section_fits s (ExportSection x) h le = (h, small _ le)
  section_fits s (StartSection x) h le = (h, small _ le)
  section_fits s (ElementSection x) h le = (h, small _ le)
  section_fits s (DataCountSection x) h le = (h, small _ le)
  section_fits s (CodeSection x) h le = (h, small _ le)
  section_fits s (DataSection x) h le = (h, small _ le)

  sections_fit : (s : State) (xs : List SectionEntry) → ContentsFit features s xs → length (sections_bytes features s xs) ≤ 2 ^ 30 → SectionsFit features s xs
  sections_fit s [] h le = tt
  sections_fit s (x ∷ xs) h le =
      let own = section_bytes features s x.1.1 in
      let rest = sections_bytes features (next s x) xs in
      let one = length-append ((x.1.0 ∷ []) ++ own) rest in
      let two = length-append (x.1.0 ∷ []) own in
      let own_le : length own ≤ 2 ^ 30 = omega (arith, le, one, two) in
      let rest_le : length rest ≤ 2 ^ 30 = omega (arith, le, one) in
      ((h.0, subst (λ (n : ℕ). n < 256) h.0 (id_small x.1.1), section_fits s x.1.1 h.1 own_le), sections_fit (next s x) xs h.2 rest_le)

pub short_fits : ShortFilesFit
short_fits features x short h =
    let le : length (sections_bytes features nothing_yet x.1) ≤ 2 ^ 30 = omega (arith, short, length-append magic (sections_bytes features nothing_yet x.1)) in
    sections_fit features nothing_yet x.1 h le
