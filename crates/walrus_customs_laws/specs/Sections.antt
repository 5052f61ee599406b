-- Custom sections that are due are the shortest spelling of the module's: those of dynamic linking, and the others (Core Specification, binary format: custom
-- section).
use Rattle.std.specs.Prelude.{ℕ, ◌≡◌, ◌&&◌, Bool, true, false, not, List, [], map, filter, Option, unwrap_or}
use Rattle.wasm_features.specs.declared.WasmFeatures.{WasmFeatures}
use Rattle.wasm_grammar.specs.Modules.{Custom, Module}
use Rattle.wasm_canonical.specs.Canonical.{is_linking}
use Rattle.wasm_canonical.specs.Due.{custom_due, items_in}
use Rattle.wasm_rewritten.specs.Customs.{is_debug, stays}
use Rattle.walrus_arena.specs.Arena.{Arena}
use Rattle.walrus_sections.specs.declared.section.Section.{Section}
use Rattle.walrus_item_meaning.specs.Meaning.{slots_of}
use Rattle.walrus_parse_laws.specs.Meaning.{own_custom}
use Rattle.walrus_parse_laws.specs.Means.{sections_of}
use Rattle.walrus_emit_customs.specs.Customs.{customs}
use Rattle.walrus_due_laws.specs.Spelled.{SpelledAs, spelled}

-- what a section of a program's own is, by its name and where it says what it holds
abbrev pub told_as : {B : Type 0} → (B → List ℕ) → (B → Option (List ℕ)) → B → Custom
told_as names contents b = record { name = names b; bytes = unwrap_or (contents b) [] }

-- it is one of dynamic linking, or one of the others and not a debugger's
abbrev pub passes : (first : Bool) → Custom → Bool
passes true c = is_linking c
passes false c = not (is_linking c) && not (is_debug c)

abbrev pub CustomsAreSpelled : Type 0 → Type 0
CustomsAreSpelled B = (features : WasmFeatures) (names : B → List ℕ) (contents : B → Option (List ℕ)) (first : Bool) (a : Arena (Section B))
    → SpelledAs (customs names contents first a) (spelled features (map custom_due (filter (passes first) (items_in (slots_of (own_custom (told_as names contents)) a)))))

-- ---- where they are those of a file that stay sections

-- those of the file that are written, of dynamic linking, or the others
abbrev pub written_of : (first : Bool) → Module → List Custom
written_of true file = filter is_linking (filter stays (items_in file.customs))
written_of false file = filter (λ c. not (is_linking c)) (filter stays (items_in file.customs))

abbrev pub ReadCustomsAreSpelled : Type 0 → Type 0
ReadCustomsAreSpelled B = (features : WasmFeatures) (names : B → List ℕ) (contents : B → Option (List ℕ)) (first : Bool) (a : Arena (Section B)) (file : Module)
    → slots_of (own_custom (told_as names contents)) a ≡ sections_of file → SpelledAs (customs names contents first a) (spelled features (map custom_due (written_of first file)))
