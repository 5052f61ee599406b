-- The shortest bytes of a module: its sections, each entry in its shortest spelling, and in the code section its bodies in theirs.
use Rattle.std.specs.Prelude.{ℕ, ◌≤◌, ◌≡◌, List, [], ◌∷◌, ◌++◌, length, map, Option, Some, None}
use Rattle.wasm_features.specs.declared.WasmFeatures.{WasmFeatures}
use Rattle.wasm_formats.specs.Formats.{Small}
use Rattle.wasm_grammar.specs.Modules.{Origin, Imported, Own, Placed, Body, Function, Module}
use Rattle.wasm_grammar.specs.States.{State, nothing_yet}
use Rattle.wasm_body_grammar.specs.Rules.{Around}
use Rattle.wasm_body_grammar.specs.Codes.{Code, ReadsCodes}
use Rattle.wasm_sections.specs.Sections.{ChunkEntry, Section, CodeSection, SectionEntry, next}
use Rattle.wasm_sections.specs.Modules.{magic, FileEntry, file, state_of}
use Rattle.wasm_grammar_bytes.specs.Shortest.{body_bytes}
use Rattle.wasm_section_bytes.specs.Files.{entry_bytes}
use Rattle.wasm_module_rules.specs.wasm_modules.Modules.{around, codes, module_of, IsShort, Reads}

-- ---- a code section with other bytes for its bodies

abbrev pub chunks_with : List (List ℕ) → List ChunkEntry → List ChunkEntry
chunks_with (b ∷ bodies) (x ∷ xs) = ((x.0.0, length b), b) ∷ chunks_with bodies xs
chunks_with _ _ = []

abbrev pub section_with : List (List ℕ) → Section → Section
section_with bodies (CodeSection c) = CodeSection (c.0, chunks_with bodies c.1)
section_with bodies x = x

abbrev pub entry_with : List (List ℕ) → SectionEntry → SectionEntry
entry_with bodies x = (x.0, (x.1.0, section_with bodies x.1.1))

-- ---- bytes

-- of each body
abbrev pub bodies_bytes : Around → List Code → List Body → List (List ℕ)
bodies_bytes a (c ∷ codes) (x ∷ xs) = body_bytes a c.params x ∷ bodies_bytes a codes xs
bodies_bytes a _ _ = []

abbrev pub sections_with : WasmFeatures → List (List ℕ) → State → List SectionEntry → List ℕ
sections_with features bodies s [] = []
sections_with features bodies s (x ∷ xs) = entry_bytes features s (entry_with bodies x) ++ sections_with features bodies (next s x) xs

-- of a file's sections with these bodies
abbrev pub module_bytes : WasmFeatures → FileEntry → List Body → List ℕ
module_bytes features x xs = magic ++ sections_with features (bodies_bytes (around features (state_of x)) (codes (state_of x)) xs) nothing_yet x.1

-- ---- a module without the places of its operators

abbrev pub unplaced : Placed → Placed
unplaced p = record { place = 0; op = p.op }

abbrev pub body_unplaced : Body → Body
body_unplaced x = record { locals = x.locals; operators = map unplaced x.operators }

abbrev pub origin_unplaced : Origin Body → Origin Body
origin_unplaced (Imported n) = Imported n
origin_unplaced (Own body) = Own (body_unplaced body)

abbrev pub slot_unplaced : Option Function → Option Function
slot_unplaced None = None
slot_unplaced (Some f) = Some (record { ty = f.ty; origin = origin_unplaced f.origin })

abbrev pub without_places : Module → Module
without_places m = record m { functions = map slot_unplaced m.functions }

-- what reads as these sections and bodies reads so in their bytes, too, places aside, and nothing shorter reads so
abbrev pub ModulesHaveShortest : Type 0
ModulesHaveShortest = (features : WasmFeatures) (others : List ℕ) (x : FileEntry) (xs : List Body) → Small others → IsShort others
    → (file features).spells others x → (file features).rules x → ReadsCodes (around features (state_of x)) (codes (state_of x)) xs
    → (n : Module) × Reads features (module_bytes features x xs) n × (without_places n ≡ without_places (module_of (state_of x) xs)) × (length (module_bytes features x xs) ≤ length others)
