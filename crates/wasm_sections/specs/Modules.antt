-- Modules up to what is in their bodies (Core Specification, binary format: modules).
use Rattle.std.specs.Prelude.{ℕ, ◌==◌, ◌&&◌, ◌||◌, Bool, true, false, List, [], ◌∷◌, length, fold, Option, Some, None, refl}
use Rattle.wasm_features.specs.declared.WasmFeatures.{WasmFeatures}
use Rattle.wasm_grammar.specs.wasm_formats.Stops.{Header}
use Rattle.wasm_grammar.specs.wasm_formats.Formats.{Format, Whole}
use Rattle.wasm_grammar.specs.wasm_formats.Wholes.{followed}
use Rattle.wasm_grammar.specs.wasm_formats.Files.{entries, ended}
use Rattle.wasm_file_formats.specs.Headers.{exactly}
use Rattle.wasm_grammar.specs.States.{Chunk, State, nothing_yet}
use Rattle.wasm_sections.specs.Sections.{own_functions, SectionEntry, section_entry, section_takes, next}

-- magic and version
abbrev pub magic : List ℕ
magic = 0x00 ∷ 0x61 ∷ 0x73 ∷ 0x6d ∷ 0x01 ∷ 0x00 ∷ 0x00 ∷ 0x00 ∷ []

abbrev pub header : Format (Unit {0})
header = exactly magic Header refl

abbrev pub sections : WasmFeatures → Whole (List SectionEntry)
sections features = entries next (section_entry features) (section_takes features) nothing_yet

-- a missing code section has no bodies, a missing data section no data
abbrev pub has_bodies : State → Bool
has_bodies s = bodies_there s.bodies || own_functions s == 0
  where
    bodies_there : Option (List Chunk) → Bool
    bodies_there None = false
    bodies_there (Some bodies) = true

abbrev pub has_data : State → Bool
has_data s = counted_data s.data_count
  where
    counted_data : Option ℕ → Bool
    counted_data None = true
    counted_data (Some n) = n == length s.filled.segments

abbrev pub FileEntry : Type 0
FileEntry = Unit {0} × List SectionEntry

-- the state that a file's sections leave
abbrev pub state_of : FileEntry → State
state_of x = fold next nothing_yet x.1

abbrev pub has_all : FileEntry → Bool
has_all x = has_bodies (state_of x) && has_data (state_of x)

-- the header and sections to the end
abbrev pub sections_behind : WasmFeatures → Whole FileEntry
sections_behind features = followed header (λ _. sections features)

-- and what is missing there
abbrev pub file : WasmFeatures → Whole FileEntry
file features = ended (sections_behind features) has_all
