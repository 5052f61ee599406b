-- Sections that are put into the state as they are read.
use Rattle.std.specs.Prelude.{ℕ, ◌-◌, List, length, Ok}
use Rattle.wasm_features.specs.declared.WasmFeatures.{WasmFeatures}
use Rattle.walrus_section_frames.specs.walrus_known_sections.wasm_sections.wasm_grammar.wasm_formats.Stops.{Parsing, ◌>>=◌}
use Rattle.walrus_section_frames.specs.walrus_known_sections.wasm_sections.wasm_grammar.wasm_formats.Joined.{checked}
use Rattle.walrus_section_frames.specs.walrus_known_sections.wasm_sections.wasm_grammar.wasm_formats.Wholes.{u32, whole, sized}
use Rattle.walrus_section_frames.specs.walrus_known_sections.wasm_sections.wasm_grammar.States.{State}
use Rattle.walrus_section_frames.specs.walrus_known_sections.wasm_sections.Sections.{code, section, section_entry, data_test, put, next, set_bodies}
use Rattle.walrus_section_frames.specs.walrus_known_sections.wasm_sections.Segments.{data_entry, add_data}
use Rattle.walrus_section_reader.specs.Steps.{step_of, entries_by}

-- the code section, whose contents end so many bytes before this offset as are left
abbrev pub code_put : ℕ → State → List ℕ → Parsing State
code_put end s bytes = (sized (whole (code s))).parse bytes >>= λ x. Ok (set_bodies s (end - length x.1) x.0, x.1)

-- a count that agrees with the data count, and that many data segments
abbrev pub data_put : WasmFeatures → State → List ℕ → Parsing State
data_put features s bytes = (checked u32 (data_test s.data_count)).parse bytes >>= λ n. entries_by (step_of add_data (data_entry features)) n.0 s n.1

-- a section behind its id
abbrev pub section_put : WasmFeatures → ℕ → State → ℕ → List ℕ → Parsing State
section_put features end s id bytes = (section features s id).parse bytes >>= λ x. Ok (put s (end - length x.1) x.0, x.1)

-- a section with its id
abbrev pub section_step : WasmFeatures → State → List ℕ → Parsing State
section_step features s bytes = step_of next (section_entry features) s bytes
