-- A file from its first byte to its last, in words of the grammar.
use Rattle.std.specs.Prelude.{ℕ, ◌+◌, ◌≡◌, ◌⊎◌, ◌&&◌, List, ◌++◌, length, Result}
use Rattle.std.proofs.Common.{ap, ◌∙◌}
use Rattle.wasm_features.specs.declared.WasmFeatures.{WasmFeatures}
use Rattle.walrus_section_frames.specs.walrus_known_sections.wasm_sections.wasm_grammar.wasm_formats.Stops.{Count, Stop, ◌>>=◌}
use Rattle.walrus_section_frames.specs.walrus_known_sections.wasm_sections.wasm_grammar.wasm_formats.Files.{ended_at}
use Rattle.walrus_section_frames.specs.walrus_known_sections.wasm_sections.wasm_grammar.States.{State}
use Rattle.walrus_section_frames.specs.walrus_known_sections.wasm_sections.Laws.{ReadsSections, StopsSections}
use Rattle.walrus_section_frames.specs.walrus_known_sections.wasm_sections.Modules.{header, magic, has_bodies, has_data}
use Rattle.walrus_errors.specs.declared.error.ModuleError.{ModuleError}
use Rattle.walrus_section_reader.specs.declared.fault.Fault.{Fault}
use Rattle.walrus_section_reader.specs.Faults.{trouble_of, error_of, IsMemory}
use Rattle.walrus_section_reader.specs.Steps.{all_by}
use Rattle.walrus_file_reader.specs.Contents.{section_step}

-- sections to the last byte
abbrev pub rounds : WasmFeatures → State → List ℕ → Result State Stop
rounds features s bytes = all_by (section_step features) (length bytes) s bytes

-- and what is missing there
abbrev pub with_all : State → Result State Stop
with_all s = ended_at Count (has_bodies s && has_data s) s

abbrev pub sections_to_end : WasmFeatures → State → List ℕ → Result State Stop
sections_to_end features s bytes = rounds features s bytes >>= with_all

-- behind the header
abbrev pub file_steps : WasmFeatures → State → List ℕ → Result State Stop
file_steps features s bytes = header.parse bytes >>= λ h. sections_to_end features s h.1

-- the file stops there with this fault
abbrev pub FaultOf : WasmFeatures → List ℕ → Fault → Type 0
FaultOf features bytes fault = (e : Stop) × StopsSections features bytes e × (trouble_of fault.kind ≡ e.trouble) × (fault.offset + e.left ≡ length bytes)

-- the file begins as files do
abbrev pub HasHeader : List ℕ → Type 0
HasHeader bytes = (later : List ℕ) × (bytes ≡ magic ++ later)

-- the first fault of the file at its place, or want of memory behind the header
abbrev pub IsRefused : WasmFeatures → List ℕ → ModuleError → Type 0
IsRefused features bytes error = (fault : Fault) × (error_of fault ≡ error) × (FaultOf features bytes fault ⊎ (IsMemory fault × HasHeader bytes))

-- what reads has a header
abbrev pub ReadHasHeader : Type 0
ReadHasHeader = (features : WasmFeatures) (bytes : List ℕ) (s : State) → ReadsSections features bytes s → HasHeader bytes

pub read_has_header : ReadHasHeader
read_has_header features bytes s reads = let split = reads.1.0 in (split.1, split.2 ∙ ap (λ (l : List ℕ). l ++ split.1) split.3)
