-- Lemmas: data segments behind their count.
use Rattle.std.specs.Prelude.{ℕ, Result, Ok}
use Rattle.std.proofs.Common.{subst}
use Rattle.wasm_reader.specs.Cursor.{Window, Cursor}
use Rattle.wasm_reader.specs.Reading.{plain}
use Rattle.walrus_section_frames.specs.walrus_known_sections.wasm_sections.wasm_grammar.wasm_formats.Joined.{checked}
use Rattle.walrus_section_frames.specs.walrus_known_sections.wasm_sections.wasm_grammar.wasm_formats.Wholes.{u32}
use Rattle.walrus_section_frames.specs.walrus_known_sections.wasm_sections.wasm_grammar.States.{State}
use Rattle.walrus_section_frames.specs.walrus_known_sections.wasm_sections.Sections.{data_test}
use Rattle.walrus_section_frames.specs.walrus_known_sections.wasm_sections.Segments.{data_entry, add_data}
use Rattle.walrus_section_reader.specs.declared.fault.Fault.{Fault}
use Rattle.walrus_section_reader.specs.Parses.{ParsesExactly, Parses}
use Rattle.walrus_section_reader.specs.Repeats.{then_parses, unless_memory}
use Rattle.walrus_section_reader.specs.Steps.{step_of, entries_by}
use Rattle.walrus_file_reader.specs.Contents.{data_put}

pub data_reads : (s : State) (view : Unit {0} → State) (old mid new : Cursor) (count : ℕ) (result : Result (Unit {0}) Fault) → ParsesExactly (checked u32 (data_test s.data_count)).parse plain old mid (Ok count)
    → Parses (entries_by (step_of add_data (data_entry mid.window.features)) count s) view mid new result → Parses (data_put old.window.features s) view old new result
data_reads s view old mid new count result one two =
    then_parses (checked u32 (data_test s.data_count)).parse (λ n. entries_by (step_of add_data (data_entry old.window.features)) n.0 s n.1) plain view old mid new count result
    (unless_memory (checked u32 (data_test s.data_count)).parse plain old mid (Ok count) one)
    (subst (λ (w : Window). Parses (entries_by (step_of add_data (data_entry w.features)) count s) view mid new result) one.moves.window two)
