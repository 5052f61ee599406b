use Rattle.walrus_section_frames.specs.walrus_known_sections.State.{state_of}
use Rattle.walrus_code_reader.specs.Code.{code_place}
use Rattle.walrus_section_reader.specs.Windows.{Runs}
use Rattle.walrus_file_reader.specs.Contents.{section_step}
use Rattle.std.proofs.Common.{◌≡◌}
use Rattle.walrus_file_reader.proofs.file.read_rounds.Given as goal

abbrev pub invariant-loop : goal.invariant-loop
invariant-loop l = Runs (section_step l.fn.reader.window.features) (state_of l.fn.sections) (state_of l.sections) l.fn.reader l.reader l.counter × (l.sections.offset ≡ code_place l.reader)
