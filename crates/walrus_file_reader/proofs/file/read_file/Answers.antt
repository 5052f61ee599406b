use Rattle.std.proofs.lemmas.Result.{err_from_is_err_and}
use Rattle.std.proofs.Common.{◌∙◌, sym}
use Rattle.walrus_section_frames.specs.walrus_known_sections.State.{state_of}
use Rattle.walrus_file_reader.specs.Files.{file_steps}
use Rattle.walrus_file_reader.proofs.FileLemmas.{handed_whole, no_header, no_memory, behind_header, header_there, header_then}
use Rattle.walrus_file_reader.proofs.file.read_file.Goals as goal

pub returns-in_err-read_header-clause-file : goal.returns-in_err-read_header-clause-file
returns-in_err-read_header-clause-file c =
    let p = err_from_is_err_and c.from_residual.result c.from_residual.ensures.1 in
    handed_whole (file_steps c.args.reader.now.window.features (state_of c.args.sections.now)) _ _ _ _ _ p.1 p.2
    (no_header c.args.reader.now.window.features (state_of c.args.sections.now) c.args.reader.now c.read_header.new.reader _ _ c.in_err-read_header.ensures)

pub read_to_end-requires : goal.read_to_end-requires
read_to_end-requires c = c.requires ∙ sym (behind_header c.args.reader.now c.read_header.new.reader _ c.in_ok-read_header.ensures)

pub returns-clause-file : goal.returns-clause-file
returns-clause-file c = header_then (state_of c.args.sections.now) c.args.reader.now c.read_header.new.reader _ _ _ c.in_ok-read_header.ensures c.read_to_end.ensures

pub returns-in_err-read_header-clause-header : goal.returns-in_err-read_header-clause-header
returns-in_err-read_header-clause-header c =
    let p = err_from_is_err_and c.from_residual.result c.from_residual.ensures.1 in
    no_memory c.args.reader.now c.read_header.new.reader _ _ _ p.1 p.2 c.in_err-read_header.ensures

pub returns-clause-header : goal.returns-clause-header
returns-clause-header c = header_there c.args.reader.now c.read_header.new.reader _ _ c.in_ok-read_header.ensures
