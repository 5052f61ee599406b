use Rattle.std.proofs.lemmas.Result.{err_from_is_err_and}
use Rattle.std.proofs.Common.{◌∙◌, sym}
use Rattle.walrus_section_frames.specs.walrus_known_sections.State.{state_of}
use Rattle.walrus_file_reader.specs.Files.{sections_to_end}
use Rattle.walrus_file_reader.proofs.FileLemmas.{handed_whole, rounds_fail, lacks, has_them}
use Rattle.walrus_file_reader.proofs.file.read_to_end.Goals as goal

pub read_rounds-requires : goal.read_rounds-requires
read_rounds-requires c = c.requires

pub returns-in_err-read_rounds : goal.returns-in_err-read_rounds
returns-in_err-read_rounds c =
    let p = err_from_is_err_and c.from_residual.result c.from_residual.ensures.1 in
    handed_whole (sections_to_end c.args.reader.now.window.features (state_of c.args.sections.now)) _ _ _ _ _ p.1 p.2
    (rounds_fail c.args.reader.now.window.features (state_of c.args.sections.now) c.args.reader.now _ (λ _. state_of c.read_rounds.new.sections) _ c.in_err-read_rounds.ensures)

pub returns-then-not-has_all : goal.returns-then-not-has_all
returns-then-not-has_all c =
    lacks c.args.reader.now.window.features (state_of c.args.sections.now) (state_of c.read_rounds.new.sections) c.args.reader.now _ _ _ _ c.in_ok-read_rounds.ensures (sym c.if-not-has_all.true ∙ c.has_all.ensures) c.new.ensures c.remaining_range-end.ensures.end

pub returns : goal.returns
returns c = has_them c.args.reader.now.window.features (state_of c.args.sections.now) (state_of c.read_rounds.new.sections) c.args.reader.now _ _ c.in_ok-read_rounds.ensures (sym c.if-not-has_all.false ∙ c.has_all.ensures)
