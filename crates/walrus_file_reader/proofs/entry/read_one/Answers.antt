use Rattle.std.proofs.Common.{refl}
use Rattle.std.proofs.lemmas.Result.{err_from_is_err_and}
use Rattle.walrus_section_frames.specs.walrus_known_sections.Leads.{handed_on}
use Rattle.walrus_section_frames.specs.walrus_known_sections.State.{state_of}
use Rattle.walrus_file_reader.specs.Contents.{section_step}
use Rattle.walrus_file_reader.proofs.EntryLemmas.{shorter, contents_fail, contents_read}
use Rattle.walrus_file_reader.proofs.entry.read_one.Goals as goal

pub returns-in_err-read_contents-clause-step : goal.returns-in_err-read_contents-clause-step
returns-in_err-read_contents-clause-step c =
    let p = err_from_is_err_and c.from_residual-in_err-read_contents.result c.from_residual-in_err-read_contents.ensures.1 in
    handed_on (section_step c.args.reader.now.window.features (state_of c.args.sections.now)) _ _ _ _ _ _ p.1 p.2
    (contents_fail (state_of c.args.sections.now) c.args.reader.now c.read_section_id.new.reader c.read_contents.new.reader c.in_ok-id.id c.in_ok-id.ensures _ (λ _. state_of c.read_contents.new.sections) _ c.in_err-read_contents.ensures)

pub returns-clause-step : goal.returns-clause-step
returns-clause-step c =
    contents_read (state_of c.args.sections.now) c.args.reader.now c.read_section_id.new.reader c.read_contents.new.reader c.in_ok-id.id c.in_ok-id.ensures _ _ (state_of c.read_contents.new.sections)
    (state_of c.end_with.new.sections) c.original_position.result c.in_ok-read_contents.ensures c.requires c.original_position.ensures.place c.original_position.ensures.left c.end_with.ensures refl

pub returns-clause-shorter : goal.returns-clause-shorter
returns-clause-shorter c =
    shorter (state_of c.args.sections.now) c.args.reader.now c.read_section_id.new.reader c.read_contents.new.reader c.in_ok-id.id c.in_ok-id.ensures c.in_ok-read_contents.ensures.moves
