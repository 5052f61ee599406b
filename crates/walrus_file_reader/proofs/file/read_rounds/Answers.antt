use Rattle.std.proofs.Common.{arith}
use Rattle.std.proofs.lemmas.Result.{err_from_is_err_and}
use Rattle.walrus_section_reader.specs.Windows.{runs_on, run_stops, run_ends}
use Rattle.walrus_section_frames.specs.walrus_known_sections.State.{state_of}
use Rattle.walrus_file_reader.specs.Contents.{section_step}
use Rattle.walrus_file_reader.specs.Files.{rounds}
use Rattle.walrus_file_reader.proofs.FileLemmas.{as_rounds, handed_whole, runs_none, some_left, none_left}
use Rattle.walrus_file_reader.proofs.file.read_rounds.Goals as goal

pub loop-init : goal.loop-init
loop-init c = (runs_none c.args.reader.now.window.features (state_of c.args.sections.now) c.args.reader.now, c.requires)

pub returns-then-eof : goal.returns-then-eof
returns-then-eof c =
    as_rounds c.args.reader.now.window.features (state_of c.args.sections.now) _ _ _ (run_ends (section_step c.args.reader.now.window.features) (state_of c.args.sections.now) (state_of c.loop.sections) c.args.reader.now c.loop.reader c.loop.counter _ c.loop.invariant.0 (none_left _ c.if-eof.ensures))

pub read_one-requires : goal.read_one-requires
read_one-requires c = c.loop.invariant.1

pub returns-in_err-read_one : goal.returns-in_err-read_one
returns-in_err-read_one c =
    let p = err_from_is_err_and c.from_residual.result c.from_residual.ensures.1 in
    handed_whole (rounds c.args.reader.now.window.features (state_of c.args.sections.now)) _ _ _ _ _ p.1 p.2
    (as_rounds c.args.reader.now.window.features (state_of c.args.sections.now) _ _ _ (run_stops section_step (state_of c.args.sections.now) (state_of c.loop.sections) c.args.reader.now c.loop.reader c.read_one.new.reader c.loop.counter (λ _. state_of c.read_one.new.sections) _ _
    c.loop.invariant.0 (omega (arith, c.loop-test.true, c.bytes_remaining-end.ensures)) (some_left _ c.if-eof.ensures) c.in_err-read_one.ensures.step))

pub loop-preserved : goal.loop-preserved
loop-preserved c = (
  runs_on section_step (state_of c.args.sections.now) (state_of c.loop.sections) c.args.reader.now c.loop.reader c.read_one.new.reader c.loop.counter (state_of c.read_one.new.sections) _ c.loop.invariant.0
      (omega (arith, c.loop-test.true, c.bytes_remaining-end.ensures)) (some_left _ c.if-eof.ensures) c.in_ok-read_one.ensures.step c.in_ok-read_one.ensures.shorter,
  c.in_ok-read_one.ensures.offset,
)

pub returns : goal.returns
returns c =
    let left = c.loop.invariant.0.left in
    as_rounds c.args.reader.now.window.features (state_of c.args.sections.now) _ _ _ (run_ends (section_step c.args.reader.now.window.features) (state_of c.args.sections.now) (state_of c.loop.sections) c.args.reader.now c.loop.reader c.loop.counter _ c.loop.invariant.0
    (omega (arith, left, c.loop-test.false, c.bytes_remaining-end.ensures)))
