use Rattle.std.proofs.Common.{arith, refl}
use Rattle.std.proofs.lemmas.Result.{err_from_is_err_and}
use Rattle.walrus_section_reader.specs.Repeats.{goes_on, misses, ends}
use Rattle.walrus_section_reader.proofs.entries.read_entries.Goals as goal

pub returns-in_err-read_entry : goal.returns-in_err-read_entry
returns-in_err-read_entry g c =
    let p = err_from_is_err_and c.from_residual.result c.from_residual.ensures.1 in
    rw (p.1, p.2) (misses g.E.Entries.step _ _ _ _ _ _ c.loop.counter _ _ c.in_err-read_entry.field-0.0 c.loop.invariant c.loop-test.true c.in_err-read_entry.ensures)

pub loop-preserved : goal.loop-preserved
loop-preserved g c = goes_on g.E.Entries.step _ _ _ _ _ _ _ _ _ c.loop.invariant c.loop-test.true c.in_ok-read_entry.ensures

pub returns : goal.returns
returns g c = ends (g.E.Entries.step c.args.reader.now.window.features) _ _ _ _ _ c.loop.counter _ c.loop.invariant (omega arith)
