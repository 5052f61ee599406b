use Rattle.std.proofs.lemmas.Result.{err_from_is_err_and}
use Rattle.wasm_rewriter.proofs.RunLemmas.{written_runs, refused_runs, refused_untold}
use Rattle.wasm_rewriter.proofs.running.run.Goals as goal

pub returns-in_err-rewritten-clause-runs : goal.returns-in_err-rewritten-clause-runs
returns-in_err-rewritten-clause-runs g c =
    let p = err_from_is_err_and c.from_residual.result c.from_residual.ensures.1 in
    let refused = rw c.deref.ensures.value at c.in_err-rewritten.ensures.refused in
    rw (p.1, p.2) (refused_runs _ _ _ _ c.in-Ok.input.items _ c.in-Ok.ensures.input refused)

pub returns-in_err-rewritten-clause-writer_done : goal.returns-in_err-rewritten-clause-writer_done
returns-in_err-rewritten-clause-writer_done g c =
    let p = err_from_is_err_and c.from_residual.result c.from_residual.ensures.1 in
    let refused = rw c.deref.ensures.value at c.in_err-rewritten.ensures.refused in
    rw (p.1, p.2) (refused_untold _ _ _ refused)

pub returns-clause-runs : goal.returns-clause-runs
returns-clause-runs g c =
    let rewritten = rw c.deref.ensures.value at c.in_ok-rewritten.ensures.rewritten in
    written_runs _ _ _ _ c.in-Ok.input.items _ _ _ c.in-Ok.ensures.input rewritten c.write_out.ensures.writes
