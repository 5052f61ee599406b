use Rattle.walrus_body_locals.specs.Locals.{run_told}
use Rattle.walrus_body_locals.proofs.Going.{Going}
use Rattle.walrus_body_locals.proofs.runs.read_runs.Given as goal

abbrev pub invariant-loop : goal.invariant-loop
invariant-loop g l =
    Going (run_told g.V.Validator.locals_step) l.fn.params l.count l.fn.reader l.reader l.fn.indices.types.items l.fn.validator l.validator l.runs.items l.total l.counter
