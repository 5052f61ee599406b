use Rattle.walrus_index_maps.specs.Views.{ids}
use Rattle.walrus_body_locals.proofs.DeclaringRuns.{Declaring}
use Rattle.walrus_body_locals.proofs.runs.declare_kept.Given as goal

abbrev pub invariant-loop-run : goal.invariant-loop-run
invariant-loop-run l = Declaring l.fn.function l.fn.runs l.fn.numbers l.fn.locals (ids l.fn.indices) l.run-index l.place l.from l.locals (ids l.indices)
