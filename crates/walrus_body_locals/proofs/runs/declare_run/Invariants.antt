use Rattle.std.proofs.Common.{◌-◌, length}
use Rattle.walrus_index_maps.specs.Views.{ids}
use Rattle.walrus_body_locals.proofs.Declaring.{Running}
use Rattle.walrus_body_locals.proofs.runs.declare_run.Given as goal

abbrev pub invariant-loop-number : goal.invariant-loop-number
invariant-loop-number l = Running l.fn.function l.fn.ty l.fn.numbers l.fn.place l.fn.from l.fn.end l.fn.locals (ids l.fn.indices) l.place l.from l.locals (ids l.indices)

abbrev pub decreases-loop-number : goal.decreases-loop-number
decreases-loop-number l = length l.fn.numbers - l.place
