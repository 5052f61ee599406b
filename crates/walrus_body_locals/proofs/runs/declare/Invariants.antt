use Rattle.std.proofs.Common.{[], ◌∷◌}
use Rattle.std.specs.List.{repeat}
use Rattle.walrus_index_maps.specs.Views.{ids}
use Rattle.walrus_body_locals.specs.Locals.{Adds}
use Rattle.walrus_body_locals.proofs.runs.declare.Given as goal

abbrev pub invariant-loop : goal.invariant-loop
invariant-loop l = Adds l.fn.function (repeat l.counter (l.fn.ty ∷ [])) l.fn.locals l.locals (ids l.fn.indices) (ids l.indices)
