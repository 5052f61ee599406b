use Rattle.std.proofs.Common.{drop}
use Rattle.walrus_index_maps.specs.Views.{ids}
use Rattle.walrus_module_bodies.specs.Steps.{state}
use Rattle.walrus_module_bodies.proofs.StepLemmas.{Going}
use Rattle.walrus_module_bodies.proofs.bodies.read_bodies.Given as goal

abbrev pub invariant-loop-body : goal.invariant-loop-body
invariant-loop-body l = Going l.fn.file l.fn.features l.bodies (drop l.body-index l.bodies) (state l.fn.types l.fn.locals (ids l.fn.indices) l.fn.functions) (state l.types l.locals (ids l.indices) l.functions)
