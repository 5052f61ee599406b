use Rattle.std.proofs.Common.{take}
use Rattle.walrus_index_maps.specs.Views.{ids}
use Rattle.walrus_module_bodies.specs.Steps.{HasArguments}
use Rattle.walrus_module_bodies.proofs.arguments.add_arguments.Given as goal

abbrev pub invariant-loop-ty : goal.invariant-loop-ty
invariant-loop-ty l = HasArguments l.fn.function (take l.ty-index l.params) l.fn.locals l.locals (ids l.fn.indices) (ids l.indices) l.args.items
