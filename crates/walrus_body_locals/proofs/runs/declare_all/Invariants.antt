use Rattle.std.proofs.Common.{take}
use Rattle.walrus_index_maps.specs.Views.{ids}
use Rattle.walrus_body_nesting.specs.wasm_body_grammar.Bodies.{declared}
use Rattle.walrus_body_locals.specs.Locals.{Adds}
use Rattle.walrus_body_locals.proofs.runs.declare_all.Given as goal

abbrev pub invariant-loop-run : goal.invariant-loop-run
invariant-loop-run l = Adds l.fn.function (declared (take l.run-index l.runs)) l.fn.locals l.locals (ids l.fn.indices) (ids l.indices)
