use Rattle.std.proofs.Common.{take}
use Rattle.walrus_index_maps.specs.Views.{ids}
use Rattle.walrus_sections_into.specs.Becomes.{look_of, OpsBecome}
use Rattle.walrus_sections_into.proofs.exprs.read_expr.Given as goal

abbrev pub invariant-loop-operator : goal.invariant-loop-operator
invariant-loop-operator l = OpsBecome (look_of (ids l.maps)) (take l.operator-index l.operators) l.ops.items
