use Rattle.std.proofs.Common.{◌≡◌, drop}
use Rattle.walrus_body_operands.specs.Asked.{tests_of, value_named}
use Rattle.walrus_body_operands.proofs.types.check_values.Given as goal

abbrev pub invariant-loop-ty : goal.invariant-loop-ty
invariant-loop-ty g l = tests_of (value_named (g.S.Scope.sight l.scope)) (drop l.ty-index l.types) ≡ tests_of (value_named (g.S.Scope.sight l.scope)) l.types
