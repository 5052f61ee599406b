use Rattle.std.proofs.Common.{drop}
use Rattle.walrus_body_steps.specs.Meanings.{AreClauses}
use Rattle.walrus_body_operands.specs.Asked.{clause_test}
use Rattle.walrus_body_operands.proofs.Gathering.{Gathers}
use Rattle.walrus_body_operands.proofs.opens.handlers.Given as goal

abbrev pub invariant-loop-clause : goal.invariant-loop-clause
invariant-loop-clause g l =
    Gathers (clause_test (g.S.Scope.sight l.scope) (g.L.Labels.ids l.labels)) (AreClauses (g.S.Scope.sight l.scope) (g.L.Labels.ids l.labels)) l.clauses (drop l.clause-index l.clauses) l.made.items
