use Rattle.std.proofs.Common.{refl}
use Rattle.walrus_body_steps.specs.Meanings.{AreClauses}
use Rattle.walrus_body_operands.specs.Asked.{clause_test}
use Rattle.walrus_body_operands.proofs.Gathering.{gathers_more, gathers_all}
use Rattle.walrus_body_operands.proofs.opens.handlers.Goals as goal

pub loop-clause-preserved : goal.loop-clause-preserved
loop-clause-preserved g c =
    let s = g.S.Scope.sight c.args.scope.now in
    let ids = g.L.Labels.ids c.args.labels.now in
    let read = c.in_ok-part.ensures in
    gathers_more (clause_test s ids) (AreClauses s ids) c.args.clauses.now c.loop-clause.clause-index c.loop-clause.made.items c.push.new.self.items c.in_ok-part.part _ c.loop-clause-test.true c.loop-clause.invariant read.0
    (λ rest more are. (c.in_ok-part.part, more, refl, read.1, are)) c.in_ok-push.ensures.items

pub returns : goal.returns
returns g c =
    let s = g.S.Scope.sight c.args.scope.now in
    let ids = g.L.Labels.ids c.args.labels.now in
    gathers_all (clause_test s ids) (AreClauses s ids) c.args.clauses.now c.loop-clause.clause-index c.loop-clause.made.items c.loop-clause-test.false refl c.loop-clause.invariant
