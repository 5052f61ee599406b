use Rattle.std.proofs.Common.{[], ap, ◌∙◌}
use Rattle.walrus_operators.specs.Immediates.{items_of}
use Rattle.walrus_body_operands.proofs.Finish.{block_test_is}
use Rattle.walrus_body_operands.proofs.steps.opened_type.Goals as goal

pub returns-in-Ok : goal.returns-in-Ok
returns-in-Ok g c = λ labels.
    let op = c.args.op.now in
    let got = c.in-Ok.ensures in
    (block_test_is (g.S.Scope.sight c.args.scope.now) labels op c.block_of.result c.block_of.ensures ∙ got.0, (c.block_of.result, [], ap items_of c.block_of.ensures, got.1))
