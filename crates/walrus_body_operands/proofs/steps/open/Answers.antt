use Rattle.std.proofs.Common.{[], ap, ◌∙◌}
use Rattle.walrus_operators.specs.Immediates.{items_of}
use Rattle.walrus_body_operands.proofs.Finish.{block_test_is}
use Rattle.walrus_body_operands.proofs.steps.open.Goals as goal

pub returns-in-Ok : goal.returns-in-Ok
returns-in-Ok g c = λ labels around.
    let s = g.S.Scope.sight c.args.scope.now in
    let op = c.args.op.now in
    let got = c.in-Ok.ensures in
    (block_test_is s labels op c.block_of.result c.block_of.ensures ∙ got.0, (c.requires.opens s around, (c.block_of.result, [], ap items_of c.block_of.ensures, got.1)))
