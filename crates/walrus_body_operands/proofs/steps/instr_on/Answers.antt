use Rattle.walrus_operators.specs.Immediates.{kind_is}
use Rattle.walrus_body_operands.specs.Listed.{holds_list}
use Rattle.walrus_body_operands.proofs.Finish.{on_runs, on_step}
use Rattle.walrus_body_operands.proofs.steps.instr_on.Goals as goal

pub run-requires : goal.run-requires
run-requires g c = (c.requires.listed, on_runs c.args.op.now c.requires.on)

pub returns : goal.returns
returns g c =
    on_step (g.S.Scope.sight c.args.scope.now) (g.L.Labels.ids c.args.labels.now) c.args.op.now (holds_list (kind_is c.args.op.now.immediates)) c.args.offset c.run.result c.requires.on c.run.ensures
