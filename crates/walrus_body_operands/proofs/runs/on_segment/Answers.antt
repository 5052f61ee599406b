use Rattle.walrus_operators.specs.Immediates.{items_of}
use Rattle.walrus_operators.specs.Operators.{seen}
use Rattle.walrus_pairing.specs.Read.{instr_at}
use Rattle.walrus_body_steps.specs.walrus_body_rules.Rules.{items_test}
use Rattle.walrus_body_steps.specs.walrus_body_rules.Sights.{look}
use Rattle.walrus_body_steps.specs.Meanings.{RunsAs}
use Rattle.walrus_body_operands.proofs.Pairing.{count_test, fails_before, meets_then, runs_as, segment_plain, segment_told}
use Rattle.walrus_body_operands.proofs.runs.on_segment.Goals as goal

pub paired-requires-clause-plain : goal.paired-requires-clause-plain
paired-requires-clause-plain g c =
    let op = c.args.op.now in
    segment_plain op.immediates c.requires.segment

pub returns-in-Ok : goal.returns-in-Ok
returns-in-Ok g c = λ labels around.
    let s = g.S.Scope.sight c.args.scope.now in
    let op = c.args.op.now in
    let told = segment_told s labels op.code op.immediates c.requires.segment in
    meets_then (items_test s labels (seen op)) told.first (count_test s labels op.code) (instr_at (look s) (seen op)) c.in-Ok.instr c.counted.result c.args.offset (RunsAs s around op.code (items_of op.immediates)) told.test told.told c.in-Ok.ensures
    (runs_as s around op.code op.immediates c.in-Ok.instr (segment_plain op.immediates c.requires.segment) c.in-Ok.ensures) c.counted.ensures

pub returns-in-Err : goal.returns-in-Err
returns-in-Err g c = λ labels around.
    let s = g.S.Scope.sight c.args.scope.now in
    let op = c.args.op.now in
    let told = segment_told s labels op.code op.immediates c.requires.segment in
    let is = c.in-Err.ensures in
    fails_before (items_test s labels (seen op)) told.first (count_test s labels op.code) (instr_at (look s) (seen op)) is.0 c.args.offset c.in-Err.fault told.test told.told is.1 is.2
