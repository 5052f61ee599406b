use Rattle.std.proofs.Common.{◌≡◌, ◌∙◌, Ok, Result, true, sym}
use Rattle.walrus_instr.specs.declared.instr.Instr.{Instr}
use Rattle.walrus_pairing.specs.Read.{instr_at}
use Rattle.walrus_operators.specs.Immediates.{items_of}
use Rattle.walrus_operators.specs.Operators.{seen}
use Rattle.walrus_body_steps.specs.walrus_body_env.declared.error.BodyError.{BodyError}
use Rattle.walrus_body_steps.specs.walrus_body_rules.Rules.{items_test}
use Rattle.walrus_body_steps.specs.walrus_body_rules.Sights.{look}
use Rattle.walrus_body_steps.specs.Meanings.{RunsAs}
use Rattle.walrus_body_operands.specs.Listed.{accessed, names_alone}
use Rattle.walrus_body_operands.proofs.Pairing.{access_told, alone_told, alone_then, behind, either_plain, fails_before, meets, meets_then, plain_told, runs_as, within_test}
use Rattle.walrus_body_operands.proofs.runs.plain.Goals as goal

abbrev good : Instr → Result Instr BodyError
good i = Ok i

pub paired-requires-clause-plain : goal.paired-requires-clause-plain
paired-requires-clause-plain g c = either_plain c.args.op.now.immediates c.requires.alone

pub returns-in-Some : goal.returns-in-Some
returns-in-Some g c = λ labels around.
    let s = g.S.Scope.sight c.args.scope.now in
    let op = c.args.op.now in
    let told = access_told s labels op.code op.immediates c.in-Some.access (sym c.access_of.ensures ∙ c.in-Some.is) in
    meets_then (items_test s labels (seen op)) told.first (within_test s labels op.code c.in-Some.access) (instr_at (look s) (seen op)) c.in-Ok.instr c.within.result c.args.offset (RunsAs s around op.code (items_of op.immediates)) told.test told.told c.in-Ok.ensures
    (runs_as s around op.code op.immediates c.in-Ok.instr (either_plain op.immediates c.requires.alone) c.in-Ok.ensures) c.within.ensures

pub returns-in-None : goal.returns-in-None
returns-in-None g c = λ labels around.
    let s = g.S.Scope.sight c.args.scope.now in
    let op = c.args.op.now in
    let alone : names_alone op.immediates ≡ true = alone_then op.immediates c.requires.alone (sym c.access_of.ensures ∙ c.in-None.is) in
    meets (items_test s labels (seen op)) (instr_at (look s) (seen op)) (good c.in-Ok.instr) c.args.offset (RunsAs s around op.code (items_of op.immediates))
    (plain_told s labels op.code op.immediates alone) (λ i is. runs_as s around op.code op.immediates i (either_plain op.immediates c.requires.alone) is) c.in-Ok.ensures

pub returns-in-Err : goal.returns-in-Err
returns-in-Err g c = λ labels around.
    let s = g.S.Scope.sight c.args.scope.now in
    let op = c.args.op.now in
    let told = alone_told s labels op.code op.immediates c.requires.alone in
    let is = c.in-Err.ensures in
    fails_before (items_test s labels (seen op)) told.first (behind s labels op.code (accessed op.immediates)) (instr_at (look s) (seen op)) is.0 c.args.offset c.in-Err.fault told.test told.told is.1 is.2
