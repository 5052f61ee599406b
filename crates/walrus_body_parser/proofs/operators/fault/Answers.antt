use Rattle.std.proofs.Common.{Err, subst}
use Rattle.walrus_operators.specs.declared.reader.OperatorError.{OperatorError}
use Rattle.walrus_operators.specs.Operators.{ReadsOperator}
use Rattle.walrus_body_parser.proofs.Takes.{operator_refused, operator_unknown}
use Rattle.walrus_body_parser.proofs.operators.fault.Goals as goal

pub returns-in-Read : goal.returns-in-Read
returns-in-Read c = λ old new within h.
    let F : OperatorError → Type 0 = λ e. ReadsOperator old.window.features old new (Err e) in
    rw c.from.ensures (operator_refused old new c.in-Read.error (subst F c.in-Read.is h))

pub returns-in-Unknown : goal.returns-in-Unknown
returns-in-Unknown c = λ old new within h.
    let F : OperatorError → Type 0 = λ e. ReadsOperator old.window.features old new (Err e) in
    operator_unknown old new c.in-Unknown.offset within (subst F c.in-Unknown.is h)
