use Rattle.std.proofs.Common.{◌∙◌, ℕ, List, subst, ap, arith}
use Rattle.std.proofs.lemmas.List.{take_all}
use Rattle.std.proofs.lemmas.Result.{IfOk-weaker}
use Rattle.walrus_body_locals.specs.Named.{kept_numbers}
use Rattle.walrus_body_locals.proofs.Choosing.{Flagged, flagged_are}
use Rattle.walrus_body_locals.proofs.named.by_flags.Goals as goal

pub returns : goal.returns
returns c =
    let numbers = c.args.numbers.now in
    let whole = take_all c.loop-number.number-index numbers (omega (arith, c.loop-number-test.false)) in
    let all : Flagged c.args.count numbers c.loop-number.flags.items = subst (λ (ns : List ℕ). Flagged c.args.count ns c.loop-number.flags.items) whole c.loop-number.invariant in
    let are = c.as_slice.ensures.value ∙ flagged_are c.args.count numbers c.loop-number.flags.items all in
    IfOk-weaker c.flagged.result _ _ (λ kept is. is ∙ ap (kept_numbers 0) are) c.flagged.ensures
