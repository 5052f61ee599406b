use Rattle.std.proofs.Common.{inr, sym, subst}
use Rattle.std.proofs.lemmas.Result.{err_from_is_err_and}
use Rattle.walrus_module.specs.walrus_collections.LookUps.{items}
use Rattle.walrus_counts.specs.Counts.{HaveNoTree}
use Rattle.walrus_counts.proofs.BodyLemmas.{added, refused}
use Rattle.walrus_counts.proofs.counts.operator_count.Goals as goal

pub returns-in_err-size-clause-refused : goal.returns-in_err-size-clause-refused
returns-in_err-size-clause-refused c =
    let p = err_from_is_err_and c.from_residual.result c.from_residual.ensures.1 in
    rw (p.1, p.2)
    (refused c.loop-function.function-iterator c.next.new.self (items c.args.functions.now) c.in-Some.function.now _ c.in-Some.ensures.steps c.loop-function.invariant.among c.in_err-size.ensures.refused)

pub loop-function-preserved : goal.loop-function-preserved
loop-function-preserved c = record {
  can = tt;
  ends = tt;
  counted = added c.loop-function.function-iterator c.next.new.self c.in-Some.function.now c.loop-function.count c.in_ok-size.size c.in_ok-count.count _ c.in-Some.ensures.steps c.in_ok-size.ensures.size c.in_ok-count.ensures.sum c.loop-function.invariant.counted;
  among = λ h. c.loop-function.invariant.among (subst HaveNoTree (sym c.in-Some.ensures.steps) (inr h));
}
