use Rattle.std.proofs.Common.{◌∙◌, ◌+◌, ◌++◌, ◌∷◌, [], ℕ, List, ap, sym}
use Rattle.walrus_module.proofs.ArgumentLemmas.{turn, range-more}
use Rattle.walrus_module.proofs.build.add_arguments.Goals as goal

pub returns-in_err-push-clause-part : goal.returns-in_err-push-clause-part
returns-in_err-push-clause-part c =
    let k = c.loop-ty.ty-index in
    let after = turn c.args.locals.now c.args.params.now k c.ty-item.result c.in_ok-add.field-0 c.loop-ty.locals _ c.loop-ty-test.true c.ty-item.is c.in_ok-add.ensures.id c.loop-ty.invariant.added c.in_ok-add.ensures.added in
    (k + 1, after.1)

pub loop-ty-preserved : goal.loop-ty-preserved
loop-ty-preserved c =
    let k = c.loop-ty.ty-index in
    let id = c.in_ok-add.field-0 in
    let after = turn c.args.locals.now c.args.params.now k c.ty-item.result id c.loop-ty.locals _ c.loop-ty-test.true c.ty-item.is c.in_ok-add.ensures.id c.loop-ty.invariant.added c.in_ok-add.ensures.added in
    record {
      ids = c.in_ok-push.ensures.items ∙ ap (λ (xs : List ℕ). xs ++ id ∷ []) c.loop-ty.invariant.ids ∙ sym (range-more _ k id after.0);
      added = after.1;
    }

pub returns-clause-part : goal.returns-clause-part
returns-clause-part c = (c.loop-ty.ty-index, c.loop-ty.invariant.added)

pub returns-in_err-add-clause-part : goal.returns-in_err-add-clause-part
returns-in_err-add-clause-part c = (c.loop-ty.ty-index, c.in_err-add.ensures.refused ∙ c.loop-ty.invariant.added)
