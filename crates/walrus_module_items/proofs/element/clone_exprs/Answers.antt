use Rattle.std.proofs.Common.{subst, take, get_or, List, arith, ap, ◌≡◌, ◌∙◌}
use Rattle.std.specs.List.{AllZip}
use Rattle.std.proofs.lemmas.List.{take_all}
use Rattle.walrus_instr.specs.declared.const_expr.ConstExpr.{ConstExpr}
use Rattle.walrus_instr.specs.Copies.{IsExprCopy}
use Rattle.walrus_module_items.proofs.CopyLemmas.{copied-push}
use Rattle.walrus_module_items.proofs.element.clone_exprs.Goals as goal

pub returns : goal.returns
returns c =
    let xs = c.args.exprs.now.items in
    let end = c.loop-expr-test.false in
    let whole : take c.loop-expr.expr-index xs ≡ xs = take_all c.loop-expr.expr-index xs (omega (arith, end)) in
    let F : List ConstExpr → Type 0 = λ es. AllZip IsExprCopy es c.loop-expr.copies.items in
    subst F whole c.loop-expr.invariant.copied

pub loop-expr-preserved : goal.loop-expr-preserved
loop-expr-preserved c =
    let xs = c.args.exprs.now.items in
    let i = c.loop-expr.expr-index in
    let x = c.expr-item.result in
    let turn = c.loop-expr-test.true in
    let at : x ≡ get_or xs i x = c.expr-item.is ∙ ap (λ (es : List ConstExpr). get_or es i x) c.deref-expr-items.ensures.value in
    let more = copied-push xs c.loop-expr.copies.items i x _ (omega (arith, turn)) at c.loop-expr.invariant.copied c.in_ok-clone.ensures in
    record { copied = rw c.in_ok-push.ensures.items more }
