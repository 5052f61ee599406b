use Rattle.std.proofs.Common.{◌++◌, List, ap, sym, ◌∙◌}
use Rattle.walrus_instr.specs.declared.instr.LegacyCatch.{LegacyCatch}
use Rattle.walrus_walks.specs.declared.steps.Step.{Step}
use Rattle.walrus_walks.specs.Tree.{handlers}
use Rattle.walrus_walks.specs.Steps.{entering}
use Rattle.walrus_walks.proofs.Entering.{entering_last}
use Rattle.walrus_walks.proofs.steps.push_handlers.Goals as goal

pub loop-last-preserved : goal.loop-last-preserved
loop-last-preserved c =
    let before = c.loop-last.stack.items in
    let front = c.in-Some.front.now in
    let pushed = c.in_ok-push_handler.ensures in
    let split = c.in-Some.ensures.cases.0 in
    ap (λ (fs : List Step). fs ++ entering (handlers front)) pushed
    ∙ sym (entering_last before front c.in-Some.last.now)
    ∙ ap (λ (cs : List LegacyCatch). before ++ entering (handlers cs)) (sym split)
    ∙ c.loop-last.invariant
