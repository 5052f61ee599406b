use Rattle.walrus_body_text.proofs.Pushes.{arms_pushed}
use Rattle.walrus_body_text.proofs.todo.push_held.Goals as goal

pub returns-in_ok-push_enter-in-IfElse : goal.returns-in_ok-push_enter-in-IfElse
returns-in_ok-push_enter-in-IfElse c =
    arms_pushed c.push_enter-in-IfElse-2.result c.args.todo.now c.push_enter-in-IfElse.new.todo c.push_enter-in-IfElse-2.new.todo c.args.instr.now c.in-IfElse.consequent c.in-IfElse.alternative c.in-IfElse.is
    c.in_ok-push_enter-in-IfElse.ensures c.push_enter-in-IfElse-2.ensures
