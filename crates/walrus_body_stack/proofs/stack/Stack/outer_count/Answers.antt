use Rattle.std.proofs.Common.{sym, ◌∙◌}
use Rattle.walrus_body_stack.specs.Frames.{clauses_around, handlers_around}
use Rattle.walrus_body_stack.proofs.Labels.{count_in}
use Rattle.walrus_body_stack.proofs.stack.Stack.outer_count.Goals as goal

pub returns : goal.returns
returns c =
    let s = c.args.self.now in
    let sort = s.nest.inner.frame.sort in
    c.outer_count.ensures ∙ sym (count_in s.nest.outer (handlers_around sort s.handlers) (clauses_around sort s.clauses))
