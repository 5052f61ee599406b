use Rattle.std.proofs.Common.{◌≡◌, ◌++◌, length}
use Rattle.walrus_walks.specs.Tree.{handlers}
use Rattle.walrus_walks.specs.Steps.{entering}
use Rattle.walrus_walks.proofs.steps.push_handlers.Given as goal

abbrev pub invariant-loop-last : goal.invariant-loop-last
invariant-loop-last l = l.stack.items ++ entering (handlers l.rest) ≡ l.fn.stack.items ++ entering (handlers l.fn.catches)

abbrev pub decreases-loop-last : goal.decreases-loop-last
decreases-loop-last l = length l.rest
