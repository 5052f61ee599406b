use Rattle.std.proofs.Common.{◌≡◌, ◌++◌, drop}
use Rattle.walrus_builder.specs.walrus_walks.Tree.{handlers}
use Rattle.walrus_tree.specs.Testing.{entering}
use Rattle.walrus_tree.proofs.steps.push_handlers.Given as goal

abbrev pub invariant-loop-part : goal.invariant-loop-part
invariant-loop-part l = l.steps.items ++ entering (handlers (drop l.part-index l.parts)) ≡ l.fn.steps.items ++ entering (handlers l.parts)
