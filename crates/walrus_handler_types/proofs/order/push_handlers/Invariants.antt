use Rattle.std.proofs.Common.{◌≡◌, ◌++◌, drop}
use Rattle.walrus_handlers.specs.walrus_tree.walrus_walks.Tree.{handlers}
use Rattle.walrus_handler_types.proofs.order.push_handlers.Given as goal

abbrev pub invariant-loop-part : goal.invariant-loop-part
invariant-loop-part l = l.held.items ++ handlers (drop l.part-index l.parts) ≡ l.fn.held.items ++ handlers l.parts
