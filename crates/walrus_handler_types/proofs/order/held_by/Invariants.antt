use Rattle.std.proofs.Common.{◌≡◌, ◌++◌, drop}
use Rattle.walrus_handlers.specs.walrus_tree.walrus_walks.Tree.{children_in}
use Rattle.walrus_handler_types.proofs.order.held_by.Given as goal

abbrev pub invariant-loop-instr : goal.invariant-loop-instr
invariant-loop-instr l = l.held.items ++ children_in (drop l.instr-index l.instrs) ≡ children_in l.instrs
