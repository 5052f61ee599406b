use Rattle.std.proofs.Common.{◌≡◌, ◌++◌, drop}
use Rattle.walrus_builder.specs.walrus_walks.Tree.{children_in}
use Rattle.walrus_tree.specs.Testing.{all_within, entering}
use Rattle.walrus_tree.proofs.check.look_through.Given as goal

abbrev pub invariant-loop-instr : goal.invariant-loop-instr
invariant-loop-instr l = record {
  within : all_within l.marks l.depth (drop l.instr-index l.instrs) ≡ all_within l.marks l.depth l.instrs;
  pushed : l.steps.items ++ entering (children_in (drop l.instr-index l.instrs)) ≡ l.fn.steps.items ++ entering (children_in l.instrs);
}
