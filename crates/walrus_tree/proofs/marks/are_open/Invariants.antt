use Rattle.std.proofs.Common.{◌≡◌, drop}
use Rattle.walrus_tree.specs.Testing.{all_open}
use Rattle.walrus_tree.proofs.marks.are_open.Given as goal

abbrev pub invariant-loop-id : goal.invariant-loop-id
invariant-loop-id l = all_open l.marks (drop l.id-index l.ids) ≡ all_open l.marks l.ids
