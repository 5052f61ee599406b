use Rattle.std.proofs.Common.{◌≡◌, drop}
use Rattle.walrus_tree.specs.Testing.{clauses_open}
use Rattle.walrus_tree.proofs.marks.are_clauses_open.Given as goal

abbrev pub invariant-loop-clause : goal.invariant-loop-clause
invariant-loop-clause l = clauses_open l.marks (drop l.clause-index l.clauses) ≡ clauses_open l.marks l.clauses
