use Rattle.std.proofs.Common.{◌≡◌, ℕ, length}
use Rattle.walrus_walks.specs.declared.nesting.Mark.TheVariants.{Fresh}
use Rattle.walrus_walks.specs.Checks.{mark_at}
use Rattle.walrus_walks.proofs.nesting.fresh_marks.Given as goal

abbrev pub invariant-loop-index : goal.invariant-loop-index
invariant-loop-index l = record {
  fresh : (k : ℕ) → mark_at l.marks.items k ≡ Fresh;
  sized : length l.marks.items ≡ l._index;
}
