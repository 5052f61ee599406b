use Rattle.std.proofs.Common.{◌≡◌, false, map, take}
use Rattle.std.specs.Prelude.{replicate}
use Rattle.walrus_marks.specs.Marks.{lists_of, left_out}
use Rattle.walrus_marks.proofs.marks.Marks.new.Given as goal

abbrev pub invariant-loop-count : goal.invariant-loop-count
invariant-loop-count l = record {
  flags : lists_of l.flags.items ≡ map (λ n. replicate n false) (take l.count-index l.counts);
  all : left_out (lists_of l.flags.items) ≡ l.all;
}
