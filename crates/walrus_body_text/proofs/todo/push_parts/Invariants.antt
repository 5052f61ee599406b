use Rattle.std.proofs.Common.{◌≡◌, ◌≤◌, ◌++◌, drop, length}
use Rattle.walrus_body_text.specs.Doing.{closer_before, handling}
use Rattle.walrus_body_text.proofs.todo.push_parts.Given as goal

abbrev pub invariant-loop-at : goal.invariant-loop-at
invariant-loop-at l = record {
  inside : l.at ≤ length l.parts;
  pushed : l.todo ≡ l.fn.todo ++ handling (drop l.at l.parts);
  before : l.closer ≡ closer_before (drop l.at l.parts);
}

abbrev pub decreases-loop-at : goal.decreases-loop-at
decreases-loop-at l = l.at
