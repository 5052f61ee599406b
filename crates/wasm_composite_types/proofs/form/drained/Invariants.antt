use Rattle.std.proofs.Common.{◌-◌, ◌^◌, length}
use Rattle.std.specs.Iterator.{Yields}
use Rattle.wasm_composite_types.proofs.form.drained.Given as goal

-- what was taken is what the iterator gave so far
abbrev pub invariant-loop-taken : goal.invariant-loop-taken
invariant-loop-taken g l = g.I.Iterator.can_next l.items × Yields g.I.Iterator.next_gives l.fn.items l.taken.items l.items

-- a `Vec` holds fewer than 2^64 items
abbrev pub decreases-loop-taken : goal.decreases-loop-taken
decreases-loop-taken g l = 2 ^ 64 - length l.taken.items
