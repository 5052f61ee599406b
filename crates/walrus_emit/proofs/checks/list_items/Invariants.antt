use Rattle.std.proofs.Common.{◌≡◌, ◌++◌, ℕ, map}
use Rattle.walrus_roots.specs.Items.{item}
use Rattle.walrus_emit.specs.Listed.{live_in}
use Rattle.walrus_emit.proofs.checks.list_items.Given as goal

abbrev pub invariant-loop-id : goal.invariant-loop-id
invariant-loop-id g l = record {
  can : (goal.iterator-loop-id g).can_next l.id-iterator;
  ends : (goal.iterator-loop-id g).is_finite l.id-iterator;
  moved : l.listed.items ++ map (λ (id : ℕ). item l.space id) l.id-iterator ≡ l.fn.listed.items ++ live_in l.space l.items;
}
