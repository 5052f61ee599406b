use Rattle.std.proofs.Common.{◌≡◌, ◌+◌, ℕ, not, fold, cond}
use Rattle.walrus_types.specs.Items.{Item}
use Rattle.walrus_counts.specs.Counts.{type_count}
use Rattle.walrus_counts.proofs.counts.type_count.Given as goal

abbrev pub invariant-loop-ty : goal.invariant-loop-ty
invariant-loop-ty l = record {
  can : (goal.iterator-loop-ty).can_next l.ty-iterator;
  ends : (goal.iterator-loop-ty).is_finite l.ty-iterator;
  counted : fold (λ (n : ℕ) (item : Item). n + cond (not item.kind.entry) 1 0) l.count l.ty-iterator ≡ type_count l.types;
}
