use Rattle.std.proofs.Common.{◌≡◌, ◌+◌, ℕ, fold}
use Rattle.walrus_module.specs.walrus_collections.LookUps.{items}
use Rattle.walrus_module.specs.walrus_module_items.declared.function.Function.{Function}
use Rattle.walrus_counts.specs.Counts.{HaveNoTree, kind_size, operator_count}
use Rattle.walrus_counts.proofs.counts.operator_count.Given as goal

abbrev pub invariant-loop-function : goal.invariant-loop-function
invariant-loop-function l = record {
  can : (goal.iterator-loop-function).can_next l.function-iterator;
  ends : (goal.iterator-loop-function).is_finite l.function-iterator;
  counted : fold (λ (n : ℕ) (f : Function). n + kind_size f.kind) l.count l.function-iterator ≡ operator_count l.functions;
  among : HaveNoTree l.function-iterator → HaveNoTree (items l.functions);
}
