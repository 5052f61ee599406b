use Rattle.std.specs.Prelude.{ℕ, ◌≡◌, is_some}
use Rattle.std.specs.List.{list_any}
use Rattle.walrus_sections.specs.Sections.{boxed_at}
use Rattle.walrus_emit_customs.specs.Told.{has_boxed}
use Rattle.walrus_emit.proofs.whole.has_own.Given as goal

abbrev pub invariant-loop-id : goal.invariant-loop-id
invariant-loop-id g l = record {
  can : (goal.iterator-loop-id g).can_next l.id-iterator;
  ends : (goal.iterator-loop-id g).is_finite l.id-iterator;
  rest : list_any (λ (id : ℕ). is_some (boxed_at l.input.customs id)) l.id-iterator ≡ has_boxed l.input.customs;
}
