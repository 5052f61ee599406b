use Rattle.std.specs.Prelude.{ℕ, ◌≡◌, ◌++◌, false, filter}
use Rattle.walrus_arena.specs.Arena.{item_at}
use Rattle.walrus_emit_customs.specs.Customs.{stands_at}
use Rattle.walrus_emit_customs.specs.Told.{told_ids}
use Rattle.walrus_emit_customs.proofs.customs.told.Given as goal

abbrev pub invariant-loop-id : goal.invariant-loop-id
invariant-loop-id g l = record {
  can : (goal.iterator-loop-id g).can_next l.id-iterator;
  ends : (goal.iterator-loop-id g).is_finite l.id-iterator;
  moved : l.ids.items ++ filter (λ (id : ℕ). stands_at g.B.CustomSection.own_name false (item_at l.sections id)) l.id-iterator ≡ told_ids g.B.CustomSection.own_name l.sections;
}
