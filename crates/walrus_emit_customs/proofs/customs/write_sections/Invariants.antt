use Rattle.walrus_arena.specs.Arena.{ids, item_at}
use Rattle.walrus_index_maps.specs.Views.{indices}
use Rattle.walrus_emit_customs.specs.Customs.{standing_due}
use Rattle.walrus_emit_customs.proofs.CustomLemmas.{WroteFirst}
use Rattle.walrus_emit_customs.proofs.customs.write_sections.Given as goal

abbrev pub invariant-loop-id : goal.invariant-loop-id
invariant-loop-id g l = record {
  can : (goal.iterator-loop-id g).can_next l.id-iterator;
  ends : (goal.iterator-loop-id g).is_finite l.id-iterator;
  wrote : WroteFirst (λ id. standing_due g.B.CustomSection.own_name (λ b. g.B.CustomSection.contents b (indices l.maps)) l.first (item_at l.sections id)) (ids l.sections) l.id-iterator l.fn.out.items l.out.items;
}
