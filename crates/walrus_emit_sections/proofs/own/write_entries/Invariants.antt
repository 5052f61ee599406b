use Rattle.std.proofs.Common.{map}
use Rattle.walrus_collections.specs.LookUps.{items}
use Rattle.walrus_emit_sections.specs.Own.{WroteSome}
use Rattle.walrus_emit_sections.proofs.own.write_entries.Given as goal

abbrev pub invariant-loop-item : goal.invariant-loop-item
invariant-loop-item g l = record {
  can : (goal.iterator-loop-item g).can_next l.item-iterator;
  ends : (goal.iterator-loop-item g).is_finite l.item-iterator;
  some : WroteSome g.W.OwnEntry.has_entry (g.W.OwnEntry.due l.writer) (map g.W.OwnEntry.see (items l.all)) (map g.W.OwnEntry.see l.item-iterator) l.fn.out.items l.out.items l.count;
}
