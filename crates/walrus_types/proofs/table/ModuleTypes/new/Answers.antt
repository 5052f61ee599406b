use Rattle.std.proofs.Common.{arith}
use Rattle.walrus_type_arenas.proofs.walrus_type_index.OrderedLemmas.{ordered-none}
use Rattle.walrus_type_arenas.proofs.TableLemmas.{grouped-nil}
use Rattle.walrus_types.proofs.table.ModuleTypes.new.Goals as goal

pub invariant_of-result : goal.invariant_of-result
invariant_of-result c = rw (c.new.ensures.empty, c.new-2.ensures.empty, c.new-3.ensures.items, c.new-4.ensures) (record { held = record { ordered = ordered-none; room = omega arith }; grouped = grouped-nil })
