use Rattle.std.specs.Prelude.{◌≡◌}
use Rattle.walrus_index_maps.specs.Views.{indices}
use Rattle.walrus_module.specs.walrus_collections.LookUps.{items}
use Rattle.walrus_emit_numbers.specs.Numbers.{data_from}
use Rattle.walrus_emit_numbers.proofs.numbers.number_data.Given as goal

abbrev pub invariant-loop-data : goal.invariant-loop-data
invariant-loop-data l = record {
  can : goal.iterator-loop-data.can_next l.data-iterator;
  ends : goal.iterator-loop-data.is_finite l.data-iterator;
  rest : data_from l.next (indices l.maps) l.data-iterator ≡ data_from 0 (indices l.fn.maps) (items l.segments);
}
