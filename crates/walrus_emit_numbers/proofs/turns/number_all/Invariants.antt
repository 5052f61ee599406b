use Rattle.std.specs.Prelude.{◌≡◌, fold}
use Rattle.walrus_index_maps.specs.Views.{indices}
use Rattle.walrus_module.specs.walrus_collections.LookUps.{items}
use Rattle.walrus_emit_numbers.specs.Numbers.{AreCounted}
use Rattle.walrus_emit_numbers.proofs.turns.number_all.Given as goal

abbrev pub invariant-loop-item : goal.invariant-loop-item
invariant-loop-item g l = record {
  can : (goal.iterator-loop-item g).can_next l.item-iterator;
  ends : (goal.iterator-loop-item g).is_finite l.item-iterator;
  counted : AreCounted (indices l.maps);
  rest : fold g.T.Numbered.with (indices l.maps) l.item-iterator ≡ fold g.T.Numbered.with (indices l.fn.maps) (items l.all);
}
