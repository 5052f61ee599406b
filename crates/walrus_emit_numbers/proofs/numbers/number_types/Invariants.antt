use Rattle.std.specs.Prelude.{◌≡◌, fold, take}
use Rattle.walrus_index_maps.specs.Views.{indices}
use Rattle.walrus_emit_numbers.specs.Numbers.{AreCounted, type_in_turn}
use Rattle.walrus_emit_numbers.proofs.numbers.number_types.Given as goal

abbrev pub invariant-loop-id : goal.invariant-loop-id
invariant-loop-id l = record {
  counted : AreCounted (indices l.maps);
  given : indices l.maps ≡ fold type_in_turn (indices l.fn.maps) (take l.id-index l.types);
}
