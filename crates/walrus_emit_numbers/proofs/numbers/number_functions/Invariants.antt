use Rattle.std.specs.Prelude.{◌≡◌, fold, take}
use Rattle.walrus_index_maps.specs.Views.{indices}
use Rattle.walrus_emit_numbers.specs.Numbers.{AreCounted, function_in_turn, functions_at}
use Rattle.walrus_emit_numbers.proofs.numbers.number_functions.Given as goal

abbrev pub invariant-loop-at : goal.invariant-loop-at
invariant-loop-at l = record {
  counted : AreCounted (indices l.maps);
  given : indices l.maps ≡ fold function_in_turn (indices l.fn.maps) (functions_at l.facts (take l.at-index l.order));
}
