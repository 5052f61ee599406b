use Rattle.std.proofs.Common.{◌≡◌, drop}
use Rattle.walrus_index_maps.specs.Views.{indices}
use Rattle.walrus_local_numbers.specs.Declared.{IsOfFunction, with_numbers}
use Rattle.walrus_local_numbers.proofs.numbers.number.Given as goal

abbrev pub invariant-loop-id : goal.invariant-loop-id
invariant-loop-id l = record {
  goes : with_numbers l.function l.next (drop l.id-index l.ids) (indices l.maps).locals ≡ with_numbers l.function l.first l.ids (indices l.fn.maps).locals;
  others : IsOfFunction l.function (indices l.fn.maps) (indices l.maps);
}
