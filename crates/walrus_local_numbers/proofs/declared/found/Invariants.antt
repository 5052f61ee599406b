use Rattle.std.proofs.Common.{◌≡◌, ◌++◌, drop}
use Rattle.walrus_index_maps.specs.Views.{indices}
use Rattle.walrus_local_numbers.specs.Declared.{found_keys, has_lost, is_numbered}
use Rattle.walrus_local_numbers.proofs.declared.found.Given as goal

abbrev pub invariant-loop-id : goal.invariant-loop-id
invariant-loop-id l =
    let is_arg = is_numbered l.args (indices l.maps) l.function in
    record {
      found : l.keys.items ++ found_keys l.locals is_arg (drop l.id-index l.used) ≡ found_keys l.locals is_arg l.used;
      lost : has_lost l.locals is_arg (drop l.id-index l.used) ≡ has_lost l.locals is_arg l.used;
    }
