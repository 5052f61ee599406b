use Rattle.std.proofs.Common.{◌≡◌, ◌++◌, take}
use Rattle.std.specs.List.{filter_map}
use Rattle.walrus_forms.specs.Values.{value_name}
use Rattle.walrus_forms.proofs.names.push_value_names.Given as goal

abbrev pub invariant-loop-value : goal.invariant-loop-value
invariant-loop-value l = l.refs.items ≡ l.fn.refs.items ++ filter_map value_name (take l.value-index l.values)
