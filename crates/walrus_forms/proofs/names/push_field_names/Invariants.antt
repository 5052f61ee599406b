use Rattle.std.proofs.Common.{◌≡◌, ◌++◌, take}
use Rattle.std.specs.List.{filter_map}
use Rattle.walrus_forms.specs.Values.{field_name}
use Rattle.walrus_forms.proofs.names.push_field_names.Given as goal

abbrev pub invariant-loop-field : goal.invariant-loop-field
invariant-loop-field l = l.refs.items ≡ l.fn.refs.items ++ filter_map field_name (take l.field-index l.fields)
