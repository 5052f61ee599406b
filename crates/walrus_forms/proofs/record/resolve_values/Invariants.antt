use Rattle.std.proofs.Common.{◌≡◌, map, take, vec_capacity, vec_len, length}
use Rattle.walrus_forms.specs.Records.{value_of}
use Rattle.walrus_forms.specs.Renaming.{renamed_value, at}
use Rattle.walrus_forms.proofs.record.resolve_values.Given as goal

abbrev pub invariant-loop-value : goal.invariant-loop-value
invariant-loop-value l = (l.types.items ≡ map (renamed_value (at l.ids)) (map value_of (take l.value-index l.values))) × ((vec_len l.types ≡ l.value-index) × (vec_capacity l.types ≡ length l.values))
