use Rattle.std.proofs.Common.{◌≡◌, map, take, vec_capacity, vec_len, length}
use Rattle.walrus_forms.specs.Records.{plain_of}
use Rattle.walrus_forms.proofs.record.resolve_plain.Given as goal

abbrev pub invariant-loop-value : goal.invariant-loop-value
invariant-loop-value l = (l.types.items ≡ map plain_of (take l.value-index l.values)) × ((vec_len l.types ≡ l.value-index) × (vec_capacity l.types ≡ length l.values))
