use Rattle.std.proofs.Common.{◌≡◌, map, take, vec_capacity, vec_len, length}
use Rattle.walrus_forms.specs.Records.{value_of as value_told}
use Rattle.walrus_section_values.specs.Plain.{plain_of}
use Rattle.walrus_type_readers.proofs.records.plain_records.Given as goal

abbrev pub invariant-loop-ty : goal.invariant-loop-ty
invariant-loop-ty l = (map value_told l.records.items ≡ map plain_of (take l.ty-index l.types)) × ((vec_len l.records ≡ l.ty-index) × (vec_capacity l.records ≡ length l.types))
