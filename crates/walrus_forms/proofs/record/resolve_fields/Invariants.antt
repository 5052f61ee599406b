use Rattle.std.proofs.Common.{◌≡◌, map, take, vec_capacity, vec_len, length}
use Rattle.walrus_forms.specs.Records.{field_of}
use Rattle.walrus_forms.specs.Renaming.{renamed_field, at}
use Rattle.walrus_forms.proofs.record.resolve_fields.Given as goal

abbrev pub invariant-loop-field : goal.invariant-loop-field
invariant-loop-field l = (l.types.items ≡ map (renamed_field (at l.ids)) (map field_of (take l.field-index l.fields))) × ((vec_len l.types ≡ l.field-index) × (vec_capacity l.types ≡ length l.fields))
