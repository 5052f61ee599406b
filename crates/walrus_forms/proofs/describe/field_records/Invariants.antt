use Rattle.std.proofs.Common.{◌≡◌, map, take}
use Rattle.walrus_forms.specs.Records.{field_of}
use Rattle.walrus_forms.specs.Renaming.{renamed_field}
use Rattle.walrus_forms.specs.Renaming.{index_at}
use Rattle.walrus_forms.proofs.describe.field_records.Given as goal

abbrev pub invariant-loop-field : goal.invariant-loop-field
invariant-loop-field l = map field_of l.records.items ≡ map (renamed_field (index_at l.indices)) (take l.field-index l.fields)
