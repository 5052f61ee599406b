use Rattle.std.proofs.Common.{◌≡◌, map, take, Some}
use Rattle.walrus_forms.specs.Records.{field_of as field_told}
use Rattle.walrus_known_sections.specs.wasm_sections.TypeNames.{field_of, told_all}
use Rattle.walrus_type_readers.proofs.records.field_records.Given as goal

abbrev pub invariant-loop-field : goal.invariant-loop-field
invariant-loop-field l = told_all field_of (take l.field-index l.fields) ≡ Some (map field_told l.records.items)
