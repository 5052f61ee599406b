use Rattle.std.proofs.Common.{◌∙◌, sym, ap}
use Rattle.walrus_forms.specs.Records.{field_of as field_told}
use Rattle.walrus_known_sections.specs.wasm_sections.TypeNames.{field_of}
use Rattle.walrus_type_readers.proofs.ToldLemmas.{told_more, told_not}
use Rattle.walrus_type_readers.proofs.records.field_records.Goals as goal

pub returns-in_default : goal.returns-in_default
returns-in_default c = sym (told_not field_of _ _ c.field-item.result c.loop-field-test.true (ap field_of (sym c.field-item.is) ∙ sym c.in_default.ensures))

pub loop-field-preserved : goal.loop-field-preserved
loop-field-preserved c = told_more field_of field_told _ _ c.field-item.result c.in-Some.record _ _ c.loop-field-test.true c.field-item.is c.in-Some.ensures c.loop-field.invariant c.in_ok-push.ensures.items
