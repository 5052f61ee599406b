use Rattle.std.proofs.Common.{length}
use Rattle.walrus_forms.proofs.ListLemmas.{All-of_map}
use Rattle.walrus_forms.specs.Records.{field_of}
use Rattle.walrus_forms.specs.Renaming.{FieldBelow}
use Rattle.walrus_forms.proofs.record.resolve_fields.Goals as goal

pub push_field-requires-clause-names : goal.push_field-requires-clause-names
push_field-requires-clause-names c = All-of_map (FieldBelow (length c.args.ids.now)) field_of c.args.fields.now c.loop-field.field-index _ c.loop-field-test.true c.requires
