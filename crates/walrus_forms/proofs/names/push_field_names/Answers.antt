use Rattle.walrus_forms.proofs.ListLemmas.{filter_map-turn}
use Rattle.walrus_forms.specs.Values.{field_name}
use Rattle.walrus_forms.proofs.names.push_field_names.Goals as goal

pub loop-field-preserved : goal.loop-field-preserved
loop-field-preserved c =
    filter_map-turn field_name c.args.fields.now c.loop-field.field-index c.field-item.result c.type_id.result c.args.refs.now.items _ _
    c.loop-field-test.true c.field-item.is c.type_id.ensures c.loop-field.invariant c.in_ok-push_name.ensures.added
