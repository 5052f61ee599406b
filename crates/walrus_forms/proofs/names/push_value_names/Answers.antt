use Rattle.walrus_forms.proofs.ListLemmas.{filter_map-turn}
use Rattle.walrus_forms.specs.Values.{value_name}
use Rattle.walrus_forms.proofs.names.push_value_names.Goals as goal

pub loop-value-preserved : goal.loop-value-preserved
loop-value-preserved c =
    filter_map-turn value_name c.args.values.now c.loop-value.value-index c.value-item.result c.type_id.result c.args.refs.now.items _ _
    c.loop-value-test.true c.value-item.is c.type_id.ensures c.loop-value.invariant c.in_ok-push_name.ensures.added
