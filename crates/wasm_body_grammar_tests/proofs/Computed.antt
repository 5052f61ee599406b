-- The examples, computed.
use Rattle.std.specs.Prelude.{refl}
use Rattle.wasm_body_grammar_tests.specs.Shapes.{AreRead, AreReadAs, AreReadShared, AreRefused, shared_shapes, plain_shapes, control_shapes, cut, wrong, wrong_control, wrong_locals, ShapesHold}

plain_shapes_hold : AreRead plain_shapes
unfolding Rattle.wasm_reader.specs.Text.size_at Rattle.wasm_operators.specs.Operators.operator_at Rattle.wasm_operators.specs.Operators.code_at Rattle.wasm_operators.specs.Operators.kind_of Rattle.wasm_operators.specs.Table.structure_rows Rattle.wasm_operators.specs.Table.call_rows Rattle.wasm_operators.specs.Table.plain_rows Rattle.wasm_operators.specs.Table.fb_rows Rattle.wasm_operators.specs.Table.fc_rows Rattle.wasm_operators.specs.Table.fd_rows Rattle.wasm_operators.specs.Table.fe_rows Rattle.wasm_operators.specs.Readings.below_at Rattle.wasm_operators.specs.Readings.zero_at Rattle.wasm_operators.specs.Readings.empty_at Rattle.wasm_operators.specs.Readings.type_index_at Rattle.wasm_operators.specs.Readings.block_at Rattle.wasm_operators.specs.Readings.memory_at Rattle.wasm_operators.specs.Readings.access_at Rattle.wasm_operators.specs.Readings.clause_at Rattle.wasm_operators.specs.Readings.item_at Rattle.wasm_operators.specs.Readings.items_at Rattle.wasm_reader.specs.Items.items_at Rattle.wasm_reader.specs.Items.vec_at Rattle.wasm_reader.specs.Numbers.number_at Rattle.wasm_reader.specs.Reading.little_at Rattle.wasm_ref_types.specs.ReadTypes.abstract_at Rattle.wasm_ref_types.specs.ReadTypes.shared_at Rattle.wasm_ref_types.specs.ReadTypes.index_at Rattle.wasm_ref_types.specs.ReadTypes.heap_at Rattle.wasm_ref_types.specs.ReadTypes.long_at Rattle.wasm_ref_types.specs.ReadTypes.reference_at Rattle.wasm_ref_types.specs.ReadTypes.plain_at Rattle.wasm_ref_types.specs.ReadTypes.value_at
plain_shapes_hold = refl

control_shapes_hold : AreReadAs control_shapes
unfolding Rattle.wasm_reader.specs.Text.size_at Rattle.wasm_operators.specs.Operators.operator_at Rattle.wasm_operators.specs.Operators.code_at Rattle.wasm_operators.specs.Operators.kind_of Rattle.wasm_operators.specs.Table.structure_rows Rattle.wasm_operators.specs.Table.call_rows Rattle.wasm_operators.specs.Table.plain_rows Rattle.wasm_operators.specs.Table.fb_rows Rattle.wasm_operators.specs.Table.fc_rows Rattle.wasm_operators.specs.Table.fd_rows Rattle.wasm_operators.specs.Table.fe_rows Rattle.wasm_operators.specs.Readings.below_at Rattle.wasm_operators.specs.Readings.zero_at Rattle.wasm_operators.specs.Readings.empty_at Rattle.wasm_operators.specs.Readings.type_index_at Rattle.wasm_operators.specs.Readings.block_at Rattle.wasm_operators.specs.Readings.memory_at Rattle.wasm_operators.specs.Readings.access_at Rattle.wasm_operators.specs.Readings.clause_at Rattle.wasm_operators.specs.Readings.item_at Rattle.wasm_operators.specs.Readings.items_at Rattle.wasm_reader.specs.Items.items_at Rattle.wasm_reader.specs.Items.vec_at Rattle.wasm_reader.specs.Numbers.number_at Rattle.wasm_reader.specs.Reading.little_at Rattle.wasm_ref_types.specs.ReadTypes.abstract_at Rattle.wasm_ref_types.specs.ReadTypes.shared_at Rattle.wasm_ref_types.specs.ReadTypes.index_at Rattle.wasm_ref_types.specs.ReadTypes.heap_at Rattle.wasm_ref_types.specs.ReadTypes.long_at Rattle.wasm_ref_types.specs.ReadTypes.reference_at Rattle.wasm_ref_types.specs.ReadTypes.plain_at Rattle.wasm_ref_types.specs.ReadTypes.value_at
control_shapes_hold = refl

cut_hold : AreRefused cut
unfolding Rattle.wasm_reader.specs.Text.size_at Rattle.wasm_operators.specs.Operators.operator_at Rattle.wasm_operators.specs.Operators.code_at Rattle.wasm_operators.specs.Operators.kind_of Rattle.wasm_operators.specs.Table.structure_rows Rattle.wasm_operators.specs.Table.call_rows Rattle.wasm_operators.specs.Table.plain_rows Rattle.wasm_operators.specs.Table.fb_rows Rattle.wasm_operators.specs.Table.fc_rows Rattle.wasm_operators.specs.Table.fd_rows Rattle.wasm_operators.specs.Table.fe_rows Rattle.wasm_operators.specs.Readings.below_at Rattle.wasm_operators.specs.Readings.zero_at Rattle.wasm_operators.specs.Readings.empty_at Rattle.wasm_operators.specs.Readings.type_index_at Rattle.wasm_operators.specs.Readings.block_at Rattle.wasm_operators.specs.Readings.memory_at Rattle.wasm_operators.specs.Readings.access_at Rattle.wasm_operators.specs.Readings.clause_at Rattle.wasm_operators.specs.Readings.item_at Rattle.wasm_operators.specs.Readings.items_at Rattle.wasm_reader.specs.Items.items_at Rattle.wasm_reader.specs.Items.vec_at Rattle.wasm_reader.specs.Numbers.number_at Rattle.wasm_reader.specs.Reading.little_at Rattle.wasm_ref_types.specs.ReadTypes.abstract_at Rattle.wasm_ref_types.specs.ReadTypes.shared_at Rattle.wasm_ref_types.specs.ReadTypes.index_at Rattle.wasm_ref_types.specs.ReadTypes.heap_at Rattle.wasm_ref_types.specs.ReadTypes.long_at Rattle.wasm_ref_types.specs.ReadTypes.reference_at Rattle.wasm_ref_types.specs.ReadTypes.plain_at Rattle.wasm_ref_types.specs.ReadTypes.value_at
cut_hold = refl

wrong_hold : AreRefused wrong
unfolding Rattle.wasm_reader.specs.Text.size_at Rattle.wasm_operators.specs.Operators.operator_at Rattle.wasm_operators.specs.Operators.code_at Rattle.wasm_operators.specs.Operators.kind_of Rattle.wasm_operators.specs.Table.structure_rows Rattle.wasm_operators.specs.Table.call_rows Rattle.wasm_operators.specs.Table.plain_rows Rattle.wasm_operators.specs.Table.fb_rows Rattle.wasm_operators.specs.Table.fc_rows Rattle.wasm_operators.specs.Table.fd_rows Rattle.wasm_operators.specs.Table.fe_rows Rattle.wasm_operators.specs.Readings.below_at Rattle.wasm_operators.specs.Readings.zero_at Rattle.wasm_operators.specs.Readings.empty_at Rattle.wasm_operators.specs.Readings.type_index_at Rattle.wasm_operators.specs.Readings.block_at Rattle.wasm_operators.specs.Readings.memory_at Rattle.wasm_operators.specs.Readings.access_at Rattle.wasm_operators.specs.Readings.clause_at Rattle.wasm_operators.specs.Readings.item_at Rattle.wasm_operators.specs.Readings.items_at Rattle.wasm_reader.specs.Items.items_at Rattle.wasm_reader.specs.Items.vec_at Rattle.wasm_reader.specs.Numbers.number_at Rattle.wasm_reader.specs.Reading.little_at Rattle.wasm_ref_types.specs.ReadTypes.abstract_at Rattle.wasm_ref_types.specs.ReadTypes.shared_at Rattle.wasm_ref_types.specs.ReadTypes.index_at Rattle.wasm_ref_types.specs.ReadTypes.heap_at Rattle.wasm_ref_types.specs.ReadTypes.long_at Rattle.wasm_ref_types.specs.ReadTypes.reference_at Rattle.wasm_ref_types.specs.ReadTypes.plain_at Rattle.wasm_ref_types.specs.ReadTypes.value_at
wrong_hold = refl

wrong_control_hold : AreRefused wrong_control
unfolding Rattle.wasm_reader.specs.Text.size_at Rattle.wasm_operators.specs.Operators.operator_at Rattle.wasm_operators.specs.Operators.code_at Rattle.wasm_operators.specs.Operators.kind_of Rattle.wasm_operators.specs.Table.structure_rows Rattle.wasm_operators.specs.Table.call_rows Rattle.wasm_operators.specs.Table.plain_rows Rattle.wasm_operators.specs.Table.fb_rows Rattle.wasm_operators.specs.Table.fc_rows Rattle.wasm_operators.specs.Table.fd_rows Rattle.wasm_operators.specs.Table.fe_rows Rattle.wasm_operators.specs.Readings.below_at Rattle.wasm_operators.specs.Readings.zero_at Rattle.wasm_operators.specs.Readings.empty_at Rattle.wasm_operators.specs.Readings.type_index_at Rattle.wasm_operators.specs.Readings.block_at Rattle.wasm_operators.specs.Readings.memory_at Rattle.wasm_operators.specs.Readings.access_at Rattle.wasm_operators.specs.Readings.clause_at Rattle.wasm_operators.specs.Readings.item_at Rattle.wasm_operators.specs.Readings.items_at Rattle.wasm_reader.specs.Items.items_at Rattle.wasm_reader.specs.Items.vec_at Rattle.wasm_reader.specs.Numbers.number_at Rattle.wasm_reader.specs.Reading.little_at Rattle.wasm_ref_types.specs.ReadTypes.abstract_at Rattle.wasm_ref_types.specs.ReadTypes.shared_at Rattle.wasm_ref_types.specs.ReadTypes.index_at Rattle.wasm_ref_types.specs.ReadTypes.heap_at Rattle.wasm_ref_types.specs.ReadTypes.long_at Rattle.wasm_ref_types.specs.ReadTypes.reference_at Rattle.wasm_ref_types.specs.ReadTypes.plain_at Rattle.wasm_ref_types.specs.ReadTypes.value_at
wrong_control_hold = refl

wrong_locals_hold : AreRefused wrong_locals
unfolding Rattle.wasm_reader.specs.Text.size_at Rattle.wasm_operators.specs.Operators.operator_at Rattle.wasm_operators.specs.Operators.code_at Rattle.wasm_operators.specs.Operators.kind_of Rattle.wasm_operators.specs.Table.structure_rows Rattle.wasm_operators.specs.Table.call_rows Rattle.wasm_operators.specs.Table.plain_rows Rattle.wasm_operators.specs.Table.fb_rows Rattle.wasm_operators.specs.Table.fc_rows Rattle.wasm_operators.specs.Table.fd_rows Rattle.wasm_operators.specs.Table.fe_rows Rattle.wasm_operators.specs.Readings.below_at Rattle.wasm_operators.specs.Readings.zero_at Rattle.wasm_operators.specs.Readings.empty_at Rattle.wasm_operators.specs.Readings.type_index_at Rattle.wasm_operators.specs.Readings.block_at Rattle.wasm_operators.specs.Readings.memory_at Rattle.wasm_operators.specs.Readings.access_at Rattle.wasm_operators.specs.Readings.clause_at Rattle.wasm_operators.specs.Readings.item_at Rattle.wasm_operators.specs.Readings.items_at Rattle.wasm_reader.specs.Items.items_at Rattle.wasm_reader.specs.Items.vec_at Rattle.wasm_reader.specs.Numbers.number_at Rattle.wasm_reader.specs.Reading.little_at Rattle.wasm_ref_types.specs.ReadTypes.abstract_at Rattle.wasm_ref_types.specs.ReadTypes.shared_at Rattle.wasm_ref_types.specs.ReadTypes.index_at Rattle.wasm_ref_types.specs.ReadTypes.heap_at Rattle.wasm_ref_types.specs.ReadTypes.long_at Rattle.wasm_ref_types.specs.ReadTypes.reference_at Rattle.wasm_ref_types.specs.ReadTypes.plain_at Rattle.wasm_ref_types.specs.ReadTypes.value_at
wrong_locals_hold = refl

shared_shapes_hold : AreReadShared shared_shapes
unfolding Rattle.wasm_reader.specs.Text.size_at Rattle.wasm_operators.specs.Operators.operator_at Rattle.wasm_operators.specs.Operators.code_at Rattle.wasm_operators.specs.Operators.kind_of Rattle.wasm_operators.specs.Table.structure_rows Rattle.wasm_operators.specs.Table.call_rows Rattle.wasm_operators.specs.Table.plain_rows Rattle.wasm_operators.specs.Table.fb_rows Rattle.wasm_operators.specs.Table.fc_rows Rattle.wasm_operators.specs.Table.fd_rows Rattle.wasm_operators.specs.Table.fe_rows Rattle.wasm_operators.specs.Readings.below_at Rattle.wasm_operators.specs.Readings.zero_at Rattle.wasm_operators.specs.Readings.empty_at Rattle.wasm_operators.specs.Readings.type_index_at Rattle.wasm_operators.specs.Readings.block_at Rattle.wasm_operators.specs.Readings.memory_at Rattle.wasm_operators.specs.Readings.access_at Rattle.wasm_operators.specs.Readings.clause_at Rattle.wasm_operators.specs.Readings.item_at Rattle.wasm_operators.specs.Readings.items_at Rattle.wasm_reader.specs.Items.items_at Rattle.wasm_reader.specs.Items.vec_at Rattle.wasm_reader.specs.Numbers.number_at Rattle.wasm_reader.specs.Reading.little_at Rattle.wasm_ref_types.specs.ReadTypes.abstract_at Rattle.wasm_ref_types.specs.ReadTypes.shared_at Rattle.wasm_ref_types.specs.ReadTypes.index_at Rattle.wasm_ref_types.specs.ReadTypes.heap_at Rattle.wasm_ref_types.specs.ReadTypes.long_at Rattle.wasm_ref_types.specs.ReadTypes.reference_at Rattle.wasm_ref_types.specs.ReadTypes.plain_at Rattle.wasm_ref_types.specs.ReadTypes.value_at
shared_shapes_hold = refl

pub shapes_hold : ShapesHold
shapes_hold = record {
  plain = plain_shapes_hold;
  control = control_shapes_hold;
  ended = cut_hold;
  refused = wrong_hold;
  control_refused = wrong_control_hold;
  locals_refused = wrong_locals_hold;
  shared_read = shared_shapes_hold;
}
