-- The bodies of modules, computed.
use Rattle.std.specs.Prelude.{refl}
use Rattle.wasm_body_grammar_tests.specs.Examples.{one, two, with_segment, with_tag, with_open, counting, without_legacy}
use Rattle.wasm_body_grammar_tests.specs.Rows.{PicksHold, RowsRead, RowsStop, RowsHold, one_read, two_read, segment_read, tag_read, one_stop, segment_stop, legacy_stop, open_stop}

one_is : RowsRead one one_read
unfolding Rattle.wasm_reader.specs.Text.size_at Rattle.wasm_operators.specs.Operators.operator_at Rattle.wasm_operators.specs.Operators.code_at Rattle.wasm_operators.specs.Operators.kind_of Rattle.wasm_operators.specs.Table.structure_rows Rattle.wasm_operators.specs.Table.call_rows Rattle.wasm_operators.specs.Table.plain_rows Rattle.wasm_operators.specs.Table.fb_rows Rattle.wasm_operators.specs.Table.fc_rows Rattle.wasm_operators.specs.Table.fd_rows Rattle.wasm_operators.specs.Table.fe_rows Rattle.wasm_operators.specs.Readings.below_at Rattle.wasm_operators.specs.Readings.zero_at Rattle.wasm_operators.specs.Readings.empty_at Rattle.wasm_operators.specs.Readings.type_index_at Rattle.wasm_operators.specs.Readings.block_at Rattle.wasm_operators.specs.Readings.memory_at Rattle.wasm_operators.specs.Readings.access_at Rattle.wasm_operators.specs.Readings.clause_at Rattle.wasm_operators.specs.Readings.item_at Rattle.wasm_operators.specs.Readings.items_at Rattle.wasm_reader.specs.Items.items_at Rattle.wasm_reader.specs.Items.vec_at Rattle.wasm_reader.specs.Numbers.number_at Rattle.wasm_reader.specs.Reading.little_at Rattle.wasm_ref_types.specs.ReadTypes.abstract_at Rattle.wasm_ref_types.specs.ReadTypes.shared_at Rattle.wasm_ref_types.specs.ReadTypes.index_at Rattle.wasm_ref_types.specs.ReadTypes.heap_at Rattle.wasm_ref_types.specs.ReadTypes.long_at Rattle.wasm_ref_types.specs.ReadTypes.reference_at Rattle.wasm_ref_types.specs.ReadTypes.plain_at Rattle.wasm_ref_types.specs.ReadTypes.value_at
one_is = refl

two_is : RowsRead two two_read
unfolding Rattle.wasm_reader.specs.Text.size_at Rattle.wasm_operators.specs.Operators.operator_at Rattle.wasm_operators.specs.Operators.code_at Rattle.wasm_operators.specs.Operators.kind_of Rattle.wasm_operators.specs.Table.structure_rows Rattle.wasm_operators.specs.Table.call_rows Rattle.wasm_operators.specs.Table.plain_rows Rattle.wasm_operators.specs.Table.fb_rows Rattle.wasm_operators.specs.Table.fc_rows Rattle.wasm_operators.specs.Table.fd_rows Rattle.wasm_operators.specs.Table.fe_rows Rattle.wasm_operators.specs.Readings.below_at Rattle.wasm_operators.specs.Readings.zero_at Rattle.wasm_operators.specs.Readings.empty_at Rattle.wasm_operators.specs.Readings.type_index_at Rattle.wasm_operators.specs.Readings.block_at Rattle.wasm_operators.specs.Readings.memory_at Rattle.wasm_operators.specs.Readings.access_at Rattle.wasm_operators.specs.Readings.clause_at Rattle.wasm_operators.specs.Readings.item_at Rattle.wasm_operators.specs.Readings.items_at Rattle.wasm_reader.specs.Items.items_at Rattle.wasm_reader.specs.Items.vec_at Rattle.wasm_reader.specs.Numbers.number_at Rattle.wasm_reader.specs.Reading.little_at Rattle.wasm_ref_types.specs.ReadTypes.abstract_at Rattle.wasm_ref_types.specs.ReadTypes.shared_at Rattle.wasm_ref_types.specs.ReadTypes.index_at Rattle.wasm_ref_types.specs.ReadTypes.heap_at Rattle.wasm_ref_types.specs.ReadTypes.long_at Rattle.wasm_ref_types.specs.ReadTypes.reference_at Rattle.wasm_ref_types.specs.ReadTypes.plain_at Rattle.wasm_ref_types.specs.ReadTypes.value_at
two_is = refl

segment_is : RowsRead (counting with_segment) segment_read
unfolding Rattle.wasm_reader.specs.Text.size_at Rattle.wasm_operators.specs.Operators.operator_at Rattle.wasm_operators.specs.Operators.code_at Rattle.wasm_operators.specs.Operators.kind_of Rattle.wasm_operators.specs.Table.structure_rows Rattle.wasm_operators.specs.Table.call_rows Rattle.wasm_operators.specs.Table.plain_rows Rattle.wasm_operators.specs.Table.fb_rows Rattle.wasm_operators.specs.Table.fc_rows Rattle.wasm_operators.specs.Table.fd_rows Rattle.wasm_operators.specs.Table.fe_rows Rattle.wasm_operators.specs.Readings.below_at Rattle.wasm_operators.specs.Readings.zero_at Rattle.wasm_operators.specs.Readings.empty_at Rattle.wasm_operators.specs.Readings.type_index_at Rattle.wasm_operators.specs.Readings.block_at Rattle.wasm_operators.specs.Readings.memory_at Rattle.wasm_operators.specs.Readings.access_at Rattle.wasm_operators.specs.Readings.clause_at Rattle.wasm_operators.specs.Readings.item_at Rattle.wasm_operators.specs.Readings.items_at Rattle.wasm_reader.specs.Items.items_at Rattle.wasm_reader.specs.Items.vec_at Rattle.wasm_reader.specs.Numbers.number_at Rattle.wasm_reader.specs.Reading.little_at Rattle.wasm_ref_types.specs.ReadTypes.abstract_at Rattle.wasm_ref_types.specs.ReadTypes.shared_at Rattle.wasm_ref_types.specs.ReadTypes.index_at Rattle.wasm_ref_types.specs.ReadTypes.heap_at Rattle.wasm_ref_types.specs.ReadTypes.long_at Rattle.wasm_ref_types.specs.ReadTypes.reference_at Rattle.wasm_ref_types.specs.ReadTypes.plain_at Rattle.wasm_ref_types.specs.ReadTypes.value_at
segment_is = refl

tag_is : RowsRead with_tag tag_read
unfolding Rattle.wasm_reader.specs.Text.size_at Rattle.wasm_operators.specs.Operators.operator_at Rattle.wasm_operators.specs.Operators.code_at Rattle.wasm_operators.specs.Operators.kind_of Rattle.wasm_operators.specs.Table.structure_rows Rattle.wasm_operators.specs.Table.call_rows Rattle.wasm_operators.specs.Table.plain_rows Rattle.wasm_operators.specs.Table.fb_rows Rattle.wasm_operators.specs.Table.fc_rows Rattle.wasm_operators.specs.Table.fd_rows Rattle.wasm_operators.specs.Table.fe_rows Rattle.wasm_operators.specs.Readings.below_at Rattle.wasm_operators.specs.Readings.zero_at Rattle.wasm_operators.specs.Readings.empty_at Rattle.wasm_operators.specs.Readings.type_index_at Rattle.wasm_operators.specs.Readings.block_at Rattle.wasm_operators.specs.Readings.memory_at Rattle.wasm_operators.specs.Readings.access_at Rattle.wasm_operators.specs.Readings.clause_at Rattle.wasm_operators.specs.Readings.item_at Rattle.wasm_operators.specs.Readings.items_at Rattle.wasm_reader.specs.Items.items_at Rattle.wasm_reader.specs.Items.vec_at Rattle.wasm_reader.specs.Numbers.number_at Rattle.wasm_reader.specs.Reading.little_at Rattle.wasm_ref_types.specs.ReadTypes.abstract_at Rattle.wasm_ref_types.specs.ReadTypes.shared_at Rattle.wasm_ref_types.specs.ReadTypes.index_at Rattle.wasm_ref_types.specs.ReadTypes.heap_at Rattle.wasm_ref_types.specs.ReadTypes.long_at Rattle.wasm_ref_types.specs.ReadTypes.reference_at Rattle.wasm_ref_types.specs.ReadTypes.plain_at Rattle.wasm_ref_types.specs.ReadTypes.value_at
tag_is = refl

one_refused_is : RowsStop one one_stop
unfolding Rattle.wasm_reader.specs.Text.size_at Rattle.wasm_operators.specs.Operators.operator_at Rattle.wasm_operators.specs.Operators.code_at Rattle.wasm_operators.specs.Operators.kind_of Rattle.wasm_operators.specs.Table.structure_rows Rattle.wasm_operators.specs.Table.call_rows Rattle.wasm_operators.specs.Table.plain_rows Rattle.wasm_operators.specs.Table.fb_rows Rattle.wasm_operators.specs.Table.fc_rows Rattle.wasm_operators.specs.Table.fd_rows Rattle.wasm_operators.specs.Table.fe_rows Rattle.wasm_operators.specs.Readings.below_at Rattle.wasm_operators.specs.Readings.zero_at Rattle.wasm_operators.specs.Readings.empty_at Rattle.wasm_operators.specs.Readings.type_index_at Rattle.wasm_operators.specs.Readings.block_at Rattle.wasm_operators.specs.Readings.memory_at Rattle.wasm_operators.specs.Readings.access_at Rattle.wasm_operators.specs.Readings.clause_at Rattle.wasm_operators.specs.Readings.item_at Rattle.wasm_operators.specs.Readings.items_at Rattle.wasm_reader.specs.Items.items_at Rattle.wasm_reader.specs.Items.vec_at Rattle.wasm_reader.specs.Numbers.number_at Rattle.wasm_reader.specs.Reading.little_at Rattle.wasm_ref_types.specs.ReadTypes.abstract_at Rattle.wasm_ref_types.specs.ReadTypes.shared_at Rattle.wasm_ref_types.specs.ReadTypes.index_at Rattle.wasm_ref_types.specs.ReadTypes.heap_at Rattle.wasm_ref_types.specs.ReadTypes.long_at Rattle.wasm_ref_types.specs.ReadTypes.reference_at Rattle.wasm_ref_types.specs.ReadTypes.plain_at Rattle.wasm_ref_types.specs.ReadTypes.value_at
one_refused_is = refl

segment_refused_is : RowsStop with_segment segment_stop
unfolding Rattle.wasm_reader.specs.Text.size_at Rattle.wasm_operators.specs.Operators.operator_at Rattle.wasm_operators.specs.Operators.code_at Rattle.wasm_operators.specs.Operators.kind_of Rattle.wasm_operators.specs.Table.structure_rows Rattle.wasm_operators.specs.Table.call_rows Rattle.wasm_operators.specs.Table.plain_rows Rattle.wasm_operators.specs.Table.fb_rows Rattle.wasm_operators.specs.Table.fc_rows Rattle.wasm_operators.specs.Table.fd_rows Rattle.wasm_operators.specs.Table.fe_rows Rattle.wasm_operators.specs.Readings.below_at Rattle.wasm_operators.specs.Readings.zero_at Rattle.wasm_operators.specs.Readings.empty_at Rattle.wasm_operators.specs.Readings.type_index_at Rattle.wasm_operators.specs.Readings.block_at Rattle.wasm_operators.specs.Readings.memory_at Rattle.wasm_operators.specs.Readings.access_at Rattle.wasm_operators.specs.Readings.clause_at Rattle.wasm_operators.specs.Readings.item_at Rattle.wasm_operators.specs.Readings.items_at Rattle.wasm_reader.specs.Items.items_at Rattle.wasm_reader.specs.Items.vec_at Rattle.wasm_reader.specs.Numbers.number_at Rattle.wasm_reader.specs.Reading.little_at Rattle.wasm_ref_types.specs.ReadTypes.abstract_at Rattle.wasm_ref_types.specs.ReadTypes.shared_at Rattle.wasm_ref_types.specs.ReadTypes.index_at Rattle.wasm_ref_types.specs.ReadTypes.heap_at Rattle.wasm_ref_types.specs.ReadTypes.long_at Rattle.wasm_ref_types.specs.ReadTypes.reference_at Rattle.wasm_ref_types.specs.ReadTypes.plain_at Rattle.wasm_ref_types.specs.ReadTypes.value_at
segment_refused_is = refl

legacy_refused_is : RowsStop (without_legacy with_tag) legacy_stop
unfolding Rattle.wasm_reader.specs.Text.size_at Rattle.wasm_operators.specs.Operators.operator_at Rattle.wasm_operators.specs.Operators.code_at Rattle.wasm_operators.specs.Operators.kind_of Rattle.wasm_operators.specs.Table.structure_rows Rattle.wasm_operators.specs.Table.call_rows Rattle.wasm_operators.specs.Table.plain_rows Rattle.wasm_operators.specs.Table.fb_rows Rattle.wasm_operators.specs.Table.fc_rows Rattle.wasm_operators.specs.Table.fd_rows Rattle.wasm_operators.specs.Table.fe_rows Rattle.wasm_operators.specs.Readings.below_at Rattle.wasm_operators.specs.Readings.zero_at Rattle.wasm_operators.specs.Readings.empty_at Rattle.wasm_operators.specs.Readings.type_index_at Rattle.wasm_operators.specs.Readings.block_at Rattle.wasm_operators.specs.Readings.memory_at Rattle.wasm_operators.specs.Readings.access_at Rattle.wasm_operators.specs.Readings.clause_at Rattle.wasm_operators.specs.Readings.item_at Rattle.wasm_operators.specs.Readings.items_at Rattle.wasm_reader.specs.Items.items_at Rattle.wasm_reader.specs.Items.vec_at Rattle.wasm_reader.specs.Numbers.number_at Rattle.wasm_reader.specs.Reading.little_at Rattle.wasm_ref_types.specs.ReadTypes.abstract_at Rattle.wasm_ref_types.specs.ReadTypes.shared_at Rattle.wasm_ref_types.specs.ReadTypes.index_at Rattle.wasm_ref_types.specs.ReadTypes.heap_at Rattle.wasm_ref_types.specs.ReadTypes.long_at Rattle.wasm_ref_types.specs.ReadTypes.reference_at Rattle.wasm_ref_types.specs.ReadTypes.plain_at Rattle.wasm_ref_types.specs.ReadTypes.value_at
legacy_refused_is = refl

open_refused_is : RowsStop with_open open_stop
unfolding Rattle.wasm_reader.specs.Text.size_at Rattle.wasm_operators.specs.Operators.operator_at Rattle.wasm_operators.specs.Operators.code_at Rattle.wasm_operators.specs.Operators.kind_of Rattle.wasm_operators.specs.Table.structure_rows Rattle.wasm_operators.specs.Table.call_rows Rattle.wasm_operators.specs.Table.plain_rows Rattle.wasm_operators.specs.Table.fb_rows Rattle.wasm_operators.specs.Table.fc_rows Rattle.wasm_operators.specs.Table.fd_rows Rattle.wasm_operators.specs.Table.fe_rows Rattle.wasm_operators.specs.Readings.below_at Rattle.wasm_operators.specs.Readings.zero_at Rattle.wasm_operators.specs.Readings.empty_at Rattle.wasm_operators.specs.Readings.type_index_at Rattle.wasm_operators.specs.Readings.block_at Rattle.wasm_operators.specs.Readings.memory_at Rattle.wasm_operators.specs.Readings.access_at Rattle.wasm_operators.specs.Readings.clause_at Rattle.wasm_operators.specs.Readings.item_at Rattle.wasm_operators.specs.Readings.items_at Rattle.wasm_reader.specs.Items.items_at Rattle.wasm_reader.specs.Items.vec_at Rattle.wasm_reader.specs.Numbers.number_at Rattle.wasm_reader.specs.Reading.little_at Rattle.wasm_ref_types.specs.ReadTypes.abstract_at Rattle.wasm_ref_types.specs.ReadTypes.shared_at Rattle.wasm_ref_types.specs.ReadTypes.index_at Rattle.wasm_ref_types.specs.ReadTypes.heap_at Rattle.wasm_ref_types.specs.ReadTypes.long_at Rattle.wasm_ref_types.specs.ReadTypes.reference_at Rattle.wasm_ref_types.specs.ReadTypes.plain_at Rattle.wasm_ref_types.specs.ReadTypes.value_at
open_refused_is = refl

pub rows_hold : RowsHold
rows_hold = record {
  of_one = one_is;
  of_two = two_is;
  of_segment = segment_is;
  of_tag = tag_is;
  stops_one = one_refused_is;
  stops_segment = segment_refused_is;
  stops_legacy = legacy_refused_is;
  stops_open = open_refused_is;
}

pub picks_hold : PicksHold
picks_hold = record { none = refl; single = refl; latest = refl; missing = refl; other = refl; same = refl; leading = refl }
