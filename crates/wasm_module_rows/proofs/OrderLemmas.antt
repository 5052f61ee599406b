-- Which fault goes first, and where limits lie, computed.
use Rattle.std.specs.Prelude.{refl}
use Rattle.wasm_module_rows.specs.Files.{usual, AreRefused, AreModules}
use Rattle.wasm_module_rows.specs.Orders.{kinds_and_flags, padded, codes, bodies_last, counts, past_limits, past_imports, OrdersHold}

kinds_hold : AreRefused usual kinds_and_flags
unfolding Rattle.std.specs.Str.is_utf8 Rattle.std.specs.Str.chars lib.Utf8.encode Rattle.wasm_reader.specs.Numbers.number_at Rattle.wasm_reader.specs.Reading.little_at Rattle.wasm_reader.specs.Text.size_at Rattle.wasm_reader.specs.Text.text_at Rattle.wasm_reader.specs.Text.string_at Rattle.wasm_reader.specs.Text.sized_bytes_at Rattle.wasm_reader.specs.Items.items_at Rattle.wasm_reader.specs.Items.vec_at Rattle.wasm_ref_types.specs.ReadTypes.abstract_at Rattle.wasm_ref_types.specs.ReadTypes.shared_at Rattle.wasm_ref_types.specs.ReadTypes.index_at Rattle.wasm_ref_types.specs.ReadTypes.heap_at Rattle.wasm_ref_types.specs.ReadTypes.long_at Rattle.wasm_ref_types.specs.ReadTypes.reference_at Rattle.wasm_ref_types.specs.ReadTypes.plain_at Rattle.wasm_ref_types.specs.ReadTypes.value_at Rattle.wasm_composite_types.specs.Readings.storage_at Rattle.wasm_composite_types.specs.Readings.mutable_at Rattle.wasm_composite_types.specs.Readings.field_at Rattle.wasm_composite_types.specs.Readings.func_at Rattle.wasm_composite_types.specs.Readings.array_at Rattle.wasm_composite_types.specs.Readings.struct_at Rattle.wasm_composite_types.specs.Readings.form_after Rattle.wasm_composite_types.specs.Readings.form_at Rattle.wasm_composite_types.specs.Readings.composite_after Rattle.wasm_composite_types.specs.Readings.composite_at Rattle.wasm_types.specs.Readings.index_at Rattle.wasm_types.specs.Readings.supertype_at Rattle.wasm_types.specs.Readings.declared_at Rattle.wasm_types.specs.Readings.sub_after Rattle.wasm_types.specs.Readings.sub_at Rattle.wasm_operators.specs.Operators.operator_at Rattle.wasm_operators.specs.Operators.code_at Rattle.wasm_operators.specs.Operators.kind_of Rattle.wasm_operators.specs.Table.structure_rows Rattle.wasm_operators.specs.Table.call_rows Rattle.wasm_operators.specs.Table.plain_rows Rattle.wasm_operators.specs.Table.fb_rows Rattle.wasm_operators.specs.Table.fc_rows Rattle.wasm_operators.specs.Table.fd_rows Rattle.wasm_operators.specs.Table.fe_rows Rattle.wasm_operators.specs.Readings.below_at Rattle.wasm_operators.specs.Readings.zero_at Rattle.wasm_operators.specs.Readings.empty_at Rattle.wasm_operators.specs.Readings.type_index_at Rattle.wasm_operators.specs.Readings.block_at Rattle.wasm_operators.specs.Readings.memory_at Rattle.wasm_operators.specs.Readings.access_at Rattle.wasm_operators.specs.Readings.clause_at Rattle.wasm_operators.specs.Readings.item_at Rattle.wasm_operators.specs.Readings.items_at
kinds_hold = refl

padded_hold : AreModules usual padded
unfolding Rattle.std.specs.Str.is_utf8 Rattle.std.specs.Str.chars lib.Utf8.encode Rattle.wasm_reader.specs.Numbers.number_at Rattle.wasm_reader.specs.Reading.little_at Rattle.wasm_reader.specs.Text.size_at Rattle.wasm_reader.specs.Text.text_at Rattle.wasm_reader.specs.Text.string_at Rattle.wasm_reader.specs.Text.sized_bytes_at Rattle.wasm_reader.specs.Items.items_at Rattle.wasm_reader.specs.Items.vec_at Rattle.wasm_ref_types.specs.ReadTypes.abstract_at Rattle.wasm_ref_types.specs.ReadTypes.shared_at Rattle.wasm_ref_types.specs.ReadTypes.index_at Rattle.wasm_ref_types.specs.ReadTypes.heap_at Rattle.wasm_ref_types.specs.ReadTypes.long_at Rattle.wasm_ref_types.specs.ReadTypes.reference_at Rattle.wasm_ref_types.specs.ReadTypes.plain_at Rattle.wasm_ref_types.specs.ReadTypes.value_at Rattle.wasm_composite_types.specs.Readings.storage_at Rattle.wasm_composite_types.specs.Readings.mutable_at Rattle.wasm_composite_types.specs.Readings.field_at Rattle.wasm_composite_types.specs.Readings.func_at Rattle.wasm_composite_types.specs.Readings.array_at Rattle.wasm_composite_types.specs.Readings.struct_at Rattle.wasm_composite_types.specs.Readings.form_after Rattle.wasm_composite_types.specs.Readings.form_at Rattle.wasm_composite_types.specs.Readings.composite_after Rattle.wasm_composite_types.specs.Readings.composite_at Rattle.wasm_types.specs.Readings.index_at Rattle.wasm_types.specs.Readings.supertype_at Rattle.wasm_types.specs.Readings.declared_at Rattle.wasm_types.specs.Readings.sub_after Rattle.wasm_types.specs.Readings.sub_at Rattle.wasm_operators.specs.Operators.operator_at Rattle.wasm_operators.specs.Operators.code_at Rattle.wasm_operators.specs.Operators.kind_of Rattle.wasm_operators.specs.Table.structure_rows Rattle.wasm_operators.specs.Table.call_rows Rattle.wasm_operators.specs.Table.plain_rows Rattle.wasm_operators.specs.Table.fb_rows Rattle.wasm_operators.specs.Table.fc_rows Rattle.wasm_operators.specs.Table.fd_rows Rattle.wasm_operators.specs.Table.fe_rows Rattle.wasm_operators.specs.Readings.below_at Rattle.wasm_operators.specs.Readings.zero_at Rattle.wasm_operators.specs.Readings.empty_at Rattle.wasm_operators.specs.Readings.type_index_at Rattle.wasm_operators.specs.Readings.block_at Rattle.wasm_operators.specs.Readings.memory_at Rattle.wasm_operators.specs.Readings.access_at Rattle.wasm_operators.specs.Readings.clause_at Rattle.wasm_operators.specs.Readings.item_at Rattle.wasm_operators.specs.Readings.items_at
padded_hold = refl

codes_hold : AreRefused usual codes
unfolding Rattle.std.specs.Str.is_utf8 Rattle.std.specs.Str.chars lib.Utf8.encode Rattle.wasm_reader.specs.Numbers.number_at Rattle.wasm_reader.specs.Reading.little_at Rattle.wasm_reader.specs.Text.size_at Rattle.wasm_reader.specs.Text.text_at Rattle.wasm_reader.specs.Text.string_at Rattle.wasm_reader.specs.Text.sized_bytes_at Rattle.wasm_reader.specs.Items.items_at Rattle.wasm_reader.specs.Items.vec_at Rattle.wasm_ref_types.specs.ReadTypes.abstract_at Rattle.wasm_ref_types.specs.ReadTypes.shared_at Rattle.wasm_ref_types.specs.ReadTypes.index_at Rattle.wasm_ref_types.specs.ReadTypes.heap_at Rattle.wasm_ref_types.specs.ReadTypes.long_at Rattle.wasm_ref_types.specs.ReadTypes.reference_at Rattle.wasm_ref_types.specs.ReadTypes.plain_at Rattle.wasm_ref_types.specs.ReadTypes.value_at Rattle.wasm_composite_types.specs.Readings.storage_at Rattle.wasm_composite_types.specs.Readings.mutable_at Rattle.wasm_composite_types.specs.Readings.field_at Rattle.wasm_composite_types.specs.Readings.func_at Rattle.wasm_composite_types.specs.Readings.array_at Rattle.wasm_composite_types.specs.Readings.struct_at Rattle.wasm_composite_types.specs.Readings.form_after Rattle.wasm_composite_types.specs.Readings.form_at Rattle.wasm_composite_types.specs.Readings.composite_after Rattle.wasm_composite_types.specs.Readings.composite_at Rattle.wasm_types.specs.Readings.index_at Rattle.wasm_types.specs.Readings.supertype_at Rattle.wasm_types.specs.Readings.declared_at Rattle.wasm_types.specs.Readings.sub_after Rattle.wasm_types.specs.Readings.sub_at Rattle.wasm_operators.specs.Operators.operator_at Rattle.wasm_operators.specs.Operators.code_at Rattle.wasm_operators.specs.Operators.kind_of Rattle.wasm_operators.specs.Table.structure_rows Rattle.wasm_operators.specs.Table.call_rows Rattle.wasm_operators.specs.Table.plain_rows Rattle.wasm_operators.specs.Table.fb_rows Rattle.wasm_operators.specs.Table.fc_rows Rattle.wasm_operators.specs.Table.fd_rows Rattle.wasm_operators.specs.Table.fe_rows Rattle.wasm_operators.specs.Readings.below_at Rattle.wasm_operators.specs.Readings.zero_at Rattle.wasm_operators.specs.Readings.empty_at Rattle.wasm_operators.specs.Readings.type_index_at Rattle.wasm_operators.specs.Readings.block_at Rattle.wasm_operators.specs.Readings.memory_at Rattle.wasm_operators.specs.Readings.access_at Rattle.wasm_operators.specs.Readings.clause_at Rattle.wasm_operators.specs.Readings.item_at Rattle.wasm_operators.specs.Readings.items_at
codes_hold = refl

bodies_hold : AreRefused usual bodies_last
unfolding Rattle.std.specs.Str.is_utf8 Rattle.std.specs.Str.chars lib.Utf8.encode Rattle.wasm_reader.specs.Numbers.number_at Rattle.wasm_reader.specs.Reading.little_at Rattle.wasm_reader.specs.Text.size_at Rattle.wasm_reader.specs.Text.text_at Rattle.wasm_reader.specs.Text.string_at Rattle.wasm_reader.specs.Text.sized_bytes_at Rattle.wasm_reader.specs.Items.items_at Rattle.wasm_reader.specs.Items.vec_at Rattle.wasm_ref_types.specs.ReadTypes.abstract_at Rattle.wasm_ref_types.specs.ReadTypes.shared_at Rattle.wasm_ref_types.specs.ReadTypes.index_at Rattle.wasm_ref_types.specs.ReadTypes.heap_at Rattle.wasm_ref_types.specs.ReadTypes.long_at Rattle.wasm_ref_types.specs.ReadTypes.reference_at Rattle.wasm_ref_types.specs.ReadTypes.plain_at Rattle.wasm_ref_types.specs.ReadTypes.value_at Rattle.wasm_composite_types.specs.Readings.storage_at Rattle.wasm_composite_types.specs.Readings.mutable_at Rattle.wasm_composite_types.specs.Readings.field_at Rattle.wasm_composite_types.specs.Readings.func_at Rattle.wasm_composite_types.specs.Readings.array_at Rattle.wasm_composite_types.specs.Readings.struct_at Rattle.wasm_composite_types.specs.Readings.form_after Rattle.wasm_composite_types.specs.Readings.form_at Rattle.wasm_composite_types.specs.Readings.composite_after Rattle.wasm_composite_types.specs.Readings.composite_at Rattle.wasm_types.specs.Readings.index_at Rattle.wasm_types.specs.Readings.supertype_at Rattle.wasm_types.specs.Readings.declared_at Rattle.wasm_types.specs.Readings.sub_after Rattle.wasm_types.specs.Readings.sub_at Rattle.wasm_operators.specs.Operators.operator_at Rattle.wasm_operators.specs.Operators.code_at Rattle.wasm_operators.specs.Operators.kind_of Rattle.wasm_operators.specs.Table.structure_rows Rattle.wasm_operators.specs.Table.call_rows Rattle.wasm_operators.specs.Table.plain_rows Rattle.wasm_operators.specs.Table.fb_rows Rattle.wasm_operators.specs.Table.fc_rows Rattle.wasm_operators.specs.Table.fd_rows Rattle.wasm_operators.specs.Table.fe_rows Rattle.wasm_operators.specs.Readings.below_at Rattle.wasm_operators.specs.Readings.zero_at Rattle.wasm_operators.specs.Readings.empty_at Rattle.wasm_operators.specs.Readings.type_index_at Rattle.wasm_operators.specs.Readings.block_at Rattle.wasm_operators.specs.Readings.memory_at Rattle.wasm_operators.specs.Readings.access_at Rattle.wasm_operators.specs.Readings.clause_at Rattle.wasm_operators.specs.Readings.item_at Rattle.wasm_operators.specs.Readings.items_at
bodies_hold = refl

counts_hold : AreRefused usual counts
unfolding Rattle.std.specs.Str.is_utf8 Rattle.std.specs.Str.chars lib.Utf8.encode Rattle.wasm_reader.specs.Numbers.number_at Rattle.wasm_reader.specs.Reading.little_at Rattle.wasm_reader.specs.Text.size_at Rattle.wasm_reader.specs.Text.text_at Rattle.wasm_reader.specs.Text.string_at Rattle.wasm_reader.specs.Text.sized_bytes_at Rattle.wasm_reader.specs.Items.items_at Rattle.wasm_reader.specs.Items.vec_at Rattle.wasm_ref_types.specs.ReadTypes.abstract_at Rattle.wasm_ref_types.specs.ReadTypes.shared_at Rattle.wasm_ref_types.specs.ReadTypes.index_at Rattle.wasm_ref_types.specs.ReadTypes.heap_at Rattle.wasm_ref_types.specs.ReadTypes.long_at Rattle.wasm_ref_types.specs.ReadTypes.reference_at Rattle.wasm_ref_types.specs.ReadTypes.plain_at Rattle.wasm_ref_types.specs.ReadTypes.value_at Rattle.wasm_composite_types.specs.Readings.storage_at Rattle.wasm_composite_types.specs.Readings.mutable_at Rattle.wasm_composite_types.specs.Readings.field_at Rattle.wasm_composite_types.specs.Readings.func_at Rattle.wasm_composite_types.specs.Readings.array_at Rattle.wasm_composite_types.specs.Readings.struct_at Rattle.wasm_composite_types.specs.Readings.form_after Rattle.wasm_composite_types.specs.Readings.form_at Rattle.wasm_composite_types.specs.Readings.composite_after Rattle.wasm_composite_types.specs.Readings.composite_at Rattle.wasm_types.specs.Readings.index_at Rattle.wasm_types.specs.Readings.supertype_at Rattle.wasm_types.specs.Readings.declared_at Rattle.wasm_types.specs.Readings.sub_after Rattle.wasm_types.specs.Readings.sub_at Rattle.wasm_operators.specs.Operators.operator_at Rattle.wasm_operators.specs.Operators.code_at Rattle.wasm_operators.specs.Operators.kind_of Rattle.wasm_operators.specs.Table.structure_rows Rattle.wasm_operators.specs.Table.call_rows Rattle.wasm_operators.specs.Table.plain_rows Rattle.wasm_operators.specs.Table.fb_rows Rattle.wasm_operators.specs.Table.fc_rows Rattle.wasm_operators.specs.Table.fd_rows Rattle.wasm_operators.specs.Table.fe_rows Rattle.wasm_operators.specs.Readings.below_at Rattle.wasm_operators.specs.Readings.zero_at Rattle.wasm_operators.specs.Readings.empty_at Rattle.wasm_operators.specs.Readings.type_index_at Rattle.wasm_operators.specs.Readings.block_at Rattle.wasm_operators.specs.Readings.memory_at Rattle.wasm_operators.specs.Readings.access_at Rattle.wasm_operators.specs.Readings.clause_at Rattle.wasm_operators.specs.Readings.item_at Rattle.wasm_operators.specs.Readings.items_at
counts_hold = refl

limits_hold : AreRefused usual past_limits
unfolding Rattle.std.specs.Str.is_utf8 Rattle.std.specs.Str.chars lib.Utf8.encode Rattle.wasm_reader.specs.Numbers.number_at Rattle.wasm_reader.specs.Reading.little_at Rattle.wasm_reader.specs.Text.size_at Rattle.wasm_reader.specs.Text.text_at Rattle.wasm_reader.specs.Text.string_at Rattle.wasm_reader.specs.Text.sized_bytes_at Rattle.wasm_reader.specs.Items.items_at Rattle.wasm_reader.specs.Items.vec_at Rattle.wasm_ref_types.specs.ReadTypes.abstract_at Rattle.wasm_ref_types.specs.ReadTypes.shared_at Rattle.wasm_ref_types.specs.ReadTypes.index_at Rattle.wasm_ref_types.specs.ReadTypes.heap_at Rattle.wasm_ref_types.specs.ReadTypes.long_at Rattle.wasm_ref_types.specs.ReadTypes.reference_at Rattle.wasm_ref_types.specs.ReadTypes.plain_at Rattle.wasm_ref_types.specs.ReadTypes.value_at Rattle.wasm_composite_types.specs.Readings.storage_at Rattle.wasm_composite_types.specs.Readings.mutable_at Rattle.wasm_composite_types.specs.Readings.field_at Rattle.wasm_composite_types.specs.Readings.func_at Rattle.wasm_composite_types.specs.Readings.array_at Rattle.wasm_composite_types.specs.Readings.struct_at Rattle.wasm_composite_types.specs.Readings.form_after Rattle.wasm_composite_types.specs.Readings.form_at Rattle.wasm_composite_types.specs.Readings.composite_after Rattle.wasm_composite_types.specs.Readings.composite_at Rattle.wasm_types.specs.Readings.index_at Rattle.wasm_types.specs.Readings.supertype_at Rattle.wasm_types.specs.Readings.declared_at Rattle.wasm_types.specs.Readings.sub_after Rattle.wasm_types.specs.Readings.sub_at Rattle.wasm_operators.specs.Operators.operator_at Rattle.wasm_operators.specs.Operators.code_at Rattle.wasm_operators.specs.Operators.kind_of Rattle.wasm_operators.specs.Table.structure_rows Rattle.wasm_operators.specs.Table.call_rows Rattle.wasm_operators.specs.Table.plain_rows Rattle.wasm_operators.specs.Table.fb_rows Rattle.wasm_operators.specs.Table.fc_rows Rattle.wasm_operators.specs.Table.fd_rows Rattle.wasm_operators.specs.Table.fe_rows Rattle.wasm_operators.specs.Readings.below_at Rattle.wasm_operators.specs.Readings.zero_at Rattle.wasm_operators.specs.Readings.empty_at Rattle.wasm_operators.specs.Readings.type_index_at Rattle.wasm_operators.specs.Readings.block_at Rattle.wasm_operators.specs.Readings.memory_at Rattle.wasm_operators.specs.Readings.access_at Rattle.wasm_operators.specs.Readings.clause_at Rattle.wasm_operators.specs.Readings.item_at Rattle.wasm_operators.specs.Readings.items_at
limits_hold = refl

imports_hold : AreRefused usual past_imports
unfolding Rattle.std.specs.Str.is_utf8 Rattle.std.specs.Str.chars lib.Utf8.encode Rattle.wasm_reader.specs.Numbers.number_at Rattle.wasm_reader.specs.Reading.little_at Rattle.wasm_reader.specs.Text.size_at Rattle.wasm_reader.specs.Text.text_at Rattle.wasm_reader.specs.Text.string_at Rattle.wasm_reader.specs.Text.sized_bytes_at Rattle.wasm_reader.specs.Items.items_at Rattle.wasm_reader.specs.Items.vec_at Rattle.wasm_ref_types.specs.ReadTypes.abstract_at Rattle.wasm_ref_types.specs.ReadTypes.shared_at Rattle.wasm_ref_types.specs.ReadTypes.index_at Rattle.wasm_ref_types.specs.ReadTypes.heap_at Rattle.wasm_ref_types.specs.ReadTypes.long_at Rattle.wasm_ref_types.specs.ReadTypes.reference_at Rattle.wasm_ref_types.specs.ReadTypes.plain_at Rattle.wasm_ref_types.specs.ReadTypes.value_at Rattle.wasm_composite_types.specs.Readings.storage_at Rattle.wasm_composite_types.specs.Readings.mutable_at Rattle.wasm_composite_types.specs.Readings.field_at Rattle.wasm_composite_types.specs.Readings.func_at Rattle.wasm_composite_types.specs.Readings.array_at Rattle.wasm_composite_types.specs.Readings.struct_at Rattle.wasm_composite_types.specs.Readings.form_after Rattle.wasm_composite_types.specs.Readings.form_at Rattle.wasm_composite_types.specs.Readings.composite_after Rattle.wasm_composite_types.specs.Readings.composite_at Rattle.wasm_types.specs.Readings.index_at Rattle.wasm_types.specs.Readings.supertype_at Rattle.wasm_types.specs.Readings.declared_at Rattle.wasm_types.specs.Readings.sub_after Rattle.wasm_types.specs.Readings.sub_at Rattle.wasm_operators.specs.Operators.operator_at Rattle.wasm_operators.specs.Operators.code_at Rattle.wasm_operators.specs.Operators.kind_of Rattle.wasm_operators.specs.Table.structure_rows Rattle.wasm_operators.specs.Table.call_rows Rattle.wasm_operators.specs.Table.plain_rows Rattle.wasm_operators.specs.Table.fb_rows Rattle.wasm_operators.specs.Table.fc_rows Rattle.wasm_operators.specs.Table.fd_rows Rattle.wasm_operators.specs.Table.fe_rows Rattle.wasm_operators.specs.Readings.below_at Rattle.wasm_operators.specs.Readings.zero_at Rattle.wasm_operators.specs.Readings.empty_at Rattle.wasm_operators.specs.Readings.type_index_at Rattle.wasm_operators.specs.Readings.block_at Rattle.wasm_operators.specs.Readings.memory_at Rattle.wasm_operators.specs.Readings.access_at Rattle.wasm_operators.specs.Readings.clause_at Rattle.wasm_operators.specs.Readings.item_at Rattle.wasm_operators.specs.Readings.items_at
imports_hold = refl

pub orders_hold : OrdersHold
orders_hold = record { of_kinds = kinds_hold; of_padded = padded_hold; of_codes = codes_hold; of_bodies = bodies_hold; of_counts = counts_hold; of_limits = limits_hold; of_imports = imports_hold }
