-- The files, computed.
use Rattle.std.specs.Prelude.{refl}
use Rattle.wasm_module_rows.specs.Files.{usual, without_legacy, with_shared, AreRefused, AreModules}
use Rattle.wasm_module_rows.specs.Faults.{types, entries, tables, constants, segments, frames, past_limits, FaultsStop}
use Rattle.wasm_module_rows.specs.Read.{modules, shared_modules, everything, all_items, forms, all_forms, FilesRead}
use Rattle.wasm_module_rows.specs.Stopped.{stopped, hostile, unshared, sharing, legacy, fronts, FilesStop}
use Rattle.std.specs.Prelude.{[], ◌∷◌}

modules_hold : AreModules usual modules
unfolding Rattle.std.specs.Str.is_utf8 Rattle.std.specs.Str.chars lib.Utf8.encode Rattle.wasm_reader.specs.Numbers.number_at Rattle.wasm_reader.specs.Reading.little_at Rattle.wasm_reader.specs.Text.size_at Rattle.wasm_reader.specs.Text.text_at Rattle.wasm_reader.specs.Text.string_at Rattle.wasm_reader.specs.Text.sized_bytes_at Rattle.wasm_reader.specs.Items.items_at Rattle.wasm_reader.specs.Items.vec_at Rattle.wasm_ref_types.specs.ReadTypes.abstract_at Rattle.wasm_ref_types.specs.ReadTypes.shared_at Rattle.wasm_ref_types.specs.ReadTypes.index_at Rattle.wasm_ref_types.specs.ReadTypes.heap_at Rattle.wasm_ref_types.specs.ReadTypes.long_at Rattle.wasm_ref_types.specs.ReadTypes.reference_at Rattle.wasm_ref_types.specs.ReadTypes.plain_at Rattle.wasm_ref_types.specs.ReadTypes.value_at Rattle.wasm_composite_types.specs.Readings.storage_at Rattle.wasm_composite_types.specs.Readings.mutable_at Rattle.wasm_composite_types.specs.Readings.field_at Rattle.wasm_composite_types.specs.Readings.func_at Rattle.wasm_composite_types.specs.Readings.array_at Rattle.wasm_composite_types.specs.Readings.struct_at Rattle.wasm_composite_types.specs.Readings.form_after Rattle.wasm_composite_types.specs.Readings.form_at Rattle.wasm_composite_types.specs.Readings.composite_after Rattle.wasm_composite_types.specs.Readings.composite_at Rattle.wasm_types.specs.Readings.index_at Rattle.wasm_types.specs.Readings.supertype_at Rattle.wasm_types.specs.Readings.declared_at Rattle.wasm_types.specs.Readings.sub_after Rattle.wasm_types.specs.Readings.sub_at Rattle.wasm_operators.specs.Operators.operator_at Rattle.wasm_operators.specs.Operators.code_at Rattle.wasm_operators.specs.Operators.kind_of Rattle.wasm_operators.specs.Table.structure_rows Rattle.wasm_operators.specs.Table.call_rows Rattle.wasm_operators.specs.Table.plain_rows Rattle.wasm_operators.specs.Table.fb_rows Rattle.wasm_operators.specs.Table.fc_rows Rattle.wasm_operators.specs.Table.fd_rows Rattle.wasm_operators.specs.Table.fe_rows Rattle.wasm_operators.specs.Readings.below_at Rattle.wasm_operators.specs.Readings.zero_at Rattle.wasm_operators.specs.Readings.empty_at Rattle.wasm_operators.specs.Readings.type_index_at Rattle.wasm_operators.specs.Readings.block_at Rattle.wasm_operators.specs.Readings.memory_at Rattle.wasm_operators.specs.Readings.access_at Rattle.wasm_operators.specs.Readings.clause_at Rattle.wasm_operators.specs.Readings.item_at Rattle.wasm_operators.specs.Readings.items_at
modules_hold = refl

all_hold : AreModules usual ((everything, all_items) ∷ [])
unfolding Rattle.std.specs.Str.is_utf8 Rattle.std.specs.Str.chars lib.Utf8.encode Rattle.wasm_reader.specs.Numbers.number_at Rattle.wasm_reader.specs.Reading.little_at Rattle.wasm_reader.specs.Text.size_at Rattle.wasm_reader.specs.Text.text_at Rattle.wasm_reader.specs.Text.string_at Rattle.wasm_reader.specs.Text.sized_bytes_at Rattle.wasm_reader.specs.Items.items_at Rattle.wasm_reader.specs.Items.vec_at Rattle.wasm_ref_types.specs.ReadTypes.abstract_at Rattle.wasm_ref_types.specs.ReadTypes.shared_at Rattle.wasm_ref_types.specs.ReadTypes.index_at Rattle.wasm_ref_types.specs.ReadTypes.heap_at Rattle.wasm_ref_types.specs.ReadTypes.long_at Rattle.wasm_ref_types.specs.ReadTypes.reference_at Rattle.wasm_ref_types.specs.ReadTypes.plain_at Rattle.wasm_ref_types.specs.ReadTypes.value_at Rattle.wasm_composite_types.specs.Readings.storage_at Rattle.wasm_composite_types.specs.Readings.mutable_at Rattle.wasm_composite_types.specs.Readings.field_at Rattle.wasm_composite_types.specs.Readings.func_at Rattle.wasm_composite_types.specs.Readings.array_at Rattle.wasm_composite_types.specs.Readings.struct_at Rattle.wasm_composite_types.specs.Readings.form_after Rattle.wasm_composite_types.specs.Readings.form_at Rattle.wasm_composite_types.specs.Readings.composite_after Rattle.wasm_composite_types.specs.Readings.composite_at Rattle.wasm_types.specs.Readings.index_at Rattle.wasm_types.specs.Readings.supertype_at Rattle.wasm_types.specs.Readings.declared_at Rattle.wasm_types.specs.Readings.sub_after Rattle.wasm_types.specs.Readings.sub_at Rattle.wasm_operators.specs.Operators.operator_at Rattle.wasm_operators.specs.Operators.code_at Rattle.wasm_operators.specs.Operators.kind_of Rattle.wasm_operators.specs.Table.structure_rows Rattle.wasm_operators.specs.Table.call_rows Rattle.wasm_operators.specs.Table.plain_rows Rattle.wasm_operators.specs.Table.fb_rows Rattle.wasm_operators.specs.Table.fc_rows Rattle.wasm_operators.specs.Table.fd_rows Rattle.wasm_operators.specs.Table.fe_rows Rattle.wasm_operators.specs.Readings.below_at Rattle.wasm_operators.specs.Readings.zero_at Rattle.wasm_operators.specs.Readings.empty_at Rattle.wasm_operators.specs.Readings.type_index_at Rattle.wasm_operators.specs.Readings.block_at Rattle.wasm_operators.specs.Readings.memory_at Rattle.wasm_operators.specs.Readings.access_at Rattle.wasm_operators.specs.Readings.clause_at Rattle.wasm_operators.specs.Readings.item_at Rattle.wasm_operators.specs.Readings.items_at
all_hold = refl

forms_hold : AreModules usual ((forms, all_forms) ∷ [])
unfolding Rattle.std.specs.Str.is_utf8 Rattle.std.specs.Str.chars lib.Utf8.encode Rattle.wasm_reader.specs.Numbers.number_at Rattle.wasm_reader.specs.Reading.little_at Rattle.wasm_reader.specs.Text.size_at Rattle.wasm_reader.specs.Text.text_at Rattle.wasm_reader.specs.Text.string_at Rattle.wasm_reader.specs.Text.sized_bytes_at Rattle.wasm_reader.specs.Items.items_at Rattle.wasm_reader.specs.Items.vec_at Rattle.wasm_ref_types.specs.ReadTypes.abstract_at Rattle.wasm_ref_types.specs.ReadTypes.shared_at Rattle.wasm_ref_types.specs.ReadTypes.index_at Rattle.wasm_ref_types.specs.ReadTypes.heap_at Rattle.wasm_ref_types.specs.ReadTypes.long_at Rattle.wasm_ref_types.specs.ReadTypes.reference_at Rattle.wasm_ref_types.specs.ReadTypes.plain_at Rattle.wasm_ref_types.specs.ReadTypes.value_at Rattle.wasm_composite_types.specs.Readings.storage_at Rattle.wasm_composite_types.specs.Readings.mutable_at Rattle.wasm_composite_types.specs.Readings.field_at Rattle.wasm_composite_types.specs.Readings.func_at Rattle.wasm_composite_types.specs.Readings.array_at Rattle.wasm_composite_types.specs.Readings.struct_at Rattle.wasm_composite_types.specs.Readings.form_after Rattle.wasm_composite_types.specs.Readings.form_at Rattle.wasm_composite_types.specs.Readings.composite_after Rattle.wasm_composite_types.specs.Readings.composite_at Rattle.wasm_types.specs.Readings.index_at Rattle.wasm_types.specs.Readings.supertype_at Rattle.wasm_types.specs.Readings.declared_at Rattle.wasm_types.specs.Readings.sub_after Rattle.wasm_types.specs.Readings.sub_at Rattle.wasm_operators.specs.Operators.operator_at Rattle.wasm_operators.specs.Operators.code_at Rattle.wasm_operators.specs.Operators.kind_of Rattle.wasm_operators.specs.Table.structure_rows Rattle.wasm_operators.specs.Table.call_rows Rattle.wasm_operators.specs.Table.plain_rows Rattle.wasm_operators.specs.Table.fb_rows Rattle.wasm_operators.specs.Table.fc_rows Rattle.wasm_operators.specs.Table.fd_rows Rattle.wasm_operators.specs.Table.fe_rows Rattle.wasm_operators.specs.Readings.below_at Rattle.wasm_operators.specs.Readings.zero_at Rattle.wasm_operators.specs.Readings.empty_at Rattle.wasm_operators.specs.Readings.type_index_at Rattle.wasm_operators.specs.Readings.block_at Rattle.wasm_operators.specs.Readings.memory_at Rattle.wasm_operators.specs.Readings.access_at Rattle.wasm_operators.specs.Readings.clause_at Rattle.wasm_operators.specs.Readings.item_at Rattle.wasm_operators.specs.Readings.items_at
forms_hold = refl

shared_hold : AreModules with_shared shared_modules
unfolding Rattle.std.specs.Str.is_utf8 Rattle.std.specs.Str.chars lib.Utf8.encode Rattle.wasm_reader.specs.Numbers.number_at Rattle.wasm_reader.specs.Reading.little_at Rattle.wasm_reader.specs.Text.size_at Rattle.wasm_reader.specs.Text.text_at Rattle.wasm_reader.specs.Text.string_at Rattle.wasm_reader.specs.Text.sized_bytes_at Rattle.wasm_reader.specs.Items.items_at Rattle.wasm_reader.specs.Items.vec_at Rattle.wasm_ref_types.specs.ReadTypes.abstract_at Rattle.wasm_ref_types.specs.ReadTypes.shared_at Rattle.wasm_ref_types.specs.ReadTypes.index_at Rattle.wasm_ref_types.specs.ReadTypes.heap_at Rattle.wasm_ref_types.specs.ReadTypes.long_at Rattle.wasm_ref_types.specs.ReadTypes.reference_at Rattle.wasm_ref_types.specs.ReadTypes.plain_at Rattle.wasm_ref_types.specs.ReadTypes.value_at Rattle.wasm_composite_types.specs.Readings.storage_at Rattle.wasm_composite_types.specs.Readings.mutable_at Rattle.wasm_composite_types.specs.Readings.field_at Rattle.wasm_composite_types.specs.Readings.func_at Rattle.wasm_composite_types.specs.Readings.array_at Rattle.wasm_composite_types.specs.Readings.struct_at Rattle.wasm_composite_types.specs.Readings.form_after Rattle.wasm_composite_types.specs.Readings.form_at Rattle.wasm_composite_types.specs.Readings.composite_after Rattle.wasm_composite_types.specs.Readings.composite_at Rattle.wasm_types.specs.Readings.index_at Rattle.wasm_types.specs.Readings.supertype_at Rattle.wasm_types.specs.Readings.declared_at Rattle.wasm_types.specs.Readings.sub_after Rattle.wasm_types.specs.Readings.sub_at Rattle.wasm_operators.specs.Operators.operator_at Rattle.wasm_operators.specs.Operators.code_at Rattle.wasm_operators.specs.Operators.kind_of Rattle.wasm_operators.specs.Table.structure_rows Rattle.wasm_operators.specs.Table.call_rows Rattle.wasm_operators.specs.Table.plain_rows Rattle.wasm_operators.specs.Table.fb_rows Rattle.wasm_operators.specs.Table.fc_rows Rattle.wasm_operators.specs.Table.fd_rows Rattle.wasm_operators.specs.Table.fe_rows Rattle.wasm_operators.specs.Readings.below_at Rattle.wasm_operators.specs.Readings.zero_at Rattle.wasm_operators.specs.Readings.empty_at Rattle.wasm_operators.specs.Readings.type_index_at Rattle.wasm_operators.specs.Readings.block_at Rattle.wasm_operators.specs.Readings.memory_at Rattle.wasm_operators.specs.Readings.access_at Rattle.wasm_operators.specs.Readings.clause_at Rattle.wasm_operators.specs.Readings.item_at Rattle.wasm_operators.specs.Readings.items_at
shared_hold = refl

stopped_hold : AreRefused usual stopped
unfolding Rattle.std.specs.Str.is_utf8 Rattle.std.specs.Str.chars lib.Utf8.encode Rattle.wasm_reader.specs.Numbers.number_at Rattle.wasm_reader.specs.Reading.little_at Rattle.wasm_reader.specs.Text.size_at Rattle.wasm_reader.specs.Text.text_at Rattle.wasm_reader.specs.Text.string_at Rattle.wasm_reader.specs.Text.sized_bytes_at Rattle.wasm_reader.specs.Items.items_at Rattle.wasm_reader.specs.Items.vec_at Rattle.wasm_ref_types.specs.ReadTypes.abstract_at Rattle.wasm_ref_types.specs.ReadTypes.shared_at Rattle.wasm_ref_types.specs.ReadTypes.index_at Rattle.wasm_ref_types.specs.ReadTypes.heap_at Rattle.wasm_ref_types.specs.ReadTypes.long_at Rattle.wasm_ref_types.specs.ReadTypes.reference_at Rattle.wasm_ref_types.specs.ReadTypes.plain_at Rattle.wasm_ref_types.specs.ReadTypes.value_at Rattle.wasm_composite_types.specs.Readings.storage_at Rattle.wasm_composite_types.specs.Readings.mutable_at Rattle.wasm_composite_types.specs.Readings.field_at Rattle.wasm_composite_types.specs.Readings.func_at Rattle.wasm_composite_types.specs.Readings.array_at Rattle.wasm_composite_types.specs.Readings.struct_at Rattle.wasm_composite_types.specs.Readings.form_after Rattle.wasm_composite_types.specs.Readings.form_at Rattle.wasm_composite_types.specs.Readings.composite_after Rattle.wasm_composite_types.specs.Readings.composite_at Rattle.wasm_types.specs.Readings.index_at Rattle.wasm_types.specs.Readings.supertype_at Rattle.wasm_types.specs.Readings.declared_at Rattle.wasm_types.specs.Readings.sub_after Rattle.wasm_types.specs.Readings.sub_at Rattle.wasm_operators.specs.Operators.operator_at Rattle.wasm_operators.specs.Operators.code_at Rattle.wasm_operators.specs.Operators.kind_of Rattle.wasm_operators.specs.Table.structure_rows Rattle.wasm_operators.specs.Table.call_rows Rattle.wasm_operators.specs.Table.plain_rows Rattle.wasm_operators.specs.Table.fb_rows Rattle.wasm_operators.specs.Table.fc_rows Rattle.wasm_operators.specs.Table.fd_rows Rattle.wasm_operators.specs.Table.fe_rows Rattle.wasm_operators.specs.Readings.below_at Rattle.wasm_operators.specs.Readings.zero_at Rattle.wasm_operators.specs.Readings.empty_at Rattle.wasm_operators.specs.Readings.type_index_at Rattle.wasm_operators.specs.Readings.block_at Rattle.wasm_operators.specs.Readings.memory_at Rattle.wasm_operators.specs.Readings.access_at Rattle.wasm_operators.specs.Readings.clause_at Rattle.wasm_operators.specs.Readings.item_at Rattle.wasm_operators.specs.Readings.items_at
stopped_hold = refl

hostile_hold : AreRefused usual hostile
unfolding Rattle.std.specs.Str.is_utf8 Rattle.std.specs.Str.chars lib.Utf8.encode Rattle.wasm_reader.specs.Numbers.number_at Rattle.wasm_reader.specs.Reading.little_at Rattle.wasm_reader.specs.Text.size_at Rattle.wasm_reader.specs.Text.text_at Rattle.wasm_reader.specs.Text.string_at Rattle.wasm_reader.specs.Text.sized_bytes_at Rattle.wasm_reader.specs.Items.items_at Rattle.wasm_reader.specs.Items.vec_at Rattle.wasm_ref_types.specs.ReadTypes.abstract_at Rattle.wasm_ref_types.specs.ReadTypes.shared_at Rattle.wasm_ref_types.specs.ReadTypes.index_at Rattle.wasm_ref_types.specs.ReadTypes.heap_at Rattle.wasm_ref_types.specs.ReadTypes.long_at Rattle.wasm_ref_types.specs.ReadTypes.reference_at Rattle.wasm_ref_types.specs.ReadTypes.plain_at Rattle.wasm_ref_types.specs.ReadTypes.value_at Rattle.wasm_composite_types.specs.Readings.storage_at Rattle.wasm_composite_types.specs.Readings.mutable_at Rattle.wasm_composite_types.specs.Readings.field_at Rattle.wasm_composite_types.specs.Readings.func_at Rattle.wasm_composite_types.specs.Readings.array_at Rattle.wasm_composite_types.specs.Readings.struct_at Rattle.wasm_composite_types.specs.Readings.form_after Rattle.wasm_composite_types.specs.Readings.form_at Rattle.wasm_composite_types.specs.Readings.composite_after Rattle.wasm_composite_types.specs.Readings.composite_at Rattle.wasm_types.specs.Readings.index_at Rattle.wasm_types.specs.Readings.supertype_at Rattle.wasm_types.specs.Readings.declared_at Rattle.wasm_types.specs.Readings.sub_after Rattle.wasm_types.specs.Readings.sub_at Rattle.wasm_operators.specs.Operators.operator_at Rattle.wasm_operators.specs.Operators.code_at Rattle.wasm_operators.specs.Operators.kind_of Rattle.wasm_operators.specs.Table.structure_rows Rattle.wasm_operators.specs.Table.call_rows Rattle.wasm_operators.specs.Table.plain_rows Rattle.wasm_operators.specs.Table.fb_rows Rattle.wasm_operators.specs.Table.fc_rows Rattle.wasm_operators.specs.Table.fd_rows Rattle.wasm_operators.specs.Table.fe_rows Rattle.wasm_operators.specs.Readings.below_at Rattle.wasm_operators.specs.Readings.zero_at Rattle.wasm_operators.specs.Readings.empty_at Rattle.wasm_operators.specs.Readings.type_index_at Rattle.wasm_operators.specs.Readings.block_at Rattle.wasm_operators.specs.Readings.memory_at Rattle.wasm_operators.specs.Readings.access_at Rattle.wasm_operators.specs.Readings.clause_at Rattle.wasm_operators.specs.Readings.item_at Rattle.wasm_operators.specs.Readings.items_at
hostile_hold = refl

unshared_hold : AreRefused usual unshared
unfolding Rattle.std.specs.Str.is_utf8 Rattle.std.specs.Str.chars lib.Utf8.encode Rattle.wasm_reader.specs.Numbers.number_at Rattle.wasm_reader.specs.Reading.little_at Rattle.wasm_reader.specs.Text.size_at Rattle.wasm_reader.specs.Text.text_at Rattle.wasm_reader.specs.Text.string_at Rattle.wasm_reader.specs.Text.sized_bytes_at Rattle.wasm_reader.specs.Items.items_at Rattle.wasm_reader.specs.Items.vec_at Rattle.wasm_ref_types.specs.ReadTypes.abstract_at Rattle.wasm_ref_types.specs.ReadTypes.shared_at Rattle.wasm_ref_types.specs.ReadTypes.index_at Rattle.wasm_ref_types.specs.ReadTypes.heap_at Rattle.wasm_ref_types.specs.ReadTypes.long_at Rattle.wasm_ref_types.specs.ReadTypes.reference_at Rattle.wasm_ref_types.specs.ReadTypes.plain_at Rattle.wasm_ref_types.specs.ReadTypes.value_at Rattle.wasm_composite_types.specs.Readings.storage_at Rattle.wasm_composite_types.specs.Readings.mutable_at Rattle.wasm_composite_types.specs.Readings.field_at Rattle.wasm_composite_types.specs.Readings.func_at Rattle.wasm_composite_types.specs.Readings.array_at Rattle.wasm_composite_types.specs.Readings.struct_at Rattle.wasm_composite_types.specs.Readings.form_after Rattle.wasm_composite_types.specs.Readings.form_at Rattle.wasm_composite_types.specs.Readings.composite_after Rattle.wasm_composite_types.specs.Readings.composite_at Rattle.wasm_types.specs.Readings.index_at Rattle.wasm_types.specs.Readings.supertype_at Rattle.wasm_types.specs.Readings.declared_at Rattle.wasm_types.specs.Readings.sub_after Rattle.wasm_types.specs.Readings.sub_at Rattle.wasm_operators.specs.Operators.operator_at Rattle.wasm_operators.specs.Operators.code_at Rattle.wasm_operators.specs.Operators.kind_of Rattle.wasm_operators.specs.Table.structure_rows Rattle.wasm_operators.specs.Table.call_rows Rattle.wasm_operators.specs.Table.plain_rows Rattle.wasm_operators.specs.Table.fb_rows Rattle.wasm_operators.specs.Table.fc_rows Rattle.wasm_operators.specs.Table.fd_rows Rattle.wasm_operators.specs.Table.fe_rows Rattle.wasm_operators.specs.Readings.below_at Rattle.wasm_operators.specs.Readings.zero_at Rattle.wasm_operators.specs.Readings.empty_at Rattle.wasm_operators.specs.Readings.type_index_at Rattle.wasm_operators.specs.Readings.block_at Rattle.wasm_operators.specs.Readings.memory_at Rattle.wasm_operators.specs.Readings.access_at Rattle.wasm_operators.specs.Readings.clause_at Rattle.wasm_operators.specs.Readings.item_at Rattle.wasm_operators.specs.Readings.items_at
unshared_hold = refl

sharing_hold : AreRefused with_shared sharing
unfolding Rattle.std.specs.Str.is_utf8 Rattle.std.specs.Str.chars lib.Utf8.encode Rattle.wasm_reader.specs.Numbers.number_at Rattle.wasm_reader.specs.Reading.little_at Rattle.wasm_reader.specs.Text.size_at Rattle.wasm_reader.specs.Text.text_at Rattle.wasm_reader.specs.Text.string_at Rattle.wasm_reader.specs.Text.sized_bytes_at Rattle.wasm_reader.specs.Items.items_at Rattle.wasm_reader.specs.Items.vec_at Rattle.wasm_ref_types.specs.ReadTypes.abstract_at Rattle.wasm_ref_types.specs.ReadTypes.shared_at Rattle.wasm_ref_types.specs.ReadTypes.index_at Rattle.wasm_ref_types.specs.ReadTypes.heap_at Rattle.wasm_ref_types.specs.ReadTypes.long_at Rattle.wasm_ref_types.specs.ReadTypes.reference_at Rattle.wasm_ref_types.specs.ReadTypes.plain_at Rattle.wasm_ref_types.specs.ReadTypes.value_at Rattle.wasm_composite_types.specs.Readings.storage_at Rattle.wasm_composite_types.specs.Readings.mutable_at Rattle.wasm_composite_types.specs.Readings.field_at Rattle.wasm_composite_types.specs.Readings.func_at Rattle.wasm_composite_types.specs.Readings.array_at Rattle.wasm_composite_types.specs.Readings.struct_at Rattle.wasm_composite_types.specs.Readings.form_after Rattle.wasm_composite_types.specs.Readings.form_at Rattle.wasm_composite_types.specs.Readings.composite_after Rattle.wasm_composite_types.specs.Readings.composite_at Rattle.wasm_types.specs.Readings.index_at Rattle.wasm_types.specs.Readings.supertype_at Rattle.wasm_types.specs.Readings.declared_at Rattle.wasm_types.specs.Readings.sub_after Rattle.wasm_types.specs.Readings.sub_at Rattle.wasm_operators.specs.Operators.operator_at Rattle.wasm_operators.specs.Operators.code_at Rattle.wasm_operators.specs.Operators.kind_of Rattle.wasm_operators.specs.Table.structure_rows Rattle.wasm_operators.specs.Table.call_rows Rattle.wasm_operators.specs.Table.plain_rows Rattle.wasm_operators.specs.Table.fb_rows Rattle.wasm_operators.specs.Table.fc_rows Rattle.wasm_operators.specs.Table.fd_rows Rattle.wasm_operators.specs.Table.fe_rows Rattle.wasm_operators.specs.Readings.below_at Rattle.wasm_operators.specs.Readings.zero_at Rattle.wasm_operators.specs.Readings.empty_at Rattle.wasm_operators.specs.Readings.type_index_at Rattle.wasm_operators.specs.Readings.block_at Rattle.wasm_operators.specs.Readings.memory_at Rattle.wasm_operators.specs.Readings.access_at Rattle.wasm_operators.specs.Readings.clause_at Rattle.wasm_operators.specs.Readings.item_at Rattle.wasm_operators.specs.Readings.items_at
sharing_hold = refl

legacy_hold : AreRefused without_legacy legacy
unfolding Rattle.std.specs.Str.is_utf8 Rattle.std.specs.Str.chars lib.Utf8.encode Rattle.wasm_reader.specs.Numbers.number_at Rattle.wasm_reader.specs.Reading.little_at Rattle.wasm_reader.specs.Text.size_at Rattle.wasm_reader.specs.Text.text_at Rattle.wasm_reader.specs.Text.string_at Rattle.wasm_reader.specs.Text.sized_bytes_at Rattle.wasm_reader.specs.Items.items_at Rattle.wasm_reader.specs.Items.vec_at Rattle.wasm_ref_types.specs.ReadTypes.abstract_at Rattle.wasm_ref_types.specs.ReadTypes.shared_at Rattle.wasm_ref_types.specs.ReadTypes.index_at Rattle.wasm_ref_types.specs.ReadTypes.heap_at Rattle.wasm_ref_types.specs.ReadTypes.long_at Rattle.wasm_ref_types.specs.ReadTypes.reference_at Rattle.wasm_ref_types.specs.ReadTypes.plain_at Rattle.wasm_ref_types.specs.ReadTypes.value_at Rattle.wasm_composite_types.specs.Readings.storage_at Rattle.wasm_composite_types.specs.Readings.mutable_at Rattle.wasm_composite_types.specs.Readings.field_at Rattle.wasm_composite_types.specs.Readings.func_at Rattle.wasm_composite_types.specs.Readings.array_at Rattle.wasm_composite_types.specs.Readings.struct_at Rattle.wasm_composite_types.specs.Readings.form_after Rattle.wasm_composite_types.specs.Readings.form_at Rattle.wasm_composite_types.specs.Readings.composite_after Rattle.wasm_composite_types.specs.Readings.composite_at Rattle.wasm_types.specs.Readings.index_at Rattle.wasm_types.specs.Readings.supertype_at Rattle.wasm_types.specs.Readings.declared_at Rattle.wasm_types.specs.Readings.sub_after Rattle.wasm_types.specs.Readings.sub_at Rattle.wasm_operators.specs.Operators.operator_at Rattle.wasm_operators.specs.Operators.code_at Rattle.wasm_operators.specs.Operators.kind_of Rattle.wasm_operators.specs.Table.structure_rows Rattle.wasm_operators.specs.Table.call_rows Rattle.wasm_operators.specs.Table.plain_rows Rattle.wasm_operators.specs.Table.fb_rows Rattle.wasm_operators.specs.Table.fc_rows Rattle.wasm_operators.specs.Table.fd_rows Rattle.wasm_operators.specs.Table.fe_rows Rattle.wasm_operators.specs.Readings.below_at Rattle.wasm_operators.specs.Readings.zero_at Rattle.wasm_operators.specs.Readings.empty_at Rattle.wasm_operators.specs.Readings.type_index_at Rattle.wasm_operators.specs.Readings.block_at Rattle.wasm_operators.specs.Readings.memory_at Rattle.wasm_operators.specs.Readings.access_at Rattle.wasm_operators.specs.Readings.clause_at Rattle.wasm_operators.specs.Readings.item_at Rattle.wasm_operators.specs.Readings.items_at
legacy_hold = refl

fronts_hold : AreRefused usual fronts
unfolding Rattle.std.specs.Str.is_utf8 Rattle.std.specs.Str.chars lib.Utf8.encode Rattle.wasm_reader.specs.Numbers.number_at Rattle.wasm_reader.specs.Reading.little_at Rattle.wasm_reader.specs.Text.size_at Rattle.wasm_reader.specs.Text.text_at Rattle.wasm_reader.specs.Text.string_at Rattle.wasm_reader.specs.Text.sized_bytes_at Rattle.wasm_reader.specs.Items.items_at Rattle.wasm_reader.specs.Items.vec_at Rattle.wasm_ref_types.specs.ReadTypes.abstract_at Rattle.wasm_ref_types.specs.ReadTypes.shared_at Rattle.wasm_ref_types.specs.ReadTypes.index_at Rattle.wasm_ref_types.specs.ReadTypes.heap_at Rattle.wasm_ref_types.specs.ReadTypes.long_at Rattle.wasm_ref_types.specs.ReadTypes.reference_at Rattle.wasm_ref_types.specs.ReadTypes.plain_at Rattle.wasm_ref_types.specs.ReadTypes.value_at Rattle.wasm_composite_types.specs.Readings.storage_at Rattle.wasm_composite_types.specs.Readings.mutable_at Rattle.wasm_composite_types.specs.Readings.field_at Rattle.wasm_composite_types.specs.Readings.func_at Rattle.wasm_composite_types.specs.Readings.array_at Rattle.wasm_composite_types.specs.Readings.struct_at Rattle.wasm_composite_types.specs.Readings.form_after Rattle.wasm_composite_types.specs.Readings.form_at Rattle.wasm_composite_types.specs.Readings.composite_after Rattle.wasm_composite_types.specs.Readings.composite_at Rattle.wasm_types.specs.Readings.index_at Rattle.wasm_types.specs.Readings.supertype_at Rattle.wasm_types.specs.Readings.declared_at Rattle.wasm_types.specs.Readings.sub_after Rattle.wasm_types.specs.Readings.sub_at Rattle.wasm_operators.specs.Operators.operator_at Rattle.wasm_operators.specs.Operators.code_at Rattle.wasm_operators.specs.Operators.kind_of Rattle.wasm_operators.specs.Table.structure_rows Rattle.wasm_operators.specs.Table.call_rows Rattle.wasm_operators.specs.Table.plain_rows Rattle.wasm_operators.specs.Table.fb_rows Rattle.wasm_operators.specs.Table.fc_rows Rattle.wasm_operators.specs.Table.fd_rows Rattle.wasm_operators.specs.Table.fe_rows Rattle.wasm_operators.specs.Readings.below_at Rattle.wasm_operators.specs.Readings.zero_at Rattle.wasm_operators.specs.Readings.empty_at Rattle.wasm_operators.specs.Readings.type_index_at Rattle.wasm_operators.specs.Readings.block_at Rattle.wasm_operators.specs.Readings.memory_at Rattle.wasm_operators.specs.Readings.access_at Rattle.wasm_operators.specs.Readings.clause_at Rattle.wasm_operators.specs.Readings.item_at Rattle.wasm_operators.specs.Readings.items_at
fronts_hold = refl

types_hold : AreRefused usual types
unfolding Rattle.std.specs.Str.is_utf8 Rattle.std.specs.Str.chars lib.Utf8.encode Rattle.wasm_reader.specs.Numbers.number_at Rattle.wasm_reader.specs.Reading.little_at Rattle.wasm_reader.specs.Text.size_at Rattle.wasm_reader.specs.Text.text_at Rattle.wasm_reader.specs.Text.string_at Rattle.wasm_reader.specs.Text.sized_bytes_at Rattle.wasm_reader.specs.Items.items_at Rattle.wasm_reader.specs.Items.vec_at Rattle.wasm_ref_types.specs.ReadTypes.abstract_at Rattle.wasm_ref_types.specs.ReadTypes.shared_at Rattle.wasm_ref_types.specs.ReadTypes.index_at Rattle.wasm_ref_types.specs.ReadTypes.heap_at Rattle.wasm_ref_types.specs.ReadTypes.long_at Rattle.wasm_ref_types.specs.ReadTypes.reference_at Rattle.wasm_ref_types.specs.ReadTypes.plain_at Rattle.wasm_ref_types.specs.ReadTypes.value_at Rattle.wasm_composite_types.specs.Readings.storage_at Rattle.wasm_composite_types.specs.Readings.mutable_at Rattle.wasm_composite_types.specs.Readings.field_at Rattle.wasm_composite_types.specs.Readings.func_at Rattle.wasm_composite_types.specs.Readings.array_at Rattle.wasm_composite_types.specs.Readings.struct_at Rattle.wasm_composite_types.specs.Readings.form_after Rattle.wasm_composite_types.specs.Readings.form_at Rattle.wasm_composite_types.specs.Readings.composite_after Rattle.wasm_composite_types.specs.Readings.composite_at Rattle.wasm_types.specs.Readings.index_at Rattle.wasm_types.specs.Readings.supertype_at Rattle.wasm_types.specs.Readings.declared_at Rattle.wasm_types.specs.Readings.sub_after Rattle.wasm_types.specs.Readings.sub_at Rattle.wasm_operators.specs.Operators.operator_at Rattle.wasm_operators.specs.Operators.code_at Rattle.wasm_operators.specs.Operators.kind_of Rattle.wasm_operators.specs.Table.structure_rows Rattle.wasm_operators.specs.Table.call_rows Rattle.wasm_operators.specs.Table.plain_rows Rattle.wasm_operators.specs.Table.fb_rows Rattle.wasm_operators.specs.Table.fc_rows Rattle.wasm_operators.specs.Table.fd_rows Rattle.wasm_operators.specs.Table.fe_rows Rattle.wasm_operators.specs.Readings.below_at Rattle.wasm_operators.specs.Readings.zero_at Rattle.wasm_operators.specs.Readings.empty_at Rattle.wasm_operators.specs.Readings.type_index_at Rattle.wasm_operators.specs.Readings.block_at Rattle.wasm_operators.specs.Readings.memory_at Rattle.wasm_operators.specs.Readings.access_at Rattle.wasm_operators.specs.Readings.clause_at Rattle.wasm_operators.specs.Readings.item_at Rattle.wasm_operators.specs.Readings.items_at
types_hold = refl

entries_hold : AreRefused usual entries
unfolding Rattle.std.specs.Str.is_utf8 Rattle.std.specs.Str.chars lib.Utf8.encode Rattle.wasm_reader.specs.Numbers.number_at Rattle.wasm_reader.specs.Reading.little_at Rattle.wasm_reader.specs.Text.size_at Rattle.wasm_reader.specs.Text.text_at Rattle.wasm_reader.specs.Text.string_at Rattle.wasm_reader.specs.Text.sized_bytes_at Rattle.wasm_reader.specs.Items.items_at Rattle.wasm_reader.specs.Items.vec_at Rattle.wasm_ref_types.specs.ReadTypes.abstract_at Rattle.wasm_ref_types.specs.ReadTypes.shared_at Rattle.wasm_ref_types.specs.ReadTypes.index_at Rattle.wasm_ref_types.specs.ReadTypes.heap_at Rattle.wasm_ref_types.specs.ReadTypes.long_at Rattle.wasm_ref_types.specs.ReadTypes.reference_at Rattle.wasm_ref_types.specs.ReadTypes.plain_at Rattle.wasm_ref_types.specs.ReadTypes.value_at Rattle.wasm_composite_types.specs.Readings.storage_at Rattle.wasm_composite_types.specs.Readings.mutable_at Rattle.wasm_composite_types.specs.Readings.field_at Rattle.wasm_composite_types.specs.Readings.func_at Rattle.wasm_composite_types.specs.Readings.array_at Rattle.wasm_composite_types.specs.Readings.struct_at Rattle.wasm_composite_types.specs.Readings.form_after Rattle.wasm_composite_types.specs.Readings.form_at Rattle.wasm_composite_types.specs.Readings.composite_after Rattle.wasm_composite_types.specs.Readings.composite_at Rattle.wasm_types.specs.Readings.index_at Rattle.wasm_types.specs.Readings.supertype_at Rattle.wasm_types.specs.Readings.declared_at Rattle.wasm_types.specs.Readings.sub_after Rattle.wasm_types.specs.Readings.sub_at Rattle.wasm_operators.specs.Operators.operator_at Rattle.wasm_operators.specs.Operators.code_at Rattle.wasm_operators.specs.Operators.kind_of Rattle.wasm_operators.specs.Table.structure_rows Rattle.wasm_operators.specs.Table.call_rows Rattle.wasm_operators.specs.Table.plain_rows Rattle.wasm_operators.specs.Table.fb_rows Rattle.wasm_operators.specs.Table.fc_rows Rattle.wasm_operators.specs.Table.fd_rows Rattle.wasm_operators.specs.Table.fe_rows Rattle.wasm_operators.specs.Readings.below_at Rattle.wasm_operators.specs.Readings.zero_at Rattle.wasm_operators.specs.Readings.empty_at Rattle.wasm_operators.specs.Readings.type_index_at Rattle.wasm_operators.specs.Readings.block_at Rattle.wasm_operators.specs.Readings.memory_at Rattle.wasm_operators.specs.Readings.access_at Rattle.wasm_operators.specs.Readings.clause_at Rattle.wasm_operators.specs.Readings.item_at Rattle.wasm_operators.specs.Readings.items_at
entries_hold = refl

tables_hold : AreRefused usual tables
unfolding Rattle.std.specs.Str.is_utf8 Rattle.std.specs.Str.chars lib.Utf8.encode Rattle.wasm_reader.specs.Numbers.number_at Rattle.wasm_reader.specs.Reading.little_at Rattle.wasm_reader.specs.Text.size_at Rattle.wasm_reader.specs.Text.text_at Rattle.wasm_reader.specs.Text.string_at Rattle.wasm_reader.specs.Text.sized_bytes_at Rattle.wasm_reader.specs.Items.items_at Rattle.wasm_reader.specs.Items.vec_at Rattle.wasm_ref_types.specs.ReadTypes.abstract_at Rattle.wasm_ref_types.specs.ReadTypes.shared_at Rattle.wasm_ref_types.specs.ReadTypes.index_at Rattle.wasm_ref_types.specs.ReadTypes.heap_at Rattle.wasm_ref_types.specs.ReadTypes.long_at Rattle.wasm_ref_types.specs.ReadTypes.reference_at Rattle.wasm_ref_types.specs.ReadTypes.plain_at Rattle.wasm_ref_types.specs.ReadTypes.value_at Rattle.wasm_composite_types.specs.Readings.storage_at Rattle.wasm_composite_types.specs.Readings.mutable_at Rattle.wasm_composite_types.specs.Readings.field_at Rattle.wasm_composite_types.specs.Readings.func_at Rattle.wasm_composite_types.specs.Readings.array_at Rattle.wasm_composite_types.specs.Readings.struct_at Rattle.wasm_composite_types.specs.Readings.form_after Rattle.wasm_composite_types.specs.Readings.form_at Rattle.wasm_composite_types.specs.Readings.composite_after Rattle.wasm_composite_types.specs.Readings.composite_at Rattle.wasm_types.specs.Readings.index_at Rattle.wasm_types.specs.Readings.supertype_at Rattle.wasm_types.specs.Readings.declared_at Rattle.wasm_types.specs.Readings.sub_after Rattle.wasm_types.specs.Readings.sub_at Rattle.wasm_operators.specs.Operators.operator_at Rattle.wasm_operators.specs.Operators.code_at Rattle.wasm_operators.specs.Operators.kind_of Rattle.wasm_operators.specs.Table.structure_rows Rattle.wasm_operators.specs.Table.call_rows Rattle.wasm_operators.specs.Table.plain_rows Rattle.wasm_operators.specs.Table.fb_rows Rattle.wasm_operators.specs.Table.fc_rows Rattle.wasm_operators.specs.Table.fd_rows Rattle.wasm_operators.specs.Table.fe_rows Rattle.wasm_operators.specs.Readings.below_at Rattle.wasm_operators.specs.Readings.zero_at Rattle.wasm_operators.specs.Readings.empty_at Rattle.wasm_operators.specs.Readings.type_index_at Rattle.wasm_operators.specs.Readings.block_at Rattle.wasm_operators.specs.Readings.memory_at Rattle.wasm_operators.specs.Readings.access_at Rattle.wasm_operators.specs.Readings.clause_at Rattle.wasm_operators.specs.Readings.item_at Rattle.wasm_operators.specs.Readings.items_at
tables_hold = refl

constants_hold : AreRefused usual constants
unfolding Rattle.std.specs.Str.is_utf8 Rattle.std.specs.Str.chars lib.Utf8.encode Rattle.wasm_reader.specs.Numbers.number_at Rattle.wasm_reader.specs.Reading.little_at Rattle.wasm_reader.specs.Text.size_at Rattle.wasm_reader.specs.Text.text_at Rattle.wasm_reader.specs.Text.string_at Rattle.wasm_reader.specs.Text.sized_bytes_at Rattle.wasm_reader.specs.Items.items_at Rattle.wasm_reader.specs.Items.vec_at Rattle.wasm_ref_types.specs.ReadTypes.abstract_at Rattle.wasm_ref_types.specs.ReadTypes.shared_at Rattle.wasm_ref_types.specs.ReadTypes.index_at Rattle.wasm_ref_types.specs.ReadTypes.heap_at Rattle.wasm_ref_types.specs.ReadTypes.long_at Rattle.wasm_ref_types.specs.ReadTypes.reference_at Rattle.wasm_ref_types.specs.ReadTypes.plain_at Rattle.wasm_ref_types.specs.ReadTypes.value_at Rattle.wasm_composite_types.specs.Readings.storage_at Rattle.wasm_composite_types.specs.Readings.mutable_at Rattle.wasm_composite_types.specs.Readings.field_at Rattle.wasm_composite_types.specs.Readings.func_at Rattle.wasm_composite_types.specs.Readings.array_at Rattle.wasm_composite_types.specs.Readings.struct_at Rattle.wasm_composite_types.specs.Readings.form_after Rattle.wasm_composite_types.specs.Readings.form_at Rattle.wasm_composite_types.specs.Readings.composite_after Rattle.wasm_composite_types.specs.Readings.composite_at Rattle.wasm_types.specs.Readings.index_at Rattle.wasm_types.specs.Readings.supertype_at Rattle.wasm_types.specs.Readings.declared_at Rattle.wasm_types.specs.Readings.sub_after Rattle.wasm_types.specs.Readings.sub_at Rattle.wasm_operators.specs.Operators.operator_at Rattle.wasm_operators.specs.Operators.code_at Rattle.wasm_operators.specs.Operators.kind_of Rattle.wasm_operators.specs.Table.structure_rows Rattle.wasm_operators.specs.Table.call_rows Rattle.wasm_operators.specs.Table.plain_rows Rattle.wasm_operators.specs.Table.fb_rows Rattle.wasm_operators.specs.Table.fc_rows Rattle.wasm_operators.specs.Table.fd_rows Rattle.wasm_operators.specs.Table.fe_rows Rattle.wasm_operators.specs.Readings.below_at Rattle.wasm_operators.specs.Readings.zero_at Rattle.wasm_operators.specs.Readings.empty_at Rattle.wasm_operators.specs.Readings.type_index_at Rattle.wasm_operators.specs.Readings.block_at Rattle.wasm_operators.specs.Readings.memory_at Rattle.wasm_operators.specs.Readings.access_at Rattle.wasm_operators.specs.Readings.clause_at Rattle.wasm_operators.specs.Readings.item_at Rattle.wasm_operators.specs.Readings.items_at
constants_hold = refl

segments_hold : AreRefused usual segments
unfolding Rattle.std.specs.Str.is_utf8 Rattle.std.specs.Str.chars lib.Utf8.encode Rattle.wasm_reader.specs.Numbers.number_at Rattle.wasm_reader.specs.Reading.little_at Rattle.wasm_reader.specs.Text.size_at Rattle.wasm_reader.specs.Text.text_at Rattle.wasm_reader.specs.Text.string_at Rattle.wasm_reader.specs.Text.sized_bytes_at Rattle.wasm_reader.specs.Items.items_at Rattle.wasm_reader.specs.Items.vec_at Rattle.wasm_ref_types.specs.ReadTypes.abstract_at Rattle.wasm_ref_types.specs.ReadTypes.shared_at Rattle.wasm_ref_types.specs.ReadTypes.index_at Rattle.wasm_ref_types.specs.ReadTypes.heap_at Rattle.wasm_ref_types.specs.ReadTypes.long_at Rattle.wasm_ref_types.specs.ReadTypes.reference_at Rattle.wasm_ref_types.specs.ReadTypes.plain_at Rattle.wasm_ref_types.specs.ReadTypes.value_at Rattle.wasm_composite_types.specs.Readings.storage_at Rattle.wasm_composite_types.specs.Readings.mutable_at Rattle.wasm_composite_types.specs.Readings.field_at Rattle.wasm_composite_types.specs.Readings.func_at Rattle.wasm_composite_types.specs.Readings.array_at Rattle.wasm_composite_types.specs.Readings.struct_at Rattle.wasm_composite_types.specs.Readings.form_after Rattle.wasm_composite_types.specs.Readings.form_at Rattle.wasm_composite_types.specs.Readings.composite_after Rattle.wasm_composite_types.specs.Readings.composite_at Rattle.wasm_types.specs.Readings.index_at Rattle.wasm_types.specs.Readings.supertype_at Rattle.wasm_types.specs.Readings.declared_at Rattle.wasm_types.specs.Readings.sub_after Rattle.wasm_types.specs.Readings.sub_at Rattle.wasm_operators.specs.Operators.operator_at Rattle.wasm_operators.specs.Operators.code_at Rattle.wasm_operators.specs.Operators.kind_of Rattle.wasm_operators.specs.Table.structure_rows Rattle.wasm_operators.specs.Table.call_rows Rattle.wasm_operators.specs.Table.plain_rows Rattle.wasm_operators.specs.Table.fb_rows Rattle.wasm_operators.specs.Table.fc_rows Rattle.wasm_operators.specs.Table.fd_rows Rattle.wasm_operators.specs.Table.fe_rows Rattle.wasm_operators.specs.Readings.below_at Rattle.wasm_operators.specs.Readings.zero_at Rattle.wasm_operators.specs.Readings.empty_at Rattle.wasm_operators.specs.Readings.type_index_at Rattle.wasm_operators.specs.Readings.block_at Rattle.wasm_operators.specs.Readings.memory_at Rattle.wasm_operators.specs.Readings.access_at Rattle.wasm_operators.specs.Readings.clause_at Rattle.wasm_operators.specs.Readings.item_at Rattle.wasm_operators.specs.Readings.items_at
segments_hold = refl

frames_hold : AreRefused usual frames
unfolding Rattle.std.specs.Str.is_utf8 Rattle.std.specs.Str.chars lib.Utf8.encode Rattle.wasm_reader.specs.Numbers.number_at Rattle.wasm_reader.specs.Reading.little_at Rattle.wasm_reader.specs.Text.size_at Rattle.wasm_reader.specs.Text.text_at Rattle.wasm_reader.specs.Text.string_at Rattle.wasm_reader.specs.Text.sized_bytes_at Rattle.wasm_reader.specs.Items.items_at Rattle.wasm_reader.specs.Items.vec_at Rattle.wasm_ref_types.specs.ReadTypes.abstract_at Rattle.wasm_ref_types.specs.ReadTypes.shared_at Rattle.wasm_ref_types.specs.ReadTypes.index_at Rattle.wasm_ref_types.specs.ReadTypes.heap_at Rattle.wasm_ref_types.specs.ReadTypes.long_at Rattle.wasm_ref_types.specs.ReadTypes.reference_at Rattle.wasm_ref_types.specs.ReadTypes.plain_at Rattle.wasm_ref_types.specs.ReadTypes.value_at Rattle.wasm_composite_types.specs.Readings.storage_at Rattle.wasm_composite_types.specs.Readings.mutable_at Rattle.wasm_composite_types.specs.Readings.field_at Rattle.wasm_composite_types.specs.Readings.func_at Rattle.wasm_composite_types.specs.Readings.array_at Rattle.wasm_composite_types.specs.Readings.struct_at Rattle.wasm_composite_types.specs.Readings.form_after Rattle.wasm_composite_types.specs.Readings.form_at Rattle.wasm_composite_types.specs.Readings.composite_after Rattle.wasm_composite_types.specs.Readings.composite_at Rattle.wasm_types.specs.Readings.index_at Rattle.wasm_types.specs.Readings.supertype_at Rattle.wasm_types.specs.Readings.declared_at Rattle.wasm_types.specs.Readings.sub_after Rattle.wasm_types.specs.Readings.sub_at Rattle.wasm_operators.specs.Operators.operator_at Rattle.wasm_operators.specs.Operators.code_at Rattle.wasm_operators.specs.Operators.kind_of Rattle.wasm_operators.specs.Table.structure_rows Rattle.wasm_operators.specs.Table.call_rows Rattle.wasm_operators.specs.Table.plain_rows Rattle.wasm_operators.specs.Table.fb_rows Rattle.wasm_operators.specs.Table.fc_rows Rattle.wasm_operators.specs.Table.fd_rows Rattle.wasm_operators.specs.Table.fe_rows Rattle.wasm_operators.specs.Readings.below_at Rattle.wasm_operators.specs.Readings.zero_at Rattle.wasm_operators.specs.Readings.empty_at Rattle.wasm_operators.specs.Readings.type_index_at Rattle.wasm_operators.specs.Readings.block_at Rattle.wasm_operators.specs.Readings.memory_at Rattle.wasm_operators.specs.Readings.access_at Rattle.wasm_operators.specs.Readings.clause_at Rattle.wasm_operators.specs.Readings.item_at Rattle.wasm_operators.specs.Readings.items_at
frames_hold = refl

limits_hold : AreRefused usual past_limits
unfolding Rattle.std.specs.Str.is_utf8 Rattle.std.specs.Str.chars lib.Utf8.encode Rattle.wasm_reader.specs.Numbers.number_at Rattle.wasm_reader.specs.Reading.little_at Rattle.wasm_reader.specs.Text.size_at Rattle.wasm_reader.specs.Text.text_at Rattle.wasm_reader.specs.Text.string_at Rattle.wasm_reader.specs.Text.sized_bytes_at Rattle.wasm_reader.specs.Items.items_at Rattle.wasm_reader.specs.Items.vec_at Rattle.wasm_ref_types.specs.ReadTypes.abstract_at Rattle.wasm_ref_types.specs.ReadTypes.shared_at Rattle.wasm_ref_types.specs.ReadTypes.index_at Rattle.wasm_ref_types.specs.ReadTypes.heap_at Rattle.wasm_ref_types.specs.ReadTypes.long_at Rattle.wasm_ref_types.specs.ReadTypes.reference_at Rattle.wasm_ref_types.specs.ReadTypes.plain_at Rattle.wasm_ref_types.specs.ReadTypes.value_at Rattle.wasm_composite_types.specs.Readings.storage_at Rattle.wasm_composite_types.specs.Readings.mutable_at Rattle.wasm_composite_types.specs.Readings.field_at Rattle.wasm_composite_types.specs.Readings.func_at Rattle.wasm_composite_types.specs.Readings.array_at Rattle.wasm_composite_types.specs.Readings.struct_at Rattle.wasm_composite_types.specs.Readings.form_after Rattle.wasm_composite_types.specs.Readings.form_at Rattle.wasm_composite_types.specs.Readings.composite_after Rattle.wasm_composite_types.specs.Readings.composite_at Rattle.wasm_types.specs.Readings.index_at Rattle.wasm_types.specs.Readings.supertype_at Rattle.wasm_types.specs.Readings.declared_at Rattle.wasm_types.specs.Readings.sub_after Rattle.wasm_types.specs.Readings.sub_at Rattle.wasm_operators.specs.Operators.operator_at Rattle.wasm_operators.specs.Operators.code_at Rattle.wasm_operators.specs.Operators.kind_of Rattle.wasm_operators.specs.Table.structure_rows Rattle.wasm_operators.specs.Table.call_rows Rattle.wasm_operators.specs.Table.plain_rows Rattle.wasm_operators.specs.Table.fb_rows Rattle.wasm_operators.specs.Table.fc_rows Rattle.wasm_operators.specs.Table.fd_rows Rattle.wasm_operators.specs.Table.fe_rows Rattle.wasm_operators.specs.Readings.below_at Rattle.wasm_operators.specs.Readings.zero_at Rattle.wasm_operators.specs.Readings.empty_at Rattle.wasm_operators.specs.Readings.type_index_at Rattle.wasm_operators.specs.Readings.block_at Rattle.wasm_operators.specs.Readings.memory_at Rattle.wasm_operators.specs.Readings.access_at Rattle.wasm_operators.specs.Readings.clause_at Rattle.wasm_operators.specs.Readings.item_at Rattle.wasm_operators.specs.Readings.items_at
limits_hold = refl

pub files_read : FilesRead
files_read = record { of_each = modules_hold; of_all = all_hold; of_forms = forms_hold; of_shared = shared_hold }

pub files_stop : FilesStop
files_stop = record { of_each = stopped_hold; of_hostile = hostile_hold; of_unshared = unshared_hold; of_sharing = sharing_hold; of_legacy = legacy_hold; of_fronts = fronts_hold }

pub faults_stop : FaultsStop
faults_stop = record { of_types = types_hold; of_entries = entries_hold; of_tables = tables_hold; of_constants = constants_hold; of_segments = segments_hold; of_frames = frames_hold; of_limits = limits_hold }
