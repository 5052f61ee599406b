-- Worked files, computed.
use Rattle.std.specs.Prelude.{true, false, refl, [], ◌∷◌}
use Rattle.wasm_rewritten_rows.specs.Rows.{FilesAreWritten, HasCustoms, IsWritten, one_plan, none_plan, local_name, local_name_out, name_of_none, name_of_none_out, names_in_front, names_in_front_out, nothing, nothing_out, made_by, made_by_out, other_sections, other_sections_out, bare_if, bare_if_out, bare_if_plan, behind_return, behind_return_out, behind_return_plan, behind_tail_call, behind_tail_call_out, behind_tail_call_plan, declared_function, declared_function_out, declared_function_plan, handler_type, handler_type_out, handler_type_plan, larger_first, larger_first_out, larger_first_plan, marked_group, marked_group_out, marked_group_plan, merged_types, merged_types_out, merged_types_plan, unused_function, unused_function_out, unused_function_plan, used_local, used_local_out, used_local_plan}

unused_function_holds : IsWritten unused_function_plan unused_function unused_function_out ((7, 3) ∷ [])
unfolding Rattle.std.specs.Str.is_utf8 Rattle.std.specs.Str.chars lib.Utf8.encode Rattle.wasm_reader.specs.Numbers.number_at Rattle.wasm_reader.specs.Reading.little_at Rattle.wasm_reader.specs.Text.size_at Rattle.wasm_reader.specs.Text.text_at Rattle.wasm_reader.specs.Text.string_at Rattle.wasm_reader.specs.Text.sized_bytes_at Rattle.wasm_reader.specs.Items.items_at Rattle.wasm_reader.specs.Items.vec_at Rattle.wasm_ref_types.specs.ReadTypes.abstract_at Rattle.wasm_ref_types.specs.ReadTypes.shared_at Rattle.wasm_ref_types.specs.ReadTypes.index_at Rattle.wasm_ref_types.specs.ReadTypes.heap_at Rattle.wasm_ref_types.specs.ReadTypes.long_at Rattle.wasm_ref_types.specs.ReadTypes.reference_at Rattle.wasm_ref_types.specs.ReadTypes.plain_at Rattle.wasm_ref_types.specs.ReadTypes.value_at Rattle.wasm_composite_types.specs.Readings.storage_at Rattle.wasm_composite_types.specs.Readings.mutable_at Rattle.wasm_composite_types.specs.Readings.field_at Rattle.wasm_composite_types.specs.Readings.func_at Rattle.wasm_composite_types.specs.Readings.array_at Rattle.wasm_composite_types.specs.Readings.struct_at Rattle.wasm_composite_types.specs.Readings.form_after Rattle.wasm_composite_types.specs.Readings.form_at Rattle.wasm_composite_types.specs.Readings.composite_after Rattle.wasm_composite_types.specs.Readings.composite_at Rattle.wasm_types.specs.Readings.index_at Rattle.wasm_types.specs.Readings.supertype_at Rattle.wasm_types.specs.Readings.declared_at Rattle.wasm_types.specs.Readings.sub_after Rattle.wasm_types.specs.Readings.sub_at Rattle.wasm_operators.specs.Operators.operator_at Rattle.wasm_operators.specs.Operators.code_at Rattle.wasm_operators.specs.Operators.kind_of Rattle.wasm_operators.specs.Table.structure_rows Rattle.wasm_operators.specs.Table.call_rows Rattle.wasm_operators.specs.Table.plain_rows Rattle.wasm_operators.specs.Table.fb_rows Rattle.wasm_operators.specs.Table.fc_rows Rattle.wasm_operators.specs.Table.fd_rows Rattle.wasm_operators.specs.Table.fe_rows Rattle.wasm_operators.specs.Readings.below_at Rattle.wasm_operators.specs.Readings.zero_at Rattle.wasm_operators.specs.Readings.empty_at Rattle.wasm_operators.specs.Readings.type_index_at Rattle.wasm_operators.specs.Readings.block_at Rattle.wasm_operators.specs.Readings.memory_at Rattle.wasm_operators.specs.Readings.access_at Rattle.wasm_operators.specs.Readings.clause_at Rattle.wasm_operators.specs.Readings.item_at Rattle.wasm_operators.specs.Readings.items_at Rattle.wasm_reader.specs.Shortest.shortest_unsigned Rattle.wasm_reader.specs.Shortest.shortest_signed
unused_function_holds = (refl, refl)

larger_first_holds : IsWritten larger_first_plan larger_first larger_first_out ((8, 3) ∷ (10, 5) ∷ (11, 6) ∷ (3, 9) ∷ (5, 11) ∷ [])
unfolding Rattle.std.specs.Str.is_utf8 Rattle.std.specs.Str.chars lib.Utf8.encode Rattle.wasm_reader.specs.Numbers.number_at Rattle.wasm_reader.specs.Reading.little_at Rattle.wasm_reader.specs.Text.size_at Rattle.wasm_reader.specs.Text.text_at Rattle.wasm_reader.specs.Text.string_at Rattle.wasm_reader.specs.Text.sized_bytes_at Rattle.wasm_reader.specs.Items.items_at Rattle.wasm_reader.specs.Items.vec_at Rattle.wasm_ref_types.specs.ReadTypes.abstract_at Rattle.wasm_ref_types.specs.ReadTypes.shared_at Rattle.wasm_ref_types.specs.ReadTypes.index_at Rattle.wasm_ref_types.specs.ReadTypes.heap_at Rattle.wasm_ref_types.specs.ReadTypes.long_at Rattle.wasm_ref_types.specs.ReadTypes.reference_at Rattle.wasm_ref_types.specs.ReadTypes.plain_at Rattle.wasm_ref_types.specs.ReadTypes.value_at Rattle.wasm_composite_types.specs.Readings.storage_at Rattle.wasm_composite_types.specs.Readings.mutable_at Rattle.wasm_composite_types.specs.Readings.field_at Rattle.wasm_composite_types.specs.Readings.func_at Rattle.wasm_composite_types.specs.Readings.array_at Rattle.wasm_composite_types.specs.Readings.struct_at Rattle.wasm_composite_types.specs.Readings.form_after Rattle.wasm_composite_types.specs.Readings.form_at Rattle.wasm_composite_types.specs.Readings.composite_after Rattle.wasm_composite_types.specs.Readings.composite_at Rattle.wasm_types.specs.Readings.index_at Rattle.wasm_types.specs.Readings.supertype_at Rattle.wasm_types.specs.Readings.declared_at Rattle.wasm_types.specs.Readings.sub_after Rattle.wasm_types.specs.Readings.sub_at Rattle.wasm_operators.specs.Operators.operator_at Rattle.wasm_operators.specs.Operators.code_at Rattle.wasm_operators.specs.Operators.kind_of Rattle.wasm_operators.specs.Table.structure_rows Rattle.wasm_operators.specs.Table.call_rows Rattle.wasm_operators.specs.Table.plain_rows Rattle.wasm_operators.specs.Table.fb_rows Rattle.wasm_operators.specs.Table.fc_rows Rattle.wasm_operators.specs.Table.fd_rows Rattle.wasm_operators.specs.Table.fe_rows Rattle.wasm_operators.specs.Readings.below_at Rattle.wasm_operators.specs.Readings.zero_at Rattle.wasm_operators.specs.Readings.empty_at Rattle.wasm_operators.specs.Readings.type_index_at Rattle.wasm_operators.specs.Readings.block_at Rattle.wasm_operators.specs.Readings.memory_at Rattle.wasm_operators.specs.Readings.access_at Rattle.wasm_operators.specs.Readings.clause_at Rattle.wasm_operators.specs.Readings.item_at Rattle.wasm_operators.specs.Readings.items_at Rattle.wasm_reader.specs.Shortest.shortest_unsigned Rattle.wasm_reader.specs.Shortest.shortest_signed
larger_first_holds = (refl, refl)

merged_types_holds : IsWritten merged_types_plan merged_types merged_types_out ((3, 3) ∷ [])
unfolding Rattle.std.specs.Str.is_utf8 Rattle.std.specs.Str.chars lib.Utf8.encode Rattle.wasm_reader.specs.Numbers.number_at Rattle.wasm_reader.specs.Reading.little_at Rattle.wasm_reader.specs.Text.size_at Rattle.wasm_reader.specs.Text.text_at Rattle.wasm_reader.specs.Text.string_at Rattle.wasm_reader.specs.Text.sized_bytes_at Rattle.wasm_reader.specs.Items.items_at Rattle.wasm_reader.specs.Items.vec_at Rattle.wasm_ref_types.specs.ReadTypes.abstract_at Rattle.wasm_ref_types.specs.ReadTypes.shared_at Rattle.wasm_ref_types.specs.ReadTypes.index_at Rattle.wasm_ref_types.specs.ReadTypes.heap_at Rattle.wasm_ref_types.specs.ReadTypes.long_at Rattle.wasm_ref_types.specs.ReadTypes.reference_at Rattle.wasm_ref_types.specs.ReadTypes.plain_at Rattle.wasm_ref_types.specs.ReadTypes.value_at Rattle.wasm_composite_types.specs.Readings.storage_at Rattle.wasm_composite_types.specs.Readings.mutable_at Rattle.wasm_composite_types.specs.Readings.field_at Rattle.wasm_composite_types.specs.Readings.func_at Rattle.wasm_composite_types.specs.Readings.array_at Rattle.wasm_composite_types.specs.Readings.struct_at Rattle.wasm_composite_types.specs.Readings.form_after Rattle.wasm_composite_types.specs.Readings.form_at Rattle.wasm_composite_types.specs.Readings.composite_after Rattle.wasm_composite_types.specs.Readings.composite_at Rattle.wasm_types.specs.Readings.index_at Rattle.wasm_types.specs.Readings.supertype_at Rattle.wasm_types.specs.Readings.declared_at Rattle.wasm_types.specs.Readings.sub_after Rattle.wasm_types.specs.Readings.sub_at Rattle.wasm_operators.specs.Operators.operator_at Rattle.wasm_operators.specs.Operators.code_at Rattle.wasm_operators.specs.Operators.kind_of Rattle.wasm_operators.specs.Table.structure_rows Rattle.wasm_operators.specs.Table.call_rows Rattle.wasm_operators.specs.Table.plain_rows Rattle.wasm_operators.specs.Table.fb_rows Rattle.wasm_operators.specs.Table.fc_rows Rattle.wasm_operators.specs.Table.fd_rows Rattle.wasm_operators.specs.Table.fe_rows Rattle.wasm_operators.specs.Readings.below_at Rattle.wasm_operators.specs.Readings.zero_at Rattle.wasm_operators.specs.Readings.empty_at Rattle.wasm_operators.specs.Readings.type_index_at Rattle.wasm_operators.specs.Readings.block_at Rattle.wasm_operators.specs.Readings.memory_at Rattle.wasm_operators.specs.Readings.access_at Rattle.wasm_operators.specs.Readings.clause_at Rattle.wasm_operators.specs.Readings.item_at Rattle.wasm_operators.specs.Readings.items_at Rattle.wasm_reader.specs.Shortest.shortest_unsigned Rattle.wasm_reader.specs.Shortest.shortest_signed
merged_types_holds = (refl, refl)

marked_group_holds : IsWritten marked_group_plan marked_group marked_group_out ((3, 3) ∷ [])
unfolding Rattle.std.specs.Str.is_utf8 Rattle.std.specs.Str.chars lib.Utf8.encode Rattle.wasm_reader.specs.Numbers.number_at Rattle.wasm_reader.specs.Reading.little_at Rattle.wasm_reader.specs.Text.size_at Rattle.wasm_reader.specs.Text.text_at Rattle.wasm_reader.specs.Text.string_at Rattle.wasm_reader.specs.Text.sized_bytes_at Rattle.wasm_reader.specs.Items.items_at Rattle.wasm_reader.specs.Items.vec_at Rattle.wasm_ref_types.specs.ReadTypes.abstract_at Rattle.wasm_ref_types.specs.ReadTypes.shared_at Rattle.wasm_ref_types.specs.ReadTypes.index_at Rattle.wasm_ref_types.specs.ReadTypes.heap_at Rattle.wasm_ref_types.specs.ReadTypes.long_at Rattle.wasm_ref_types.specs.ReadTypes.reference_at Rattle.wasm_ref_types.specs.ReadTypes.plain_at Rattle.wasm_ref_types.specs.ReadTypes.value_at Rattle.wasm_composite_types.specs.Readings.storage_at Rattle.wasm_composite_types.specs.Readings.mutable_at Rattle.wasm_composite_types.specs.Readings.field_at Rattle.wasm_composite_types.specs.Readings.func_at Rattle.wasm_composite_types.specs.Readings.array_at Rattle.wasm_composite_types.specs.Readings.struct_at Rattle.wasm_composite_types.specs.Readings.form_after Rattle.wasm_composite_types.specs.Readings.form_at Rattle.wasm_composite_types.specs.Readings.composite_after Rattle.wasm_composite_types.specs.Readings.composite_at Rattle.wasm_types.specs.Readings.index_at Rattle.wasm_types.specs.Readings.supertype_at Rattle.wasm_types.specs.Readings.declared_at Rattle.wasm_types.specs.Readings.sub_after Rattle.wasm_types.specs.Readings.sub_at Rattle.wasm_operators.specs.Operators.operator_at Rattle.wasm_operators.specs.Operators.code_at Rattle.wasm_operators.specs.Operators.kind_of Rattle.wasm_operators.specs.Table.structure_rows Rattle.wasm_operators.specs.Table.call_rows Rattle.wasm_operators.specs.Table.plain_rows Rattle.wasm_operators.specs.Table.fb_rows Rattle.wasm_operators.specs.Table.fc_rows Rattle.wasm_operators.specs.Table.fd_rows Rattle.wasm_operators.specs.Table.fe_rows Rattle.wasm_operators.specs.Readings.below_at Rattle.wasm_operators.specs.Readings.zero_at Rattle.wasm_operators.specs.Readings.empty_at Rattle.wasm_operators.specs.Readings.type_index_at Rattle.wasm_operators.specs.Readings.block_at Rattle.wasm_operators.specs.Readings.memory_at Rattle.wasm_operators.specs.Readings.access_at Rattle.wasm_operators.specs.Readings.clause_at Rattle.wasm_operators.specs.Readings.item_at Rattle.wasm_operators.specs.Readings.items_at Rattle.wasm_reader.specs.Shortest.shortest_unsigned Rattle.wasm_reader.specs.Shortest.shortest_signed
marked_group_holds = (refl, refl)

bare_if_holds : IsWritten bare_if_plan bare_if bare_if_out ((3, 3) ∷ (5, 5) ∷ (7, 7) ∷ (8, 9) ∷ [])
unfolding Rattle.std.specs.Str.is_utf8 Rattle.std.specs.Str.chars lib.Utf8.encode Rattle.wasm_reader.specs.Numbers.number_at Rattle.wasm_reader.specs.Reading.little_at Rattle.wasm_reader.specs.Text.size_at Rattle.wasm_reader.specs.Text.text_at Rattle.wasm_reader.specs.Text.string_at Rattle.wasm_reader.specs.Text.sized_bytes_at Rattle.wasm_reader.specs.Items.items_at Rattle.wasm_reader.specs.Items.vec_at Rattle.wasm_ref_types.specs.ReadTypes.abstract_at Rattle.wasm_ref_types.specs.ReadTypes.shared_at Rattle.wasm_ref_types.specs.ReadTypes.index_at Rattle.wasm_ref_types.specs.ReadTypes.heap_at Rattle.wasm_ref_types.specs.ReadTypes.long_at Rattle.wasm_ref_types.specs.ReadTypes.reference_at Rattle.wasm_ref_types.specs.ReadTypes.plain_at Rattle.wasm_ref_types.specs.ReadTypes.value_at Rattle.wasm_composite_types.specs.Readings.storage_at Rattle.wasm_composite_types.specs.Readings.mutable_at Rattle.wasm_composite_types.specs.Readings.field_at Rattle.wasm_composite_types.specs.Readings.func_at Rattle.wasm_composite_types.specs.Readings.array_at Rattle.wasm_composite_types.specs.Readings.struct_at Rattle.wasm_composite_types.specs.Readings.form_after Rattle.wasm_composite_types.specs.Readings.form_at Rattle.wasm_composite_types.specs.Readings.composite_after Rattle.wasm_composite_types.specs.Readings.composite_at Rattle.wasm_types.specs.Readings.index_at Rattle.wasm_types.specs.Readings.supertype_at Rattle.wasm_types.specs.Readings.declared_at Rattle.wasm_types.specs.Readings.sub_after Rattle.wasm_types.specs.Readings.sub_at Rattle.wasm_operators.specs.Operators.operator_at Rattle.wasm_operators.specs.Operators.code_at Rattle.wasm_operators.specs.Operators.kind_of Rattle.wasm_operators.specs.Table.structure_rows Rattle.wasm_operators.specs.Table.call_rows Rattle.wasm_operators.specs.Table.plain_rows Rattle.wasm_operators.specs.Table.fb_rows Rattle.wasm_operators.specs.Table.fc_rows Rattle.wasm_operators.specs.Table.fd_rows Rattle.wasm_operators.specs.Table.fe_rows Rattle.wasm_operators.specs.Readings.below_at Rattle.wasm_operators.specs.Readings.zero_at Rattle.wasm_operators.specs.Readings.empty_at Rattle.wasm_operators.specs.Readings.type_index_at Rattle.wasm_operators.specs.Readings.block_at Rattle.wasm_operators.specs.Readings.memory_at Rattle.wasm_operators.specs.Readings.access_at Rattle.wasm_operators.specs.Readings.clause_at Rattle.wasm_operators.specs.Readings.item_at Rattle.wasm_operators.specs.Readings.items_at Rattle.wasm_reader.specs.Shortest.shortest_unsigned Rattle.wasm_reader.specs.Shortest.shortest_signed
bare_if_holds = (refl, refl)

used_local_holds : IsWritten used_local_plan used_local used_local_out ((7, 5) ∷ (9, 7) ∷ (10, 8) ∷ [])
unfolding Rattle.std.specs.Str.is_utf8 Rattle.std.specs.Str.chars lib.Utf8.encode Rattle.wasm_reader.specs.Numbers.number_at Rattle.wasm_reader.specs.Reading.little_at Rattle.wasm_reader.specs.Text.size_at Rattle.wasm_reader.specs.Text.text_at Rattle.wasm_reader.specs.Text.string_at Rattle.wasm_reader.specs.Text.sized_bytes_at Rattle.wasm_reader.specs.Items.items_at Rattle.wasm_reader.specs.Items.vec_at Rattle.wasm_ref_types.specs.ReadTypes.abstract_at Rattle.wasm_ref_types.specs.ReadTypes.shared_at Rattle.wasm_ref_types.specs.ReadTypes.index_at Rattle.wasm_ref_types.specs.ReadTypes.heap_at Rattle.wasm_ref_types.specs.ReadTypes.long_at Rattle.wasm_ref_types.specs.ReadTypes.reference_at Rattle.wasm_ref_types.specs.ReadTypes.plain_at Rattle.wasm_ref_types.specs.ReadTypes.value_at Rattle.wasm_composite_types.specs.Readings.storage_at Rattle.wasm_composite_types.specs.Readings.mutable_at Rattle.wasm_composite_types.specs.Readings.field_at Rattle.wasm_composite_types.specs.Readings.func_at Rattle.wasm_composite_types.specs.Readings.array_at Rattle.wasm_composite_types.specs.Readings.struct_at Rattle.wasm_composite_types.specs.Readings.form_after Rattle.wasm_composite_types.specs.Readings.form_at Rattle.wasm_composite_types.specs.Readings.composite_after Rattle.wasm_composite_types.specs.Readings.composite_at Rattle.wasm_types.specs.Readings.index_at Rattle.wasm_types.specs.Readings.supertype_at Rattle.wasm_types.specs.Readings.declared_at Rattle.wasm_types.specs.Readings.sub_after Rattle.wasm_types.specs.Readings.sub_at Rattle.wasm_operators.specs.Operators.operator_at Rattle.wasm_operators.specs.Operators.code_at Rattle.wasm_operators.specs.Operators.kind_of Rattle.wasm_operators.specs.Table.structure_rows Rattle.wasm_operators.specs.Table.call_rows Rattle.wasm_operators.specs.Table.plain_rows Rattle.wasm_operators.specs.Table.fb_rows Rattle.wasm_operators.specs.Table.fc_rows Rattle.wasm_operators.specs.Table.fd_rows Rattle.wasm_operators.specs.Table.fe_rows Rattle.wasm_operators.specs.Readings.below_at Rattle.wasm_operators.specs.Readings.zero_at Rattle.wasm_operators.specs.Readings.empty_at Rattle.wasm_operators.specs.Readings.type_index_at Rattle.wasm_operators.specs.Readings.block_at Rattle.wasm_operators.specs.Readings.memory_at Rattle.wasm_operators.specs.Readings.access_at Rattle.wasm_operators.specs.Readings.clause_at Rattle.wasm_operators.specs.Readings.item_at Rattle.wasm_operators.specs.Readings.items_at Rattle.wasm_reader.specs.Shortest.shortest_unsigned Rattle.wasm_reader.specs.Shortest.shortest_signed
used_local_holds = (refl, refl)

behind_return_holds : IsWritten behind_return_plan behind_return behind_return_out ((3, 3) ∷ (7, 4) ∷ [])
unfolding Rattle.std.specs.Str.is_utf8 Rattle.std.specs.Str.chars lib.Utf8.encode Rattle.wasm_reader.specs.Numbers.number_at Rattle.wasm_reader.specs.Reading.little_at Rattle.wasm_reader.specs.Text.size_at Rattle.wasm_reader.specs.Text.text_at Rattle.wasm_reader.specs.Text.string_at Rattle.wasm_reader.specs.Text.sized_bytes_at Rattle.wasm_reader.specs.Items.items_at Rattle.wasm_reader.specs.Items.vec_at Rattle.wasm_ref_types.specs.ReadTypes.abstract_at Rattle.wasm_ref_types.specs.ReadTypes.shared_at Rattle.wasm_ref_types.specs.ReadTypes.index_at Rattle.wasm_ref_types.specs.ReadTypes.heap_at Rattle.wasm_ref_types.specs.ReadTypes.long_at Rattle.wasm_ref_types.specs.ReadTypes.reference_at Rattle.wasm_ref_types.specs.ReadTypes.plain_at Rattle.wasm_ref_types.specs.ReadTypes.value_at Rattle.wasm_composite_types.specs.Readings.storage_at Rattle.wasm_composite_types.specs.Readings.mutable_at Rattle.wasm_composite_types.specs.Readings.field_at Rattle.wasm_composite_types.specs.Readings.func_at Rattle.wasm_composite_types.specs.Readings.array_at Rattle.wasm_composite_types.specs.Readings.struct_at Rattle.wasm_composite_types.specs.Readings.form_after Rattle.wasm_composite_types.specs.Readings.form_at Rattle.wasm_composite_types.specs.Readings.composite_after Rattle.wasm_composite_types.specs.Readings.composite_at Rattle.wasm_types.specs.Readings.index_at Rattle.wasm_types.specs.Readings.supertype_at Rattle.wasm_types.specs.Readings.declared_at Rattle.wasm_types.specs.Readings.sub_after Rattle.wasm_types.specs.Readings.sub_at Rattle.wasm_operators.specs.Operators.operator_at Rattle.wasm_operators.specs.Operators.code_at Rattle.wasm_operators.specs.Operators.kind_of Rattle.wasm_operators.specs.Table.structure_rows Rattle.wasm_operators.specs.Table.call_rows Rattle.wasm_operators.specs.Table.plain_rows Rattle.wasm_operators.specs.Table.fb_rows Rattle.wasm_operators.specs.Table.fc_rows Rattle.wasm_operators.specs.Table.fd_rows Rattle.wasm_operators.specs.Table.fe_rows Rattle.wasm_operators.specs.Readings.below_at Rattle.wasm_operators.specs.Readings.zero_at Rattle.wasm_operators.specs.Readings.empty_at Rattle.wasm_operators.specs.Readings.type_index_at Rattle.wasm_operators.specs.Readings.block_at Rattle.wasm_operators.specs.Readings.memory_at Rattle.wasm_operators.specs.Readings.access_at Rattle.wasm_operators.specs.Readings.clause_at Rattle.wasm_operators.specs.Readings.item_at Rattle.wasm_operators.specs.Readings.items_at Rattle.wasm_reader.specs.Shortest.shortest_unsigned Rattle.wasm_reader.specs.Shortest.shortest_signed
behind_return_holds = (refl, refl)

behind_tail_call_holds : IsWritten behind_tail_call_plan behind_tail_call behind_tail_call_out ((3, 3) ∷ (5, 5) ∷ (7, 7) ∷ (10, 10) ∷ [])
unfolding Rattle.std.specs.Str.is_utf8 Rattle.std.specs.Str.chars lib.Utf8.encode Rattle.wasm_reader.specs.Numbers.number_at Rattle.wasm_reader.specs.Reading.little_at Rattle.wasm_reader.specs.Text.size_at Rattle.wasm_reader.specs.Text.text_at Rattle.wasm_reader.specs.Text.string_at Rattle.wasm_reader.specs.Text.sized_bytes_at Rattle.wasm_reader.specs.Items.items_at Rattle.wasm_reader.specs.Items.vec_at Rattle.wasm_ref_types.specs.ReadTypes.abstract_at Rattle.wasm_ref_types.specs.ReadTypes.shared_at Rattle.wasm_ref_types.specs.ReadTypes.index_at Rattle.wasm_ref_types.specs.ReadTypes.heap_at Rattle.wasm_ref_types.specs.ReadTypes.long_at Rattle.wasm_ref_types.specs.ReadTypes.reference_at Rattle.wasm_ref_types.specs.ReadTypes.plain_at Rattle.wasm_ref_types.specs.ReadTypes.value_at Rattle.wasm_composite_types.specs.Readings.storage_at Rattle.wasm_composite_types.specs.Readings.mutable_at Rattle.wasm_composite_types.specs.Readings.field_at Rattle.wasm_composite_types.specs.Readings.func_at Rattle.wasm_composite_types.specs.Readings.array_at Rattle.wasm_composite_types.specs.Readings.struct_at Rattle.wasm_composite_types.specs.Readings.form_after Rattle.wasm_composite_types.specs.Readings.form_at Rattle.wasm_composite_types.specs.Readings.composite_after Rattle.wasm_composite_types.specs.Readings.composite_at Rattle.wasm_types.specs.Readings.index_at Rattle.wasm_types.specs.Readings.supertype_at Rattle.wasm_types.specs.Readings.declared_at Rattle.wasm_types.specs.Readings.sub_after Rattle.wasm_types.specs.Readings.sub_at Rattle.wasm_operators.specs.Operators.operator_at Rattle.wasm_operators.specs.Operators.code_at Rattle.wasm_operators.specs.Operators.kind_of Rattle.wasm_operators.specs.Table.structure_rows Rattle.wasm_operators.specs.Table.call_rows Rattle.wasm_operators.specs.Table.plain_rows Rattle.wasm_operators.specs.Table.fb_rows Rattle.wasm_operators.specs.Table.fc_rows Rattle.wasm_operators.specs.Table.fd_rows Rattle.wasm_operators.specs.Table.fe_rows Rattle.wasm_operators.specs.Readings.below_at Rattle.wasm_operators.specs.Readings.zero_at Rattle.wasm_operators.specs.Readings.empty_at Rattle.wasm_operators.specs.Readings.type_index_at Rattle.wasm_operators.specs.Readings.block_at Rattle.wasm_operators.specs.Readings.memory_at Rattle.wasm_operators.specs.Readings.access_at Rattle.wasm_operators.specs.Readings.clause_at Rattle.wasm_operators.specs.Readings.item_at Rattle.wasm_operators.specs.Readings.items_at Rattle.wasm_reader.specs.Shortest.shortest_unsigned Rattle.wasm_reader.specs.Shortest.shortest_signed
behind_tail_call_holds = (refl, refl)

declared_function_holds : IsWritten declared_function_plan declared_function declared_function_out ((3, 3) ∷ (5, 5) ∷ (6, 6) ∷ (9, 9) ∷ [])
unfolding Rattle.std.specs.Str.is_utf8 Rattle.std.specs.Str.chars lib.Utf8.encode Rattle.wasm_reader.specs.Numbers.number_at Rattle.wasm_reader.specs.Reading.little_at Rattle.wasm_reader.specs.Text.size_at Rattle.wasm_reader.specs.Text.text_at Rattle.wasm_reader.specs.Text.string_at Rattle.wasm_reader.specs.Text.sized_bytes_at Rattle.wasm_reader.specs.Items.items_at Rattle.wasm_reader.specs.Items.vec_at Rattle.wasm_ref_types.specs.ReadTypes.abstract_at Rattle.wasm_ref_types.specs.ReadTypes.shared_at Rattle.wasm_ref_types.specs.ReadTypes.index_at Rattle.wasm_ref_types.specs.ReadTypes.heap_at Rattle.wasm_ref_types.specs.ReadTypes.long_at Rattle.wasm_ref_types.specs.ReadTypes.reference_at Rattle.wasm_ref_types.specs.ReadTypes.plain_at Rattle.wasm_ref_types.specs.ReadTypes.value_at Rattle.wasm_composite_types.specs.Readings.storage_at Rattle.wasm_composite_types.specs.Readings.mutable_at Rattle.wasm_composite_types.specs.Readings.field_at Rattle.wasm_composite_types.specs.Readings.func_at Rattle.wasm_composite_types.specs.Readings.array_at Rattle.wasm_composite_types.specs.Readings.struct_at Rattle.wasm_composite_types.specs.Readings.form_after Rattle.wasm_composite_types.specs.Readings.form_at Rattle.wasm_composite_types.specs.Readings.composite_after Rattle.wasm_composite_types.specs.Readings.composite_at Rattle.wasm_types.specs.Readings.index_at Rattle.wasm_types.specs.Readings.supertype_at Rattle.wasm_types.specs.Readings.declared_at Rattle.wasm_types.specs.Readings.sub_after Rattle.wasm_types.specs.Readings.sub_at Rattle.wasm_operators.specs.Operators.operator_at Rattle.wasm_operators.specs.Operators.code_at Rattle.wasm_operators.specs.Operators.kind_of Rattle.wasm_operators.specs.Table.structure_rows Rattle.wasm_operators.specs.Table.call_rows Rattle.wasm_operators.specs.Table.plain_rows Rattle.wasm_operators.specs.Table.fb_rows Rattle.wasm_operators.specs.Table.fc_rows Rattle.wasm_operators.specs.Table.fd_rows Rattle.wasm_operators.specs.Table.fe_rows Rattle.wasm_operators.specs.Readings.below_at Rattle.wasm_operators.specs.Readings.zero_at Rattle.wasm_operators.specs.Readings.empty_at Rattle.wasm_operators.specs.Readings.type_index_at Rattle.wasm_operators.specs.Readings.block_at Rattle.wasm_operators.specs.Readings.memory_at Rattle.wasm_operators.specs.Readings.access_at Rattle.wasm_operators.specs.Readings.clause_at Rattle.wasm_operators.specs.Readings.item_at Rattle.wasm_operators.specs.Readings.items_at Rattle.wasm_reader.specs.Shortest.shortest_unsigned Rattle.wasm_reader.specs.Shortest.shortest_signed
declared_function_holds = (refl, refl)

handler_type_holds : IsWritten handler_type_plan handler_type handler_type_out ((3, 3) ∷ (5, 5) ∷ (7, 7) ∷ (9, 9) ∷ (10, 10) ∷ (11, 11) ∷ [])
unfolding Rattle.std.specs.Str.is_utf8 Rattle.std.specs.Str.chars lib.Utf8.encode Rattle.wasm_reader.specs.Numbers.number_at Rattle.wasm_reader.specs.Reading.little_at Rattle.wasm_reader.specs.Text.size_at Rattle.wasm_reader.specs.Text.text_at Rattle.wasm_reader.specs.Text.string_at Rattle.wasm_reader.specs.Text.sized_bytes_at Rattle.wasm_reader.specs.Items.items_at Rattle.wasm_reader.specs.Items.vec_at Rattle.wasm_ref_types.specs.ReadTypes.abstract_at Rattle.wasm_ref_types.specs.ReadTypes.shared_at Rattle.wasm_ref_types.specs.ReadTypes.index_at Rattle.wasm_ref_types.specs.ReadTypes.heap_at Rattle.wasm_ref_types.specs.ReadTypes.long_at Rattle.wasm_ref_types.specs.ReadTypes.reference_at Rattle.wasm_ref_types.specs.ReadTypes.plain_at Rattle.wasm_ref_types.specs.ReadTypes.value_at Rattle.wasm_composite_types.specs.Readings.storage_at Rattle.wasm_composite_types.specs.Readings.mutable_at Rattle.wasm_composite_types.specs.Readings.field_at Rattle.wasm_composite_types.specs.Readings.func_at Rattle.wasm_composite_types.specs.Readings.array_at Rattle.wasm_composite_types.specs.Readings.struct_at Rattle.wasm_composite_types.specs.Readings.form_after Rattle.wasm_composite_types.specs.Readings.form_at Rattle.wasm_composite_types.specs.Readings.composite_after Rattle.wasm_composite_types.specs.Readings.composite_at Rattle.wasm_types.specs.Readings.index_at Rattle.wasm_types.specs.Readings.supertype_at Rattle.wasm_types.specs.Readings.declared_at Rattle.wasm_types.specs.Readings.sub_after Rattle.wasm_types.specs.Readings.sub_at Rattle.wasm_operators.specs.Operators.operator_at Rattle.wasm_operators.specs.Operators.code_at Rattle.wasm_operators.specs.Operators.kind_of Rattle.wasm_operators.specs.Table.structure_rows Rattle.wasm_operators.specs.Table.call_rows Rattle.wasm_operators.specs.Table.plain_rows Rattle.wasm_operators.specs.Table.fb_rows Rattle.wasm_operators.specs.Table.fc_rows Rattle.wasm_operators.specs.Table.fd_rows Rattle.wasm_operators.specs.Table.fe_rows Rattle.wasm_operators.specs.Readings.below_at Rattle.wasm_operators.specs.Readings.zero_at Rattle.wasm_operators.specs.Readings.empty_at Rattle.wasm_operators.specs.Readings.type_index_at Rattle.wasm_operators.specs.Readings.block_at Rattle.wasm_operators.specs.Readings.memory_at Rattle.wasm_operators.specs.Readings.access_at Rattle.wasm_operators.specs.Readings.clause_at Rattle.wasm_operators.specs.Readings.item_at Rattle.wasm_operators.specs.Readings.items_at Rattle.wasm_reader.specs.Shortest.shortest_unsigned Rattle.wasm_reader.specs.Shortest.shortest_signed
handler_type_holds = (refl, refl)

local_name_holds : HasCustoms true false one_plan local_name local_name_out
unfolding Rattle.std.specs.Str.is_utf8 Rattle.std.specs.Str.chars lib.Utf8.encode Rattle.wasm_reader.specs.Numbers.number_at Rattle.wasm_reader.specs.Reading.little_at Rattle.wasm_reader.specs.Text.size_at Rattle.wasm_reader.specs.Text.text_at Rattle.wasm_reader.specs.Text.string_at Rattle.wasm_reader.specs.Text.sized_bytes_at Rattle.wasm_reader.specs.Items.items_at Rattle.wasm_reader.specs.Items.vec_at Rattle.wasm_ref_types.specs.ReadTypes.abstract_at Rattle.wasm_ref_types.specs.ReadTypes.shared_at Rattle.wasm_ref_types.specs.ReadTypes.index_at Rattle.wasm_ref_types.specs.ReadTypes.heap_at Rattle.wasm_ref_types.specs.ReadTypes.long_at Rattle.wasm_ref_types.specs.ReadTypes.reference_at Rattle.wasm_ref_types.specs.ReadTypes.plain_at Rattle.wasm_ref_types.specs.ReadTypes.value_at Rattle.wasm_composite_types.specs.Readings.storage_at Rattle.wasm_composite_types.specs.Readings.mutable_at Rattle.wasm_composite_types.specs.Readings.field_at Rattle.wasm_composite_types.specs.Readings.func_at Rattle.wasm_composite_types.specs.Readings.array_at Rattle.wasm_composite_types.specs.Readings.struct_at Rattle.wasm_composite_types.specs.Readings.form_after Rattle.wasm_composite_types.specs.Readings.form_at Rattle.wasm_composite_types.specs.Readings.composite_after Rattle.wasm_composite_types.specs.Readings.composite_at Rattle.wasm_types.specs.Readings.index_at Rattle.wasm_types.specs.Readings.supertype_at Rattle.wasm_types.specs.Readings.declared_at Rattle.wasm_types.specs.Readings.sub_after Rattle.wasm_types.specs.Readings.sub_at Rattle.wasm_operators.specs.Operators.operator_at Rattle.wasm_operators.specs.Operators.code_at Rattle.wasm_operators.specs.Operators.kind_of Rattle.wasm_operators.specs.Table.structure_rows Rattle.wasm_operators.specs.Table.call_rows Rattle.wasm_operators.specs.Table.plain_rows Rattle.wasm_operators.specs.Table.fb_rows Rattle.wasm_operators.specs.Table.fc_rows Rattle.wasm_operators.specs.Table.fd_rows Rattle.wasm_operators.specs.Table.fe_rows Rattle.wasm_operators.specs.Readings.below_at Rattle.wasm_operators.specs.Readings.zero_at Rattle.wasm_operators.specs.Readings.empty_at Rattle.wasm_operators.specs.Readings.type_index_at Rattle.wasm_operators.specs.Readings.block_at Rattle.wasm_operators.specs.Readings.memory_at Rattle.wasm_operators.specs.Readings.access_at Rattle.wasm_operators.specs.Readings.clause_at Rattle.wasm_operators.specs.Readings.item_at Rattle.wasm_operators.specs.Readings.items_at Rattle.wasm_reader.specs.Shortest.shortest_unsigned Rattle.wasm_reader.specs.Shortest.shortest_signed Rattle.wasm_reader.specs.Text.unlimited_string_at
local_name_holds = refl

name_of_none_holds : HasCustoms true false one_plan name_of_none name_of_none_out
unfolding Rattle.std.specs.Str.is_utf8 Rattle.std.specs.Str.chars lib.Utf8.encode Rattle.wasm_reader.specs.Numbers.number_at Rattle.wasm_reader.specs.Reading.little_at Rattle.wasm_reader.specs.Text.size_at Rattle.wasm_reader.specs.Text.text_at Rattle.wasm_reader.specs.Text.string_at Rattle.wasm_reader.specs.Text.sized_bytes_at Rattle.wasm_reader.specs.Items.items_at Rattle.wasm_reader.specs.Items.vec_at Rattle.wasm_ref_types.specs.ReadTypes.abstract_at Rattle.wasm_ref_types.specs.ReadTypes.shared_at Rattle.wasm_ref_types.specs.ReadTypes.index_at Rattle.wasm_ref_types.specs.ReadTypes.heap_at Rattle.wasm_ref_types.specs.ReadTypes.long_at Rattle.wasm_ref_types.specs.ReadTypes.reference_at Rattle.wasm_ref_types.specs.ReadTypes.plain_at Rattle.wasm_ref_types.specs.ReadTypes.value_at Rattle.wasm_composite_types.specs.Readings.storage_at Rattle.wasm_composite_types.specs.Readings.mutable_at Rattle.wasm_composite_types.specs.Readings.field_at Rattle.wasm_composite_types.specs.Readings.func_at Rattle.wasm_composite_types.specs.Readings.array_at Rattle.wasm_composite_types.specs.Readings.struct_at Rattle.wasm_composite_types.specs.Readings.form_after Rattle.wasm_composite_types.specs.Readings.form_at Rattle.wasm_composite_types.specs.Readings.composite_after Rattle.wasm_composite_types.specs.Readings.composite_at Rattle.wasm_types.specs.Readings.index_at Rattle.wasm_types.specs.Readings.supertype_at Rattle.wasm_types.specs.Readings.declared_at Rattle.wasm_types.specs.Readings.sub_after Rattle.wasm_types.specs.Readings.sub_at Rattle.wasm_operators.specs.Operators.operator_at Rattle.wasm_operators.specs.Operators.code_at Rattle.wasm_operators.specs.Operators.kind_of Rattle.wasm_operators.specs.Table.structure_rows Rattle.wasm_operators.specs.Table.call_rows Rattle.wasm_operators.specs.Table.plain_rows Rattle.wasm_operators.specs.Table.fb_rows Rattle.wasm_operators.specs.Table.fc_rows Rattle.wasm_operators.specs.Table.fd_rows Rattle.wasm_operators.specs.Table.fe_rows Rattle.wasm_operators.specs.Readings.below_at Rattle.wasm_operators.specs.Readings.zero_at Rattle.wasm_operators.specs.Readings.empty_at Rattle.wasm_operators.specs.Readings.type_index_at Rattle.wasm_operators.specs.Readings.block_at Rattle.wasm_operators.specs.Readings.memory_at Rattle.wasm_operators.specs.Readings.access_at Rattle.wasm_operators.specs.Readings.clause_at Rattle.wasm_operators.specs.Readings.item_at Rattle.wasm_operators.specs.Readings.items_at Rattle.wasm_reader.specs.Shortest.shortest_unsigned Rattle.wasm_reader.specs.Shortest.shortest_signed Rattle.wasm_reader.specs.Text.unlimited_string_at
name_of_none_holds = refl

names_in_front_holds : HasCustoms true false one_plan names_in_front names_in_front_out
unfolding Rattle.std.specs.Str.is_utf8 Rattle.std.specs.Str.chars lib.Utf8.encode Rattle.wasm_reader.specs.Numbers.number_at Rattle.wasm_reader.specs.Reading.little_at Rattle.wasm_reader.specs.Text.size_at Rattle.wasm_reader.specs.Text.text_at Rattle.wasm_reader.specs.Text.string_at Rattle.wasm_reader.specs.Text.sized_bytes_at Rattle.wasm_reader.specs.Items.items_at Rattle.wasm_reader.specs.Items.vec_at Rattle.wasm_ref_types.specs.ReadTypes.abstract_at Rattle.wasm_ref_types.specs.ReadTypes.shared_at Rattle.wasm_ref_types.specs.ReadTypes.index_at Rattle.wasm_ref_types.specs.ReadTypes.heap_at Rattle.wasm_ref_types.specs.ReadTypes.long_at Rattle.wasm_ref_types.specs.ReadTypes.reference_at Rattle.wasm_ref_types.specs.ReadTypes.plain_at Rattle.wasm_ref_types.specs.ReadTypes.value_at Rattle.wasm_composite_types.specs.Readings.storage_at Rattle.wasm_composite_types.specs.Readings.mutable_at Rattle.wasm_composite_types.specs.Readings.field_at Rattle.wasm_composite_types.specs.Readings.func_at Rattle.wasm_composite_types.specs.Readings.array_at Rattle.wasm_composite_types.specs.Readings.struct_at Rattle.wasm_composite_types.specs.Readings.form_after Rattle.wasm_composite_types.specs.Readings.form_at Rattle.wasm_composite_types.specs.Readings.composite_after Rattle.wasm_composite_types.specs.Readings.composite_at Rattle.wasm_types.specs.Readings.index_at Rattle.wasm_types.specs.Readings.supertype_at Rattle.wasm_types.specs.Readings.declared_at Rattle.wasm_types.specs.Readings.sub_after Rattle.wasm_types.specs.Readings.sub_at Rattle.wasm_operators.specs.Operators.operator_at Rattle.wasm_operators.specs.Operators.code_at Rattle.wasm_operators.specs.Operators.kind_of Rattle.wasm_operators.specs.Table.structure_rows Rattle.wasm_operators.specs.Table.call_rows Rattle.wasm_operators.specs.Table.plain_rows Rattle.wasm_operators.specs.Table.fb_rows Rattle.wasm_operators.specs.Table.fc_rows Rattle.wasm_operators.specs.Table.fd_rows Rattle.wasm_operators.specs.Table.fe_rows Rattle.wasm_operators.specs.Readings.below_at Rattle.wasm_operators.specs.Readings.zero_at Rattle.wasm_operators.specs.Readings.empty_at Rattle.wasm_operators.specs.Readings.type_index_at Rattle.wasm_operators.specs.Readings.block_at Rattle.wasm_operators.specs.Readings.memory_at Rattle.wasm_operators.specs.Readings.access_at Rattle.wasm_operators.specs.Readings.clause_at Rattle.wasm_operators.specs.Readings.item_at Rattle.wasm_operators.specs.Readings.items_at Rattle.wasm_reader.specs.Shortest.shortest_unsigned Rattle.wasm_reader.specs.Shortest.shortest_signed Rattle.wasm_reader.specs.Text.unlimited_string_at
names_in_front_holds = refl

nothing_holds : HasCustoms false false none_plan nothing nothing_out
unfolding Rattle.std.specs.Str.is_utf8 Rattle.std.specs.Str.chars lib.Utf8.encode Rattle.wasm_reader.specs.Numbers.number_at Rattle.wasm_reader.specs.Reading.little_at Rattle.wasm_reader.specs.Text.size_at Rattle.wasm_reader.specs.Text.text_at Rattle.wasm_reader.specs.Text.string_at Rattle.wasm_reader.specs.Text.sized_bytes_at Rattle.wasm_reader.specs.Items.items_at Rattle.wasm_reader.specs.Items.vec_at Rattle.wasm_ref_types.specs.ReadTypes.abstract_at Rattle.wasm_ref_types.specs.ReadTypes.shared_at Rattle.wasm_ref_types.specs.ReadTypes.index_at Rattle.wasm_ref_types.specs.ReadTypes.heap_at Rattle.wasm_ref_types.specs.ReadTypes.long_at Rattle.wasm_ref_types.specs.ReadTypes.reference_at Rattle.wasm_ref_types.specs.ReadTypes.plain_at Rattle.wasm_ref_types.specs.ReadTypes.value_at Rattle.wasm_composite_types.specs.Readings.storage_at Rattle.wasm_composite_types.specs.Readings.mutable_at Rattle.wasm_composite_types.specs.Readings.field_at Rattle.wasm_composite_types.specs.Readings.func_at Rattle.wasm_composite_types.specs.Readings.array_at Rattle.wasm_composite_types.specs.Readings.struct_at Rattle.wasm_composite_types.specs.Readings.form_after Rattle.wasm_composite_types.specs.Readings.form_at Rattle.wasm_composite_types.specs.Readings.composite_after Rattle.wasm_composite_types.specs.Readings.composite_at Rattle.wasm_types.specs.Readings.index_at Rattle.wasm_types.specs.Readings.supertype_at Rattle.wasm_types.specs.Readings.declared_at Rattle.wasm_types.specs.Readings.sub_after Rattle.wasm_types.specs.Readings.sub_at Rattle.wasm_operators.specs.Operators.operator_at Rattle.wasm_operators.specs.Operators.code_at Rattle.wasm_operators.specs.Operators.kind_of Rattle.wasm_operators.specs.Table.structure_rows Rattle.wasm_operators.specs.Table.call_rows Rattle.wasm_operators.specs.Table.plain_rows Rattle.wasm_operators.specs.Table.fb_rows Rattle.wasm_operators.specs.Table.fc_rows Rattle.wasm_operators.specs.Table.fd_rows Rattle.wasm_operators.specs.Table.fe_rows Rattle.wasm_operators.specs.Readings.below_at Rattle.wasm_operators.specs.Readings.zero_at Rattle.wasm_operators.specs.Readings.empty_at Rattle.wasm_operators.specs.Readings.type_index_at Rattle.wasm_operators.specs.Readings.block_at Rattle.wasm_operators.specs.Readings.memory_at Rattle.wasm_operators.specs.Readings.access_at Rattle.wasm_operators.specs.Readings.clause_at Rattle.wasm_operators.specs.Readings.item_at Rattle.wasm_operators.specs.Readings.items_at Rattle.wasm_reader.specs.Shortest.shortest_unsigned Rattle.wasm_reader.specs.Shortest.shortest_signed Rattle.wasm_reader.specs.Text.unlimited_string_at
nothing_holds = refl

made_by_holds : HasCustoms false true none_plan made_by made_by_out
unfolding Rattle.std.specs.Str.is_utf8 Rattle.std.specs.Str.chars lib.Utf8.encode Rattle.wasm_reader.specs.Numbers.number_at Rattle.wasm_reader.specs.Reading.little_at Rattle.wasm_reader.specs.Text.size_at Rattle.wasm_reader.specs.Text.text_at Rattle.wasm_reader.specs.Text.string_at Rattle.wasm_reader.specs.Text.sized_bytes_at Rattle.wasm_reader.specs.Items.items_at Rattle.wasm_reader.specs.Items.vec_at Rattle.wasm_ref_types.specs.ReadTypes.abstract_at Rattle.wasm_ref_types.specs.ReadTypes.shared_at Rattle.wasm_ref_types.specs.ReadTypes.index_at Rattle.wasm_ref_types.specs.ReadTypes.heap_at Rattle.wasm_ref_types.specs.ReadTypes.long_at Rattle.wasm_ref_types.specs.ReadTypes.reference_at Rattle.wasm_ref_types.specs.ReadTypes.plain_at Rattle.wasm_ref_types.specs.ReadTypes.value_at Rattle.wasm_composite_types.specs.Readings.storage_at Rattle.wasm_composite_types.specs.Readings.mutable_at Rattle.wasm_composite_types.specs.Readings.field_at Rattle.wasm_composite_types.specs.Readings.func_at Rattle.wasm_composite_types.specs.Readings.array_at Rattle.wasm_composite_types.specs.Readings.struct_at Rattle.wasm_composite_types.specs.Readings.form_after Rattle.wasm_composite_types.specs.Readings.form_at Rattle.wasm_composite_types.specs.Readings.composite_after Rattle.wasm_composite_types.specs.Readings.composite_at Rattle.wasm_types.specs.Readings.index_at Rattle.wasm_types.specs.Readings.supertype_at Rattle.wasm_types.specs.Readings.declared_at Rattle.wasm_types.specs.Readings.sub_after Rattle.wasm_types.specs.Readings.sub_at Rattle.wasm_operators.specs.Operators.operator_at Rattle.wasm_operators.specs.Operators.code_at Rattle.wasm_operators.specs.Operators.kind_of Rattle.wasm_operators.specs.Table.structure_rows Rattle.wasm_operators.specs.Table.call_rows Rattle.wasm_operators.specs.Table.plain_rows Rattle.wasm_operators.specs.Table.fb_rows Rattle.wasm_operators.specs.Table.fc_rows Rattle.wasm_operators.specs.Table.fd_rows Rattle.wasm_operators.specs.Table.fe_rows Rattle.wasm_operators.specs.Readings.below_at Rattle.wasm_operators.specs.Readings.zero_at Rattle.wasm_operators.specs.Readings.empty_at Rattle.wasm_operators.specs.Readings.type_index_at Rattle.wasm_operators.specs.Readings.block_at Rattle.wasm_operators.specs.Readings.memory_at Rattle.wasm_operators.specs.Readings.access_at Rattle.wasm_operators.specs.Readings.clause_at Rattle.wasm_operators.specs.Readings.item_at Rattle.wasm_operators.specs.Readings.items_at Rattle.wasm_reader.specs.Shortest.shortest_unsigned Rattle.wasm_reader.specs.Shortest.shortest_signed Rattle.wasm_reader.specs.Text.unlimited_string_at
made_by_holds = refl

other_sections_holds : HasCustoms false false none_plan other_sections other_sections_out
unfolding Rattle.std.specs.Str.is_utf8 Rattle.std.specs.Str.chars lib.Utf8.encode Rattle.wasm_reader.specs.Numbers.number_at Rattle.wasm_reader.specs.Reading.little_at Rattle.wasm_reader.specs.Text.size_at Rattle.wasm_reader.specs.Text.text_at Rattle.wasm_reader.specs.Text.string_at Rattle.wasm_reader.specs.Text.sized_bytes_at Rattle.wasm_reader.specs.Items.items_at Rattle.wasm_reader.specs.Items.vec_at Rattle.wasm_ref_types.specs.ReadTypes.abstract_at Rattle.wasm_ref_types.specs.ReadTypes.shared_at Rattle.wasm_ref_types.specs.ReadTypes.index_at Rattle.wasm_ref_types.specs.ReadTypes.heap_at Rattle.wasm_ref_types.specs.ReadTypes.long_at Rattle.wasm_ref_types.specs.ReadTypes.reference_at Rattle.wasm_ref_types.specs.ReadTypes.plain_at Rattle.wasm_ref_types.specs.ReadTypes.value_at Rattle.wasm_composite_types.specs.Readings.storage_at Rattle.wasm_composite_types.specs.Readings.mutable_at Rattle.wasm_composite_types.specs.Readings.field_at Rattle.wasm_composite_types.specs.Readings.func_at Rattle.wasm_composite_types.specs.Readings.array_at Rattle.wasm_composite_types.specs.Readings.struct_at Rattle.wasm_composite_types.specs.Readings.form_after Rattle.wasm_composite_types.specs.Readings.form_at Rattle.wasm_composite_types.specs.Readings.composite_after Rattle.wasm_composite_types.specs.Readings.composite_at Rattle.wasm_types.specs.Readings.index_at Rattle.wasm_types.specs.Readings.supertype_at Rattle.wasm_types.specs.Readings.declared_at Rattle.wasm_types.specs.Readings.sub_after Rattle.wasm_types.specs.Readings.sub_at Rattle.wasm_operators.specs.Operators.operator_at Rattle.wasm_operators.specs.Operators.code_at Rattle.wasm_operators.specs.Operators.kind_of Rattle.wasm_operators.specs.Table.structure_rows Rattle.wasm_operators.specs.Table.call_rows Rattle.wasm_operators.specs.Table.plain_rows Rattle.wasm_operators.specs.Table.fb_rows Rattle.wasm_operators.specs.Table.fc_rows Rattle.wasm_operators.specs.Table.fd_rows Rattle.wasm_operators.specs.Table.fe_rows Rattle.wasm_operators.specs.Readings.below_at Rattle.wasm_operators.specs.Readings.zero_at Rattle.wasm_operators.specs.Readings.empty_at Rattle.wasm_operators.specs.Readings.type_index_at Rattle.wasm_operators.specs.Readings.block_at Rattle.wasm_operators.specs.Readings.memory_at Rattle.wasm_operators.specs.Readings.access_at Rattle.wasm_operators.specs.Readings.clause_at Rattle.wasm_operators.specs.Readings.item_at Rattle.wasm_operators.specs.Readings.items_at Rattle.wasm_reader.specs.Shortest.shortest_unsigned Rattle.wasm_reader.specs.Shortest.shortest_signed Rattle.wasm_reader.specs.Text.unlimited_string_at
other_sections_holds = refl

pub files_written : FilesAreWritten
files_written = record { of_unused_function = unused_function_holds; of_larger_first = larger_first_holds; of_merged_types = merged_types_holds; of_marked_group = marked_group_holds; of_bare_if = bare_if_holds; of_used_local = used_local_holds; of_behind_return = behind_return_holds; of_behind_tail_call = behind_tail_call_holds; of_declared_function = declared_function_holds; of_handler_type = handler_type_holds; with_local_name = local_name_holds; with_name_of_none = name_of_none_holds; with_names_in_front = names_in_front_holds; with_nothing = nothing_holds; with_made_by = made_by_holds; with_other_sections = other_sections_holds }
