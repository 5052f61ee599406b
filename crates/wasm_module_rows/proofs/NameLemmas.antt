-- Names of files, computed.
use Rattle.std.specs.Prelude.{map, refl}
use Rattle.wasm_module_rows.specs.Files.{usual, AreModules}
use Rattle.wasm_module_rows.specs.Named.{files, calls, AreNamed, AreCalled, NamesKept}

modules_hold : AreModules usual (map (λ r. (r.0, r.1)) files)
unfolding Rattle.std.specs.Str.is_utf8 Rattle.std.specs.Str.chars lib.Utf8.encode Rattle.wasm_reader.specs.Numbers.number_at Rattle.wasm_reader.specs.Reading.little_at Rattle.wasm_reader.specs.Text.size_at Rattle.wasm_reader.specs.Text.text_at Rattle.wasm_reader.specs.Text.string_at Rattle.wasm_reader.specs.Text.sized_bytes_at Rattle.wasm_reader.specs.Items.items_at Rattle.wasm_reader.specs.Items.vec_at Rattle.wasm_ref_types.specs.ReadTypes.abstract_at Rattle.wasm_ref_types.specs.ReadTypes.shared_at Rattle.wasm_ref_types.specs.ReadTypes.index_at Rattle.wasm_ref_types.specs.ReadTypes.heap_at Rattle.wasm_ref_types.specs.ReadTypes.long_at Rattle.wasm_ref_types.specs.ReadTypes.reference_at Rattle.wasm_ref_types.specs.ReadTypes.plain_at Rattle.wasm_ref_types.specs.ReadTypes.value_at Rattle.wasm_composite_types.specs.Readings.storage_at Rattle.wasm_composite_types.specs.Readings.mutable_at Rattle.wasm_composite_types.specs.Readings.field_at Rattle.wasm_composite_types.specs.Readings.func_at Rattle.wasm_composite_types.specs.Readings.array_at Rattle.wasm_composite_types.specs.Readings.struct_at Rattle.wasm_composite_types.specs.Readings.form_after Rattle.wasm_composite_types.specs.Readings.form_at Rattle.wasm_composite_types.specs.Readings.composite_after Rattle.wasm_composite_types.specs.Readings.composite_at Rattle.wasm_types.specs.Readings.index_at Rattle.wasm_types.specs.Readings.supertype_at Rattle.wasm_types.specs.Readings.declared_at Rattle.wasm_types.specs.Readings.sub_after Rattle.wasm_types.specs.Readings.sub_at Rattle.wasm_operators.specs.Operators.operator_at Rattle.wasm_operators.specs.Operators.code_at Rattle.wasm_operators.specs.Operators.kind_of Rattle.wasm_operators.specs.Table.structure_rows Rattle.wasm_operators.specs.Table.call_rows Rattle.wasm_operators.specs.Table.plain_rows Rattle.wasm_operators.specs.Table.fb_rows Rattle.wasm_operators.specs.Table.fc_rows Rattle.wasm_operators.specs.Table.fd_rows Rattle.wasm_operators.specs.Table.fe_rows Rattle.wasm_operators.specs.Readings.below_at Rattle.wasm_operators.specs.Readings.zero_at Rattle.wasm_operators.specs.Readings.empty_at Rattle.wasm_operators.specs.Readings.type_index_at Rattle.wasm_operators.specs.Readings.block_at Rattle.wasm_operators.specs.Readings.memory_at Rattle.wasm_operators.specs.Readings.access_at Rattle.wasm_operators.specs.Readings.clause_at Rattle.wasm_operators.specs.Readings.item_at Rattle.wasm_operators.specs.Readings.items_at
modules_hold = refl

names_hold : AreNamed files
unfolding Rattle.wasm_reader.specs.Numbers.number_at Rattle.wasm_reader.specs.Text.unlimited_string_at Rattle.wasm_reader.specs.Text.text_at Rattle.wasm_reader.specs.Shortest.shortest_unsigned Rattle.std.specs.Str.is_utf8 Rattle.std.specs.Str.chars lib.Utf8.encode
names_hold = refl

calls_hold : AreCalled calls
unfolding Rattle.wasm_reader.specs.Numbers.number_at Rattle.wasm_reader.specs.Text.unlimited_string_at Rattle.wasm_reader.specs.Text.text_at Rattle.wasm_reader.specs.Shortest.shortest_unsigned Rattle.std.specs.Str.is_utf8 Rattle.std.specs.Str.chars lib.Utf8.encode
calls_hold = refl

pub names_kept : NamesKept
names_kept = record { of_modules = modules_hold; of_names = names_hold; of_calls = calls_hold }
