-- Modules with names and producers, computed.
use Rattle.std.specs.Prelude.{refl}
use Rattle.wasm_module_rows.specs.NamedModules.{ModulesAreNamed}

pub modules_are_named : ModulesAreNamed
unfolding Rattle.wasm_reader.specs.Numbers.number_at Rattle.wasm_reader.specs.Text.unlimited_string_at Rattle.wasm_reader.specs.Text.text_at Rattle.wasm_reader.specs.Shortest.shortest_unsigned Rattle.std.specs.Str.is_utf8 Rattle.std.specs.Str.chars lib.Utf8.encode
modules_are_named = record { items = refl; names = refl; producers = refl }
