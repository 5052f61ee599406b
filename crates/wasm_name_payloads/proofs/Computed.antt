-- The examples, computed.
use Rattle.std.specs.Prelude.{refl}
use Rattle.wasm_name_payloads.specs.Examples.{PayloadsHold}

pub payloads_hold : PayloadsHold
unfolding Rattle.wasm_reader.specs.Numbers.number_at Rattle.wasm_reader.specs.Text.unlimited_string_at Rattle.wasm_reader.specs.Text.text_at Rattle.wasm_reader.specs.Shortest.shortest_unsigned Rattle.std.specs.Str.is_utf8 Rattle.std.specs.Str.chars lib.Utf8.encode
payloads_hold = record { names = refl; last = refl; written_local = refl; written_a = refl; whole = refl; cut = refl; none = refl; other = refl; twice = refl }
