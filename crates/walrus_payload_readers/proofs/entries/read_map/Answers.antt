use Rattle.wasm_reader.specs.Reading.{plain}
use Rattle.wasm_formats.specs.Wholes.{u32}
use Rattle.wasm_name_payloads.specs.Joined.{times}
use Rattle.walrus_payload_readers.specs.Keeps.{if_ok, led_on}
use Rattle.walrus_payload_readers.specs.Bearers.{given_of, entry_at, map_keeps}
use Rattle.walrus_payload_readers.proofs.entries.read_map.Goals as goal

pub returns : goal.returns
returns g c =
    let m = g.B.Bearers.file c.args.bearers.now in
    if_ok _ _ c.read_entries.result c.read_entries.ensures
    (λ whole h. map_keeps m c.args.of given_of _ _ _ _ whole (led_on u32 (times (entry_at m c.args.of)) plain given_of _ _ _ _ _ _ whole c.in-Some.ensures h))
