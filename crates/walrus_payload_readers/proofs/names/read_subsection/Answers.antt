use Rattle.std.proofs.Common.{subst}
use Rattle.wasm_reader.specs.Reading.{plain}
use Rattle.wasm_formats.specs.Bytes.{byte}
use Rattle.wasm_formats.specs.Joined.{after}
use Rattle.wasm_formats.specs.Wholes.{u32}
use Rattle.wasm_name_payloads.specs.Names.{part_of, contents}
use Rattle.walrus_payload_readers.specs.Keeps.{if_ok, led_on}
use Rattle.walrus_payload_readers.specs.Bearers.{given_of}
use Rattle.walrus_payload_readers.specs.Parts.{Fills, inside, contents_on}
use Rattle.walrus_payload_readers.proofs.names.read_subsection.Goals as goal

pub returns-in-Some-named_part : goal.returns-in-Some-named_part
returns-in-Some-named_part g c =
    let m = g.B.Bearers.file c.args.bearers.now in
    if_ok _ _ c.read_contents.result c.read_contents.ensures (λ whole h.
    let filled = subst (λ p. Fills (inside m p c.in-Some-read_run.contents.now) given_of c.args.names.now.items c.read_contents.new.names.items whole) c.in-Some-named_part.ensures h in
    led_on (after byte (λ _. u32)) (λ x. contents m (part_of x.0) x.1) plain given_of _ _ c.args.reader.now c.read_head.new.reader c.read_run.new.reader (c.in-Some.id, c.in-Some.size) whole c.in-Some.ensures
    (contents_on m (part_of c.in-Some.id) c.in-Some.size given_of _ _ _ _ c.in-Some-read_run.contents whole c.in-Some-read_run.ensures filled))
