use Rattle.wasm_name_payloads.specs.Written.{later_spaces}
use Rattle.walrus_payload_writers.specs.Names.{entries_of}
use Rattle.walrus_payload_writers.proofs.Sections.{later_on}
use Rattle.walrus_payload_writers.proofs.names.write_later.Goals as goal

pub loop-space-preserved : goal.loop-space-preserved
loop-space-preserved c =
    later_on c.args.names.now later_spaces c.loop-space.space-index _ c.args.out.now.items c.loop-space.out.items c.write_items.new.out.items (entries_of c.of.result.now)
    c.loop-space-test.true c.loop-space.invariant c.of.ensures c.in_ok-write_items.ensures
