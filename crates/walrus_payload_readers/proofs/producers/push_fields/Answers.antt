use Rattle.std.proofs.Common.{subst}
use Rattle.wasm_name_payloads.specs.Keepers.{one}
use Rattle.wasm_name_payloads.specs.Producers.{field}
use Rattle.walrus_customs.specs.Producers.{field_of}
use Rattle.walrus_payload_readers.specs.Keeps.{Keeps}
use Rattle.walrus_payload_readers.specs.Counts.{goes_on, stops}
use Rattle.walrus_payload_readers.proofs.producers.push_fields.Goals as goal

pub returns-then-not-branch : goal.returns-then-not-branch
returns-then-not-branch c =
    stops (one field) field_of c.args.fields.now.items c.loop.fields.items c.push_field.new.fields.items c.args.reader.now c.loop.reader c.push_field.new.reader c.args.count c.loop.counter
    c.loop.invariant c.loop-test.true
    (subst (λ b. Keeps (one field).keeps field_of c.loop.fields.items c.push_field.new.fields.items c.loop.reader c.push_field.new.reader b) c.if-not-branch.true c.in_ok-push_field.ensures)

pub loop-preserved : goal.loop-preserved
loop-preserved c =
    goes_on (one field) field_of c.args.fields.now.items c.loop.fields.items c.push_field.new.fields.items c.args.reader.now c.loop.reader c.push_field.new.reader c.args.count c.loop.counter
    c.loop.invariant c.loop-test.true
    (subst (λ b. Keeps (one field).keeps field_of c.loop.fields.items c.push_field.new.fields.items c.loop.reader c.push_field.new.reader b) c.if-not-branch.false c.in_ok-push_field.ensures)
