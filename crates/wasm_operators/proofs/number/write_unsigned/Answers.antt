use Rattle.std.proofs.Common.{refl}
use Rattle.wasm_operators.specs.Bytes.{unsigned_bytes}
use Rattle.wasm_operators.proofs.Shortens.{begins_unsigned, unsigned_spelling, shortens_on, shortened}
use Rattle.wasm_operators.proofs.number.write_unsigned.Goals as goal

pub loop-rest-init : goal.loop-rest-init
loop-rest-init c = begins_unsigned c.args.out.now.items c.args.n c.ranges.n.fits

pub loop-rest-preserved : goal.loop-rest-preserved
loop-rest-preserved c =
    shortens_on unsigned_spelling c.args.out.now.items (unsigned_bytes c.args.n) c.loop-rest.out.items c.write_byte.new.out.items c.loop-rest.rest _
    c.loop-rest.invariant c.loop-rest-test.true c.in_ok-write_byte.ensures refl

pub returns : goal.returns
returns c =
    shortened unsigned_spelling c.args.out.now.items (unsigned_bytes c.args.n) c.loop-rest.out.items c.write_byte-2.new.out.items c.loop-rest.rest _
    c.loop-rest.invariant c.loop-rest-test.false refl _ c.write_byte-2.ensures
