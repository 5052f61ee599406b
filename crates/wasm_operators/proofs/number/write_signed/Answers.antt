use Rattle.std.proofs.Common.{◌+◌, ℕ, ◌≡◌, rules, ap, to_z, of_z, w64}
use Rattle.std.proofs.lemmas.Int.{to_z-of_z}
use Rattle.wasm_operators.specs.Bytes.{signed_bytes}
use Rattle.wasm_operators.proofs.Shortens.{begins_signed, signed_spelling, shortens_on, shortened}
use Rattle.wasm_operators.proofs.number.write_signed.Goals as goal

pub loop-rest-init : goal.loop-rest-init
loop-rest-init c = begins_signed c.args.out.now.items (to_z w64 (of_z w64 c.args.n)) c.split-negative.result.0 c.split-negative.result.1 c.split-negative.ensures.fits c.split-negative.ensures.number

pub loop-rest-preserved : goal.loop-rest-preserved
loop-rest-preserved c =
    shortens_on (signed_spelling c.split-negative.result.0) c.args.out.now.items _ c.loop-rest.out.items c.write_byte.new.out.items c.loop-rest.rest _
    c.loop-rest.invariant c.loop-rest-test.true c.in_ok-write_byte.ensures (ap (λ (b : ℕ). b + 128) c.group.ensures)

pub returns : goal.returns
returns c =
    let same : to_z w64 (of_z w64 c.args.n) ≡ c.args.n = to_z-of_z w64 c.args.n (search rules) in
    rw same at (shortened (signed_spelling c.split-negative.result.0) c.args.out.now.items (signed_bytes (to_z w64 (of_z w64 c.args.n))) c.loop-rest.out.items c.write_byte-2.new.out.items c.loop-rest.rest _
    c.loop-rest.invariant c.loop-rest-test.false c.group-2.ensures _ c.write_byte-2.ensures)
