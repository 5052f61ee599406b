use Rattle.std.proofs.Common.{arith, rules, ◌≡◌, sym, ℤ, to_z, of_z, w64}
use Rattle.std.proofs.lemmas.Int.{to_z-of_z}
use Rattle.std.proofs.lemmas.Result.{err_from_is_err_and}
use Rattle.wasm_reader.specs.Reading.{plain}
use Rattle.wasm_reader.proofs.Bits.{room_signed, room_more, signed_least, signed_most}
use Rattle.wasm_reader.proofs.Loop.{raises_signed, starts, goes_on, ends, ends_wrong, ends_long, misses}
use Rattle.wasm_reader.proofs.reader.BinaryReader.read_signed.Goals as goal

pub loop-byte-init : goal.loop-byte-init
loop-byte-init c = starts raises_signed c.args.wrong c.args.self.now c.args.width c.requires.some

pub returns-in_err-byte-clause-number : goal.returns-in_err-byte-clause-number
returns-in_err-byte-clause-number c =
    let p = err_from_is_err_and c.from_residual.result c.from_residual.ensures.1 in
    rw (p.1, p.2) (misses raises_signed c.args.wrong (plain {X = ℤ}) c.args.self.now c.loop-byte.self c.read_u8.new.self c.args.width c.loop-byte.shift c.loop-byte.low 0 c.loop-byte.invariant _ c.in_err-byte.ensures)

pub returns-then-not-signed_fits-clause-number : goal.returns-then-not-signed_fits-clause-number
returns-then-not-signed_fits-clause-number c =
    ends_wrong raises_signed c.args.wrong (plain {X = ℤ}) c.args.self.now c.loop-byte.self c.read_u8.new.self c.args.width c.loop-byte.shift c.loop-byte.low c.in_ok-byte.byte c.loop-byte.invariant c.in_ok-byte.ensures
    c.new.result c.new.ensures.kind (rw c.new.ensures.offset c.original_position-offset.ensures.left) c.if-byte-lt128.true (sym c.if-not-signed_fits.ensures)

pub signed_joined-requires-clause-fits : goal.signed_joined-requires-clause-fits
signed_joined-requires-clause-fits c = room_signed c.args.width c.loop-byte.shift c.in_ok-byte.byte c.requires.wide c.if-byte-lt128.true c.loop-byte.invariant.within (sym c.if-not-signed_fits.ensures)

pub returns-then-byte-lt128-clause-number : goal.returns-then-byte-lt128-clause-number
returns-then-byte-lt128-clause-number c =
    let same : to_z w64 (of_z w64 c.signed_joined.result) ≡ c.signed_joined.result = to_z-of_z w64 c.signed_joined.result (search rules) in
    rw same (ends raises_signed c.args.wrong (plain {X = ℤ}) c.args.self.now c.loop-byte.self c.read_u8.new.self c.args.width c.loop-byte.shift c.loop-byte.low c.in_ok-byte.byte c.loop-byte.invariant c.in_ok-byte.ensures
    c.signed_joined.result c.if-byte-lt128.true (sym c.if-not-signed_fits.ensures) c.signed_joined.ensures)

pub returns-then-byte-lt128-clause-least : goal.returns-then-byte-lt128-clause-least
returns-then-byte-lt128-clause-least c =
    let same : to_z w64 (of_z w64 c.signed_joined.result) ≡ c.signed_joined.result = to_z-of_z w64 c.signed_joined.result (search rules) in
    rw (same, c.signed_joined.ensures) (signed_least c.args.width c.loop-byte.low c.in_ok-byte.byte c.loop-byte.shift c.loop-byte.invariant.within c.loop-byte.invariant.below c.if-byte-lt128.true (sym c.if-not-signed_fits.ensures))

pub returns-then-byte-lt128-clause-most : goal.returns-then-byte-lt128-clause-most
returns-then-byte-lt128-clause-most c =
    let same : to_z w64 (of_z w64 c.signed_joined.result) ≡ c.signed_joined.result = to_z-of_z w64 c.signed_joined.result (search rules) in
    rw (same, c.signed_joined.ensures) (signed_most c.args.width c.loop-byte.low c.in_ok-byte.byte c.loop-byte.shift c.loop-byte.invariant.within c.loop-byte.invariant.below c.if-byte-lt128.true (sym c.if-not-signed_fits.ensures))

pub returns-then-left-le7-clause-number : goal.returns-then-left-le7-clause-number
returns-then-left-le7-clause-number c =
    ends_long raises_signed c.args.wrong (plain {X = ℤ}) c.args.self.now c.loop-byte.self c.read_u8.new.self c.args.width c.loop-byte.shift c.loop-byte.low c.in_ok-byte.byte c.loop-byte.invariant c.in_ok-byte.ensures
    c.new-then-left-le7.result c.new-then-left-le7.ensures.kind (rw c.new-then-left-le7.ensures.offset c.original_position-offset.ensures.left) c.if-byte-lt128.false c.if-left-le7.true

pub joined-low-requires-clause-fits : goal.joined-low-requires-clause-fits
joined-low-requires-clause-fits c = room_more c.args.width c.loop-byte.shift c.in_ok-byte.byte c.requires.wide (omega arith) c.if-left-le7.false

pub loop-byte-preserved : goal.loop-byte-preserved
loop-byte-preserved c =
    rw c.joined-low.ensures (goes_on raises_signed c.args.wrong (plain {X = ℤ}) c.args.self.now c.loop-byte.self c.read_u8.new.self c.args.width c.loop-byte.shift c.loop-byte.low c.in_ok-byte.byte c.loop-byte.invariant c.in_ok-byte.ensures
    c.if-byte-lt128.false c.if-left-le7.false (omega arith))
