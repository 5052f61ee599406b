use Rattle.std.proofs.Common.{arith, sym, ℕ, ◌-◌, ◌^◌}
use Rattle.std.proofs.lemmas.Result.{err_from_is_err_and}
use Rattle.std.proofs.lemmas.Bool.{ltb-true}
use Rattle.wasm_reader.specs.declared.error.ErrorKind.TheVariants.{TooLarge}
use Rattle.wasm_reader.specs.Reading.{plain}
use Rattle.wasm_reader.proofs.Bits.{room_last, room_more, joined_below}
use Rattle.wasm_reader.proofs.Loop.{raises_unsigned, starts, goes_on, ends, ends_wrong, ends_long, misses}
use Rattle.wasm_reader.proofs.reader.BinaryReader.read_unsigned.Goals as goal

pub loop-byte-init : goal.loop-byte-init
loop-byte-init c = starts raises_unsigned TooLarge c.args.self.now c.args.width c.requires.some

pub returns-in_err-byte-clause-number : goal.returns-in_err-byte-clause-number
returns-in_err-byte-clause-number c =
    let p = err_from_is_err_and c.from_residual.result c.from_residual.ensures.1 in
    rw (p.1, p.2) (misses raises_unsigned TooLarge plain c.args.self.now c.loop-byte.self c.read_u8.new.self c.args.width c.loop-byte.shift c.loop-byte.low 0 c.loop-byte.invariant _ c.in_err-byte.ensures)

pub returns-then-not-unsigned_fits-clause-number : goal.returns-then-not-unsigned_fits-clause-number
returns-then-not-unsigned_fits-clause-number c =
    ends_wrong raises_unsigned TooLarge plain c.args.self.now c.loop-byte.self c.read_u8.new.self c.args.width c.loop-byte.shift c.loop-byte.low c.in_ok-byte.byte c.loop-byte.invariant c.in_ok-byte.ensures
    c.new.result c.new.ensures.kind (rw c.new.ensures.offset c.original_position-offset.ensures.left) c.if-byte-lt128.true (sym c.if-not-unsigned_fits.ensures)

pub joined-requires-clause-fits : goal.joined-requires-clause-fits
joined-requires-clause-fits c = room_last c.args.width c.loop-byte.shift c.in_ok-byte.byte c.requires.wide (sym c.if-not-unsigned_fits.ensures)

pub returns-then-byte-lt128-clause-number : goal.returns-then-byte-lt128-clause-number
returns-then-byte-lt128-clause-number c =
    ends raises_unsigned TooLarge plain c.args.self.now c.loop-byte.self c.read_u8.new.self c.args.width c.loop-byte.shift c.loop-byte.low c.in_ok-byte.byte c.loop-byte.invariant c.in_ok-byte.ensures
    c.joined.result c.if-byte-lt128.true (sym c.if-not-unsigned_fits.ensures) c.joined.ensures

pub returns-then-byte-lt128-clause-range : goal.returns-then-byte-lt128-clause-range
returns-then-byte-lt128-clause-range c =
    rw c.joined.ensures (joined_below c.args.width c.loop-byte.low c.in_ok-byte.byte c.loop-byte.shift (omega (arith, c.loop-byte.invariant)) c.loop-byte.invariant.below (ltb-true c.in_ok-byte.byte (2 ^ (c.args.width - c.loop-byte.shift)) (sym c.if-not-unsigned_fits.ensures)))

pub returns-then-left-le7-clause-number : goal.returns-then-left-le7-clause-number
returns-then-left-le7-clause-number c =
    ends_long raises_unsigned TooLarge plain c.args.self.now c.loop-byte.self c.read_u8.new.self c.args.width c.loop-byte.shift c.loop-byte.low c.in_ok-byte.byte c.loop-byte.invariant c.in_ok-byte.ensures
    c.new-then-left-le7.result c.new-then-left-le7.ensures.kind (rw c.new-then-left-le7.ensures.offset c.original_position-offset.ensures.left) c.if-byte-lt128.false c.if-left-le7.true

pub joined-low-requires-clause-fits : goal.joined-low-requires-clause-fits
joined-low-requires-clause-fits c = room_more c.args.width c.loop-byte.shift c.in_ok-byte.byte c.requires.wide (omega arith) c.if-left-le7.false

pub loop-byte-preserved : goal.loop-byte-preserved
loop-byte-preserved c =
    rw c.joined-low.ensures (goes_on raises_unsigned TooLarge (plain {X = ℕ}) c.args.self.now c.loop-byte.self c.read_u8.new.self c.args.width c.loop-byte.shift c.loop-byte.low c.in_ok-byte.byte c.loop-byte.invariant c.in_ok-byte.ensures
    c.if-byte-lt128.false c.if-left-le7.false (omega arith))
