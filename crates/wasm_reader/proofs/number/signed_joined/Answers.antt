use Rattle.std.proofs.Common.{arith, ◌≡◌, ◌≤◌, ◌<◌, ◌^◌, ◌+◌, ◌-◌, ◌*◌, true, ap, ◌∙◌, pos, ◌-ℤ◌, ◌%◌, ℕ, w64, to_z, of_z}
use Rattle.std.proofs.lemmas.Int.{ints, to_z_pos}
use Rattle.wasm_reader.proofs.Bits.{joined_below, fits_positive, fits_negative, positive_is, negative_is, one_above}
use Rattle.wasm_reader.specs.Numbers.{signed}
use lib.IntN.{negsuc}
use Rattle.wasm_reader.proofs.number.signed_joined.Goals as goal

small : (shift : ℕ) → shift < 64 → 64 - shift - 1 ≡ 63 - shift
small shift h = omega arith

complement_below : (low last shift j : ℕ) → shift < 64 → low < 2 ^ shift → 64 ≤ last → last < 128 → signed.fits (64 - shift) last ≡ true
    → j ≡ 1 * 2 ^ shift % 18446744073709551616 - 1 - low + 2 ^ shift * (127 - last) → j < 2 ^ 63
complement_below low last shift j within below great top fits e =
    let group = fits_negative (64 - shift) last great top fits in
    let value : j ≡ 2 ^ shift - 1 - low + 2 ^ shift * (127 - last) = (rw (one_above shift within) at e) in
    let bound = joined_below 63 (2 ^ shift - 1 - low) (127 - last) shift (omega arith) (omega arith) (rw (small shift within) at group) in
    omega arith

pub overflow_cast-result : goal.overflow_cast-result
overflow_cast-result c =
    let group = fits_positive (64 - c.args.shift) c.args.last (omega arith) c.requires.fits in
    let below = joined_below 63 c.args.low c.args.last c.args.shift (omega arith) c.requires.below (rw (small c.args.shift c.requires.within) at group) in
    omega (arith, ints)

pub overflow_cast-result-else-last-lt64 : goal.overflow_cast-result-else-last-lt64
overflow_cast-result-else-last-lt64 c =
    let below : c.joined-else-last-lt64.result < 2 ^ 63 = complement_below c.args.low c.args.last c.args.shift c.joined-else-last-lt64.result c.requires.within c.requires.below (omega arith) c.requires.last c.requires.fits c.joined-else-last-lt64.ensures in
    omega (arith, ints)

pub returns-then-last-lt64 : goal.returns-then-last-lt64
returns-then-last-lt64 c =
    let group = fits_positive (64 - c.args.shift) c.args.last (omega arith) c.requires.fits in
    let below = joined_below 63 c.args.low c.args.last c.args.shift (omega arith) c.requires.below (rw (small c.args.shift c.requires.within) at group) in
    to_z_pos w64 c.joined.result (omega arith) ∙ ap pos c.joined.ensures ∙ positive_is c.args.low c.args.last c.args.shift (omega arith)

pub returns-else-last-lt64 : goal.returns-else-last-lt64
returns-else-last-lt64 c =
    let below : c.joined-else-last-lt64.result < 2 ^ 63 = complement_below c.args.low c.args.last c.args.shift c.joined-else-last-lt64.result c.requires.within c.requires.below (omega arith) c.requires.last c.requires.fits c.joined-else-last-lt64.ensures in
    let value : c.joined-else-last-lt64.result ≡ 2 ^ c.args.shift - 1 - c.args.low + 2 ^ c.args.shift * (127 - c.args.last) = (rw (one_above c.args.shift c.requires.within) at c.joined-else-last-lt64.ensures) in
    let same : to_z w64 (of_z w64 (negsuc 0 -ℤ to_z w64 c.joined-else-last-lt64.result)) ≡ negsuc c.joined-else-last-lt64.result = omega (arith, ints) in
    same ∙ ap negsuc value ∙ negative_is c.args.low c.args.last c.args.shift c.requires.below (omega arith) c.requires.last
