-- Groups of seven bits, by arithmetic.
use Rattle.std.proofs.Common.{◌≡◌, ◌+◌, ◌-◌, ◌*◌, ◌<◌, ◌≤◌, ◌^◌, ℕ, suc, true, nat_lt, sym, ap, ◌∙◌, arith, bit_or, ◌%◌, refl, inl, inr, ℤ, pos, ◌+ℤ◌, ◌-ℤ◌, ◌*ℤ◌, ◌≤ℤ◌, ◌<ℤ◌}
use lib.IntN.{negsuc}
use Rattle.std.proofs.lemmas.Nat.{pow-add, pow_below}
use Rattle.std.proofs.lemmas.Bool.{cases_lt, lt-ltb, le-leb, le-ltb, ltb-true, leb-true}
use Rattle.std.proofs.Math.Nat.{mul-suc, add_comm, mod-eq_of_lt, mul-le-mul_right, pow-le-pow_right}
use Rattle.std.specs.Int.Bits.{or_shifted_r}
use Rattle.std.proofs.Math.IntN.{pos-*ℤ-negsuc}
use Rattle.std.proofs.lemmas.Int.{ints}
use Rattle.wasm_reader.specs.Numbers.{signed}

-- a number below a shift and a group above it
pub joined_below : (width low group shift : ℕ) → shift ≤ width → low < 2 ^ shift → group < 2 ^ (width - shift) → low + 2 ^ shift * group < 2 ^ width
joined_below width low group shift within below fits =
    let parts : 2 ^ (width - shift) * 2 ^ shift ≡ 2 ^ width = sym (pow-add 2 (width - shift) shift) ∙ ap (λ (n : ℕ). 2 ^ n) (omega arith) in
    let room : (group + 1) * 2 ^ shift ≤ 2 ^ (width - shift) * 2 ^ shift = mul-le-mul_right (2 ^ shift) (omega arith) in
    omega arith

pub joined_is : (low group shift : ℕ) → shift < 64 → low < 2 ^ shift → group < 2 ^ (64 - shift) → bit_or low (group * 2 ^ shift % 18446744073709551616) ≡ low + 2 ^ shift * group
joined_is low group shift within below fits =
    let small : low + 2 ^ shift * group < 18446744073709551616 = joined_below 64 low group shift (omega arith) below fits in
    let above : group * 2 ^ shift < 18446744073709551616 = omega arith in
    rw (mod-eq_of_lt above, or_shifted_r group shift low below) (omega arith)

-- seven wanted bits take each last byte
pub seven_fit : (left b : ℕ) → b < 128 → 7 ≤ left → nat_lt b (2 ^ left) ≡ true
seven_fit left b last wide =
    let power : 2 ^ 7 ≤ 2 ^ left = pow-le-pow_right {n = 2} (omega arith) {i = 7} {j = left} wide in
    lt-ltb b (2 ^ left) (omega arith)

pub seven_fit_signed : (left b : ℕ) → b < 128 → 7 ≤ left → signed.fits left b ≡ true
seven_fit_signed left b last wide =
    let power : 2 ^ 6 ≤ 2 ^ (left - 1) = pow-le-pow_right {n = 2} (omega arith) {i = 6} {j = left - 1} (omega arith) in
    elim (cases_lt b 64) [
      | inl small ↦ rw (lt-ltb b 64 small) (lt-ltb b (2 ^ (left - 1)) (omega arith))
      | inr great ↦ rw (le-ltb b 64 great) (le-leb 128 (b + 2 ^ (left - 1)) (omega arith))
    ]

-- what the test of a last byte's unused bits says
pub fits_positive : (left b : ℕ) → b < 64 → signed.fits left b ≡ true → b < 2 ^ (left - 1)
fits_positive left b small fits = ltb-true b (2 ^ (left - 1)) (rw (lt-ltb b 64 small) at fits)

pub fits_negative : (left b : ℕ) → 64 ≤ b → b < 128 → signed.fits left b ≡ true → 127 - b < 2 ^ (left - 1)
fits_negative left b great last fits =
    let h : 128 ≤ b + 2 ^ (left - 1) = leb-true 128 (b + 2 ^ (left - 1)) (rw (le-ltb b 64 great) at fits) in
    omega arith

pub positive_is : (low last shift : ℕ) → last < 64 → pos (low + 2 ^ shift * last) ≡ pos low +ℤ pos (2 ^ shift) *ℤ signed.value last
positive_is low last shift small = rw (lt-ltb last 64 small) refl

pub negative_is : (low last shift : ℕ) → low < 2 ^ shift → 64 ≤ last → last < 128
    → negsuc (2 ^ shift - 1 - low + 2 ^ shift * (127 - last)) ≡ pos low +ℤ pos (2 ^ shift) *ℤ signed.value last
negative_is low last shift below great small =
    let value : pos last -ℤ pos 128 ≡ negsuc (127 - last) = omega (arith, ints) in
    let product : 2 ^ shift * suc (127 - last) ≡ 2 ^ shift + 2 ^ shift * (127 - last) = mul-suc (2 ^ shift) (127 - last) ∙ add_comm _ _ in
    rw (le-ltb last 64 great, value, pos-*ℤ-negsuc (2 ^ shift) (127 - last), product) (omega (arith, ints))

pub one_above : (shift : ℕ) → shift < 64 → 1 * 2 ^ shift % 18446744073709551616 ≡ 2 ^ shift
one_above shift h =
    let below : 2 ^ shift < 18446744073709551616 = pow_below shift 64 h in
    let same : 1 * 2 ^ shift ≡ 2 ^ shift = omega arith in
    rw same (mod-eq_of_lt below)

pub room_last : (width shift b : ℕ) → width ≤ 64 → nat_lt b (2 ^ (width - shift)) ≡ true → b < 2 ^ (64 - shift)
room_last width shift b wide fits =
    let power : 2 ^ (width - shift) ≤ 2 ^ (64 - shift) = pow-le-pow_right {n = 2} (omega arith) {i = width - shift} {j = 64 - shift} (omega arith) in
    let below = ltb-true b (2 ^ (width - shift)) fits in
    omega arith

pub room_more : (width shift b : ℕ) → width ≤ 64 → b < 256 → 7 < width - shift → b - 128 < 2 ^ (64 - shift)
room_more width shift b wide small more =
    let power : 2 ^ 7 ≤ 2 ^ (64 - shift) = pow-le-pow_right {n = 2} (omega arith) {i = 7} {j = 64 - shift} (omega arith) in
    omega arith

pub room_signed : (width shift b : ℕ) → width ≤ 64 → b < 128 → shift < width → signed.fits (width - shift) b ≡ true → signed.fits (64 - shift) b ≡ true
room_signed width shift b wide last within fits =
    let power : 2 ^ (width - shift - 1) ≤ 2 ^ (64 - shift - 1) = pow-le-pow_right {n = 2} (omega arith) {i = width - shift - 1} {j = 64 - shift - 1} (omega arith) in
    elim (cases_lt b 64) [
      | inl small ↦
          let below = fits_positive (width - shift) b small fits in
          rw (lt-ltb b 64 small) (lt-ltb b (2 ^ (64 - shift - 1)) (omega arith))
      | inr great ↦
          let below = fits_negative (width - shift) b great last fits in
          rw (le-ltb b 64 great) (le-leb 128 (b + 2 ^ (64 - shift - 1)) (omega arith))
    ]

-- the range of a signed number
signed_range : (width low b shift : ℕ) → shift < width → low < 2 ^ shift → b < 128 → signed.fits (width - shift) b ≡ true
    → let n : ℤ = pos low +ℤ pos (2 ^ shift) *ℤ signed.value b in (pos 0 ≤ℤ (n +ℤ pos (2 ^ (width - 1)))) × (n <ℤ pos (2 ^ (width - 1)))
signed_range width low b shift within below last fits =
    let same : width - shift - 1 ≡ width - 1 - shift = omega arith in
    elim (cases_lt b 64) [
      | inl small ↦
          let group = rw same at (fits_positive (width - shift) b small fits) in
          let bound = joined_below (width - 1) low b shift (omega arith) below group in
          rw (sym (positive_is low b shift small)) (omega (arith, ints), omega (arith, ints))
      | inr great ↦
          let group = rw same at (fits_negative (width - shift) b great last fits) in
          let bound = joined_below (width - 1) (2 ^ shift - 1 - low) (127 - b) shift (omega arith) (omega arith) group in
          rw (sym (negative_is low b shift below great last)) (omega (arith, ints), omega (arith, ints))
    ]

pub signed_least : (width low b shift : ℕ) → shift < width → low < 2 ^ shift → b < 128 → signed.fits (width - shift) b ≡ true
    → pos 0 ≤ℤ (pos low +ℤ pos (2 ^ shift) *ℤ signed.value b +ℤ pos (2 ^ (width - 1)))
signed_least width low b shift within below last fits = (signed_range width low b shift within below last fits).0

pub signed_most : (width low b shift : ℕ) → shift < width → low < 2 ^ shift → b < 128 → signed.fits (width - shift) b ≡ true
    → (pos low +ℤ pos (2 ^ shift) *ℤ signed.value b) <ℤ pos (2 ^ (width - 1))
signed_most width low b shift within below last fits = (signed_range width low b shift within below last fits).1
