-- 128 bits as two halves: 18446744073709551616 is 2^64.
use Rattle.std.specs.Prelude.{◌≡◌, ℕ, ◌+◌, ◌*◌, ◌/◌, ◌%◌, ◌<◌, refl}
use Rattle.std.proofs.Common.{arith}

-- the lower and the upper half
abbrev pub halves_of : ℕ → ℕ × ℕ
halves_of n = (n % 18446744073709551616, n / 18446744073709551616)

pub halves-again : {A : Type 0} (f : ℕ → ℕ → A) (low high : ℕ) → low < 18446744073709551616
    → f (halves_of (low + 18446744073709551616 * high)).0 (halves_of (low + 18446744073709551616 * high)).1 ≡ f low high
halves-again f low high h =
    let l : (low + 18446744073709551616 * high) % 18446744073709551616 ≡ low = omega arith in
    let u : (low + 18446744073709551616 * high) / 18446744073709551616 ≡ high = omega arith in
    rw (l, u) refl
