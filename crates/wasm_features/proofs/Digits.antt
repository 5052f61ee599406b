-- Digits of numbers, and tests of them.
use Rattle.std.proofs.Common.{◌≡◌, ℕ, zero, suc, ◌&&◌, ◌||◌, not, eqb, ◌<◌, ◌*◌, ◌+◌, ◌%◌, ◌-◌, ◌^◌, min, max, arith, ap, sym, refl, inl, inr}
use Rattle.std.specs.Int.RustNames.{bit_and, bit_or}
use Rattle.std.specs.Int.{bit_at}
use Rattle.std.specs.Prelude.{if◌then◌else◌}
use Rattle.std.proofs.lemmas.Nat.{pow_pos}
use Rattle.std.proofs.lemmas.Nat.Bits.{and_pow, bit_at_and, bit_at_or, bit_at-lt, bit_at-pow_same, bit_at-pow_other, same_from_bits}
use Rattle.std.proofs.lemmas.Bool.{ne_eqb, eq-eqb, cases_eq}
use Rattle.std.proofs.lemmas.Bool.Decides.{same_from_decides, Decides-eqb, Decides-and, Decides-like, nat_tests}

-- a number that has the digits of either has those of one
left_of_both : (n a b : ℕ) → bit_and n (bit_or a b) ≡ bit_or a b → bit_and n a ≡ a
left_of_both n a b h = same_from_bits (bit_and n a) a (λ i.
    let e = ap (λ (m : ℕ). bit_at m i) h in
    omega (arith, e, bit_at_and n (bit_or a b) i, bit_at_or a b i, bit_at_and n a i, bit_at-lt n i, bit_at-lt a i, bit_at-lt b i))

right_of_both : (n a b : ℕ) → bit_and n (bit_or a b) ≡ bit_or a b → bit_and n b ≡ b
right_of_both n a b h = same_from_bits (bit_and n b) b (λ i.
    let e = ap (λ (m : ℕ). bit_at m i) h in
    omega (arith, e, bit_at_and n (bit_or a b) i, bit_at_or a b i, bit_at_and n b i, bit_at-lt n i, bit_at-lt a i, bit_at-lt b i))

both : (n a b : ℕ) → bit_and n a ≡ a → bit_and n b ≡ b → bit_and n (bit_or a b) ≡ bit_or a b
both n a b p q = same_from_bits (bit_and n (bit_or a b)) (bit_or a b) (λ i.
    let e = ap (λ (m : ℕ). bit_at m i) p in
    let f = ap (λ (m : ℕ). bit_at m i) q in
    omega (arith, e, f, bit_at_and n (bit_or a b) i, bit_at_or a b i, bit_at_and n a i, bit_at_and n b i, bit_at-lt n i, bit_at-lt a i, bit_at-lt b i))

-- a number has the digits of either exactly if it has those of each
pub has_both : (n a b : ℕ) → eqb (bit_and n (bit_or a b)) (bit_or a b) ≡ (eqb (bit_and n a) a && eqb (bit_and n b) b)
has_both n a b = same_from_decides _ _ (Decides-eqb _ _)
    (Decides-like _ (λ p. both n a b p.0 p.1) (λ h. (left_of_both n a b h, right_of_both n a b h))
    (Decides-and _ _ (Decides-eqb (bit_and n a) a) (Decides-eqb (bit_and n b) b)))

times : (d m : ℕ) → d < 2 → 0 < m → eqb (d * m) m ≡ eqb d 1
times zero m small some = ne_eqb (zero * m) m (λ e. omega arith)
times (suc zero) m small some = eq-eqb (1 * m) m (omega arith)
times (suc (suc d)) m small some = absurd (omega arith)

-- a number has a power of two exactly if its digit there is 1
pub has_digit : (n k : ℕ) → eqb (bit_and n (2 ^ k)) (2 ^ k) ≡ eqb (bit_at n k) 1
has_digit n k = rw (and_pow n k) (times (bit_at n k) (2 ^ k) (bit_at-lt n k) (pow_pos k))

-- a power of two has its own digit alone
pub digit_of_power : (p k : ℕ) → eqb (bit_at (2 ^ p) k) 1 ≡ eqb p k
digit_of_power p k = elim (cases_eq p k) [
  | inl e ↦ rw (e, bit_at-pow_same k) (sym (eq-eqb k k refl))
  | inr n ↦ rw (bit_at-pow_other p k (λ e. n (sym e))) (sym (ne_eqb p k n))
]

pub either_digit : (x y : ℕ) → x < 2 → y < 2 → eqb (max x y) 1 ≡ (eqb x 1 || eqb y 1)
either_digit x y p q = grind (arith, nat_tests)

pub both_digits : (x y : ℕ) → x < 2 → y < 2 → eqb (min x y) 1 ≡ (eqb x 1 && eqb y 1)
both_digits x y p q = grind (arith, nat_tests)

pub first_digit_alone : (x y : ℕ) → x < 2 → y < 2 → eqb (min x (1 - y)) 1 ≡ (eqb x 1 && not (eqb y 1))
first_digit_alone x y p q = grind (arith, nat_tests)

pub one_digit : (x y : ℕ) → x < 2 → y < 2 → eqb ((x + y) % 2) 1 ≡ (if eqb x 1 then not (eqb y 1) else eqb y 1)
one_digit x y p q = grind (arith, nat_tests)

pub same_digit : (x y : ℕ) → x < 2 → y < 2 → eqb x 1 ≡ eqb y 1 → x ≡ y
same_digit x y p q e = grind (arith, nat_tests)

pub kept_digit : (x y : ℕ) → y < 2 → (y ≡ 1 → x ≡ 1) → min x y ≡ y
kept_digit x zero p h = omega arith
kept_digit x (suc zero) p h = let e = h refl in omega arith
kept_digit x (suc (suc y)) p h = absurd (omega arith)
