-- Bytes of a number, the lowest first.
use Rattle.std.proofs.Common.{◌≡◌, ◌/◌, ◌%◌, ◌^◌, ℕ, zero, suc, List, ◌∷◌, ap, sym, ◌∙◌, refl, w32, w64}
use Rattle.std.proofs.Math.Nat.{pow-suc, div-div-eq-div-mul}
use Rattle.std.specs.Int.{bytes_low_first, to_le_bytes}
use Rattle.wasm_operators.specs.Bytes.{little_bytes}

from_byte : (i k n : ℕ) → bytes_low_first (suc i) k n ≡ little_bytes k (n / 256 ^ suc i)
from_byte i zero n = refl
from_byte i (suc k) n =
    ap (λ (later : List ℕ). n / 256 ^ suc i % 256 ∷ later) (from_byte (suc i) k n ∙ ap (λ (m : ℕ). little_bytes k m) (further i n))
  where
    further : (i n : ℕ) → n / 256 ^ suc (suc i) ≡ n / 256 ^ suc i / 256
    further i n = ap (λ (m : ℕ). n / m) (pow-suc 256 (suc i)) ∙ sym (div-div-eq-div-mul n (256 ^ suc i) 256)

pub four_bytes : (n : ℕ) → to_le_bytes w32 n ≡ little_bytes 4 n
four_bytes n = ap (λ (later : List ℕ). n % 256 ∷ later) (from_byte 0 3 n)

pub eight_bytes : (n : ℕ) → to_le_bytes w64 n ≡ little_bytes 8 n
eight_bytes n = ap (λ (later : List ℕ). n % 256 ∷ later) (from_byte 0 7 n)
