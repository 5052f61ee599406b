-- A u32 takes no more than five bytes.
use Rattle.std.specs.Prelude.{ℕ, zero, suc, ◌+◌, ◌*◌, ◌/◌, ◌%◌, ◌<◌, ◌≡◌, ◌^◌, List, ◌∷◌, refl}
use Rattle.std.proofs.Common.{ap, arith, inl, inr}
use Rattle.std.proofs.lemmas.Bool.{cases_lt, lt-ltb, le-ltb}
use Rattle.wasm_reader.specs.Shortest.{shortest_unsigned, u32_bytes}

-- numbers of `count + 1` digits are below this
abbrev bound : ℕ → ℕ
bound zero = 128
bound (suc count) = 128 * bound count

-- room for so many digits more
abbrev digits : ℕ → ℕ → ℕ
digits zero more = more
digits (suc count) more = suc (digits count more)

agree : (count more n : ℕ) → n < bound count → shortest_unsigned (suc (digits count more)) n ≡ shortest_unsigned (suc count) n
unfolding shortest_unsigned
agree zero more n below = rw (lt-ltb n 128 below) refl
agree (suc count) more n below = elim (cases_lt n 128) [
  | inl lt ↦ rw (lt-ltb n 128 lt) refl
  | inr le ↦ rw (le-ltb n 128 le) (ap (λ (l : List ℕ). (n % 128 + 128) ∷ l) (agree count more (n / 128) (omega (arith, below))))
]

pub u32_is : (n : ℕ) → n < 2 ^ 32 → shortest_unsigned 10 n ≡ u32_bytes n
u32_is n below = agree 4 5 n (omega (arith, below))
