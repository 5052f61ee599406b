-- The shortest spelling of a number (Core Specification, binary format, values: integers).
use Rattle.std.specs.Prelude.{ℕ, zero, suc, ◌+◌, ◌-◌, ◌/◌, ◌%◌, ◌≤◌, nat_lt, ℤ, pos, negsuc, List, [], ◌∷◌, length, if◌then◌else◌}
use Rattle.wasm_reader.specs.Numbers.{Style, Spells}

-- these bytes spell the number, and no fewer bytes do
pub record IsShortest {A : Type 0} (s : Style A) (width : ℕ) (bytes : List ℕ) (n : A) : Type 0 where
  pub spells : Spells s width bytes n
  pub least : (others : List ℕ) → Spells s width others n → length bytes ≤ length others

-- the low seven bits first, in at most `count` bytes
unfoldable pub shortest_unsigned : ℕ → ℕ → List ℕ
shortest_unsigned zero n = []
shortest_unsigned (suc count) n = if nat_lt n 128 then n ∷ [] else ((n % 128 + 128) ∷ shortest_unsigned count (n / 128))

-- the same of a signed number, where -(n + 1) is `negsuc n`
unfoldable pub shortest_signed : ℕ → ℤ → List ℕ
shortest_signed zero z = []
shortest_signed (suc count) (pos n) = if nat_lt n 64 then n ∷ [] else ((n % 128 + 128) ∷ shortest_signed count (pos (n / 128)))
shortest_signed (suc count) (negsuc n) = if nat_lt n 64 then (127 - n) ∷ [] else ((255 - n % 128) ∷ shortest_signed count (negsuc (n / 128)))

-- a u32, and the lengths, counts and indices of the format
abbrev pub u32_bytes : ℕ → List ℕ
u32_bytes = shortest_unsigned 5

abbrev pub u64_bytes : ℕ → List ℕ
u64_bytes = shortest_unsigned 10

abbrev pub s32_bytes : ℤ → List ℕ
s32_bytes = shortest_signed 5

abbrev pub s33_bytes : ℤ → List ℕ
s33_bytes = shortest_signed 5

abbrev pub s64_bytes : ℤ → List ℕ
s64_bytes = shortest_signed 10
