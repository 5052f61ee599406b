-- Keys by which names are sorted.
use Rattle.std.specs.Prelude.{ℕ, ◌≡◌, ◌*◌, ◌%◌, ◌^◌, ◌==◌, ◌&&◌, nat_le, nat_lt, bit_xor, Bool, List, fold, Some, slice_get, if◌then◌else◌}
use Rattle.std.specs.Str.{bytes_eq}
use Rattle.walrus_export_reader.specs.declared.repeats.Key.{Key}

abbrev pub mix_byte : ℕ → ℕ → ℕ
mix_byte mixed byte = (bit_xor mixed byte * 0x100000001b3) % 2 ^ 64

abbrev pub mixed_of : List ℕ → ℕ
mixed_of name = fold mix_byte 0xcbf29ce484222325 name

-- the key of the name at its number
pub record IsKey (names : List (List ℕ)) (k : Key) : Type 0 where
  pub name : slice_get names k.number ≡ Some k.name.now
  pub mixed : k.mixed ≡ mixed_of k.name.now

abbrev pub is_same : Key → Key → Bool
is_same one other = one.mixed == other.mixed && bytes_eq one.name.now other.name.now

abbrev pub less_of : ℕ → ℕ → Key → Key → ℕ
less_of first from one other = if is_same one other && nat_le from other.number && nat_lt other.number first then other.number else first
