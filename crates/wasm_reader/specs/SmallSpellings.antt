-- The bytes of what is read beside numbers, runs and names: a byte, a number of seven bits, a length or a count, and a name that is
-- skipped (Core Specification, binary format, values).
use Rattle.std.specs.Prelude.{ℕ, ◌<◌, ◌≤◌, ◌≡◌, List, [], ◌∷◌}
use Rattle.wasm_reader.specs.Numbers.{unsigned, Spells}
use Rattle.wasm_reader.specs.Text.{SpellsName}

-- a byte: itself
abbrev pub SpellsByte : List ℕ → ℕ → Type 0
SpellsByte bytes b = bytes ≡ b ∷ []

-- a byte below 128
abbrev pub SpellsU7 : List ℕ → ℕ → Type 0
SpellsU7 bytes b = SpellsByte bytes b × (b < 128)

-- a length or a count of at most `limit`: its number
abbrev pub SpellsSize : ℕ → List ℕ → ℕ → Type 0
SpellsSize limit bytes n = Spells unsigned 32 bytes n × (n ≤ limit)

-- a name that is skipped: the bytes of a name
abbrev pub SpellsSkipped : List ℕ → Unit {0} → Type 0
SpellsSkipped bytes _ = (text : List ℕ) × SpellsName bytes text
