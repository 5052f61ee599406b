-- Where the contents of the code section begin (Core Specification, binary format: modules, sections).
use Rattle.std.specs.Prelude.{ℕ, ◌≡◌, List, [], ◌∷◌, ◌++◌, Ok}
use Rattle.wasm_reader.specs.Reading.{Reading, byte_at, bytes_at, ◌>>=◌}
use Rattle.wasm_reader.specs.Numbers.{unsigned_at}

-- the magic number and the version
abbrev pub header : List ℕ
header = 0x00 ∷ 0x61 ∷ 0x73 ∷ 0x6d ∷ 0x01 ∷ 0x00 ∷ 0x00 ∷ 0x00 ∷ []

-- the id and the size of a section, and the bytes behind them
abbrev pub section_at : List ℕ → Reading (ℕ × ℕ)
section_at bytes = do
  id ← byte_at bytes
  size ← unsigned_at 32 id.1
  Ok ((id.0, size.0), size.1)

-- the contents of the first section with id 10 begin here, where the sections in front of it are whole
pub data CodeBegins : List ℕ → List ℕ → Type 0 where
  here : {bytes contents : List ℕ} (size : ℕ) → section_at bytes ≡ Ok ((10, size), contents) → CodeBegins bytes contents
  behind : {bytes contents : List ℕ} (id size : ℕ) (left run later : List ℕ) → section_at bytes ≡ Ok ((id, size), left) → (id ≡ 10 → ⊥)
      → bytes_at size left ≡ Ok (run, later) → CodeBegins later contents → CodeBegins bytes contents

-- the file begins as a module, and these are its bytes from where the contents of its code section begin
abbrev pub IsCodeOf : List ℕ → List ℕ → Type 0
IsCodeOf file contents = (sections : List ℕ) × (file ≡ header ++ sections) × CodeBegins sections contents
