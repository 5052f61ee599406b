-- What a call that writes puts behind the output.
use Rattle.std.specs.Prelude.{ℕ, ◌≡◌, ◌<◌, ◌≤◌, ◌^◌, ◌⊎◌, List, ◌++◌, length, Result, MatchResult}
use Rattle.wasm_formats.specs.declared.fault.Limited.TheVariants.{File}
use Rattle.wasm_reader.specs.Shortest.{u32_bytes}
use Rattle.wasm_name_payloads.specs.Written.{name_bytes, part_bytes}
use Rattle.walrus_errors.specs.declared.error.ModuleError.{ModuleError}
use Rattle.walrus_errors.specs.declared.error.ModuleError.TheVariants.{Memory, OutputLimit}
use Rattle.walrus_operators.specs.Appended.{Keeps}

-- the limit of a file is passed by so many bytes alone
abbrev pub IsTooMany : ℕ → ModuleError → Type 0
IsTooMany n e = (e ≡ OutputLimit File) × (2 ^ 30 < n)

-- what was there stands at the front; memory was refused, or the bytes are more than a file may have
pub record Refused (bytes old new : List ℕ) (e : ModuleError) : Type 0 where
  pub keeps : Keeps old new
  pub cause : (e ≡ Memory) ⊎ IsTooMany (length bytes) e

-- these bytes were put behind what was there
abbrev pub Writes : List ℕ → List ℕ → List ℕ → Result (Unit {0}) ModuleError → Type 0
Writes bytes old new result = MatchResult result (λ _. new ≡ old ++ bytes) (λ e. Refused bytes old new e)

-- the same of a size, refused where so many bytes are too many: for these no memory is asked
pub record SizeRefused (size : ℕ) (old new : List ℕ) (e : ModuleError) : Type 0 where
  pub keeps : Keeps old new
  pub cause : ((e ≡ Memory) × (size ≤ 2 ^ 30)) ⊎ IsTooMany size e

abbrev pub SizeWritten : ℕ → List ℕ → List ℕ → Result (Unit {0}) ModuleError → Type 0
SizeWritten size old new result = MatchResult result (λ _. new ≡ old ++ u32_bytes size) (λ e. SizeRefused size old new e)

-- a custom section (Core Specification, binary format: custom section)
abbrev pub custom_bytes : (name payload : List ℕ) → List ℕ
custom_bytes name payload = part_bytes 0 (name_bytes name ++ payload)
