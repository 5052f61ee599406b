-- Which bytes are no number, and where the fault stands (Core Specification, binary format, values: integers).
use Rattle.std.specs.Prelude.{ℕ, ◌+◌, ◌-◌, ◌*◌, ◌<◌, ◌≤◌, ◌≡◌, ◌⊎◌, ◌↔◌, false, List, ◌∷◌, ◌++◌, length, Err, All}
use Rattle.wasm_reader.specs.declared.error.ErrorKind.{ErrorKind}
use Rattle.wasm_reader.specs.declared.error.ErrorKind.TheVariants as kinds
use Rattle.wasm_reader.specs.Reading.{Fault, fault}
use Rattle.wasm_reader.specs.Numbers.{Style, number_at}

-- these bytes all go on, and the width allows another byte
pub record GoesOn (width : ℕ) (front : List ℕ) : Type 0 where
  pub goes : All (λ b. 128 ≤ b) front
  pub allowed : 7 * length front < width

-- the bytes end before the number
pub record EndsBefore (width : ℕ) (bytes : List ℕ) (f : Fault) : Type 0 where
  pub on : GoesOn width bytes
  pub is : f ≡ fault (kinds.EndOfFile 1) 0

-- the last byte that the width allows goes on
pub record RunsLong (width : ℕ) (bytes : List ℕ) (f : Fault) : Type 0 where
  pub front : List ℕ
  pub last : ℕ
  pub later : List ℕ
  pub joined : bytes ≡ front ++ last ∷ later
  pub on : GoesOn width front
  pub goes : 128 ≤ last
  pub full : width ≤ 7 * length front + 7
  pub is : f ≡ fault kinds.TooLong (length later + 1)

-- the last byte's unused bits are not as they have to be
pub record EndsWrong {A : Type 0} (s : Style A) (wrong : ErrorKind) (width : ℕ) (bytes : List ℕ) (f : Fault) : Type 0 where
  pub front : List ℕ
  pub last : ℕ
  pub later : List ℕ
  pub joined : bytes ≡ front ++ last ∷ later
  pub on : GoesOn width front
  pub ends : last < 128
  pub unfit : s.fits (width - 7 * length front) last ≡ false
  pub is : f ≡ fault wrong (length later + 1)

-- a number is refused exactly for one of these reasons, at its place
abbrev pub RefusesExactly : {A : Type 0} → Style A → ErrorKind → ℕ → Type 0
RefusesExactly s wrong width = (bytes : List ℕ) (f : Fault)
    → (number_at s wrong width bytes ≡ Err f) ↔ (EndsBefore width bytes f ⊎ (RunsLong width bytes f ⊎ EndsWrong s wrong width bytes f))
