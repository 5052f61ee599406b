-- LEB128 numbers (Core Specification, binary format, values: integers).
use Rattle.std.specs.Prelude.{ℕ, ◌+◌, ◌-◌, ◌*◌, ◌^◌, ◌<◌, ◌≤◌, ◌≡◌, ◌⊎◌, nat_lt, nat_le, Bool, true, ℤ, pos, ◌+ℤ◌, ◌-ℤ◌, ◌*ℤ◌, List, [], ◌∷◌, length, Ok, Err, if◌then◌else◌}
use Rattle.wasm_reader.specs.declared.error.ErrorKind.{ErrorKind}
use Rattle.wasm_reader.specs.declared.error.ErrorKind.TheVariants as kinds
use Rattle.wasm_reader.specs.Reading.{Reading, fault, ◌>>=◌}

-- how the bytes of a number stand for it
pub record Style (A : Type 0) : Type 0 where
  -- of a last byte
  pub value : ℕ → A
  -- of a width and a last byte: the unused bits are as they have to be
  pub fits : ℕ → ℕ → Bool
  -- the low seven bits, and the number that the later bytes stand for
  pub onto : ℕ → A → A

-- uN
abbrev pub unsigned : Style ℕ
unsigned = record { value = λ b. b; fits = λ width b. nat_lt b (2 ^ width); onto = λ low high. low + 128 * high }

-- sN
abbrev pub signed : Style ℤ
signed = record {
  value = λ b. if nat_lt b 64 then pos b else (pos b -ℤ pos 128);
  fits = λ width b. if nat_lt b 64 then nat_lt b (2 ^ (width - 1)) else nat_le 128 (b + 2 ^ (width - 1));
  onto = λ low high. pos low +ℤ pos 128 *ℤ high;
}

-- the production of a last byte
abbrev pub EndsNumber : {A : Type 0} → Style A → ℕ → ℕ → List ℕ → A → Type 0
EndsNumber s width b bytes n = (b < 128) × (bytes ≡ []) × (s.fits width b ≡ true) × (n ≡ s.value b)

-- the bytes spell the number within the width
abbrev pub Spells : {A : Type 0} → Style A → ℕ → List ℕ → A → Type 0
Spells s width [] n = ⊥
Spells {A} s width (b ∷ bytes) n =
    EndsNumber s width b bytes n
    ⊎ ((128 ≤ b) × (b < 256) × (7 < width) × (high : A) × (n ≡ s.onto (b - 128) high) × Spells s (width - 7) bytes high)

-- a number's reading; `wrong` is the fault of a last byte whose unused bits are not as they have to be
unfoldable pub number_at : {A : Type 0} → Style A → ErrorKind → ℕ → List ℕ → Reading A
number_at s wrong width [] = Err (fault (kinds.EndOfFile 1) 0)
number_at s wrong width (b ∷ bytes) =
    if nat_lt b 128 then
    (if s.fits width b then Ok (s.value b, bytes) else Err (fault wrong (length bytes + 1)))
    else (if nat_le width 7 then Err (fault kinds.TooLong (length bytes + 1))
    else (number_at s wrong (width - 7) bytes >>= λ x. Ok (s.onto (b - 128) x.0, x.1)))

-- uN
abbrev pub unsigned_at : ℕ → List ℕ → Reading ℕ
unsigned_at width = number_at unsigned kinds.TooLarge width

-- sN
abbrev pub signed_at : ℕ → List ℕ → Reading ℤ
signed_at width = number_at signed kinds.TooLarge width

-- s33, of which wrong unused bits count as too long
abbrev pub s33_at : List ℕ → Reading ℤ
s33_at = number_at signed kinds.TooLong 33
