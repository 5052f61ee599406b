-- Numbers and bytes in their ranges are spelled, and no others.
use Rattle.std.proofs.Common.{◌≡◌, ◌/◌, ◌^◌, ◌<◌, ℕ, zero, suc, pos, List, [], ◌∷◌, length, refl, ap, subst, arith}
use Rattle.std.specs.List.{All}
use Rattle.std.proofs.lemmas.List.Elements.{All-head, All-tail}
use Rattle.std.proofs.Math.Nat.{pow-suc}
use Rattle.std.specs.Int.Signed.{mag}
use Rattle.wasm_composite_types.specs.wasm_reader.Numbers.{signed, Spells}
use Rattle.wasm_composite_types.specs.wasm_reader.Reading.{little, SpellsLittle, SpellsRun}
use Rattle.wasm_composite_types.specs.wasm_reader.SmallSpellings.{SpellsByte}
use Rattle.wasm_composite_types.specs.wasm_reader.Spelled.{IsShortest-unsigned, IsShortest-signed, spelled_unsigned, spelled_signed}
use Rattle.wasm_operators.specs.ItemSpellings.{SpellsU32, SpellsBelow}
use Rattle.wasm_operators.specs.Bytes.{unsigned_bytes, signed_bytes, little_bytes}
use Rattle.wasm_operators.specs.Ranges.{IsU32}
use Rattle.wasm_operators.specs.RangeLaws.{SpelledIfFits}

pub u32_fits : SpelledIfFits SpellsU32 unsigned_bytes IsU32
u32_fits = record {
  has = λ n h. (IsShortest-unsigned 10 32 n (omega arith) (omega arith) h).spells;
  only = λ bytes n small h. spelled_unsigned 32 bytes n h;
}

pub s32_fits : SpelledIfFits (λ bytes z. Spells signed 32 bytes z) signed_bytes (λ z. mag z < 2 ^ 31)
s32_fits = record {
  has = λ z h. (IsShortest-signed 10 32 z (omega arith) (omega arith) h).spells;
  only = λ bytes z small h. spelled_signed 32 bytes z h;
}

pub s64_fits : SpelledIfFits (λ bytes z. Spells signed 64 bytes z) signed_bytes (λ z. mag z < 2 ^ 63)
s64_fits = record {
  has = λ z h. (IsShortest-signed 10 64 z (omega arith) (omega arith) h).spells;
  only = λ bytes z small h. spelled_signed 64 bytes z h;
}

-- an index as an s33
pub index_spelled : (n : ℕ) → n < 2 ^ 32 → Spells signed 33 (signed_bytes (pos n)) (pos n)
index_spelled n h = (IsShortest-signed 10 33 (pos n) (omega arith) (omega arith) h).spells

-- ---- digits to the base 256

little_size : (size n : ℕ) → length (little_bytes size n) ≡ size
little_size zero n = refl
little_size (suc size) n = ap suc (little_size size (n / 256))

little_back : (size n : ℕ) → n < 256 ^ size → n ≡ little (little_bytes size n)
little_back zero n h = omega arith
little_back (suc size) n h =
    let power = pow-suc 256 size in
    let less : n / 256 < 256 ^ size = omega (arith, h, power) in
    let later = little_back size (n / 256) less in
    omega (arith, later)

little_below : (bytes : List ℕ) → All (λ b. b < 256) bytes → little bytes < 256 ^ length bytes
little_below [] small = omega arith
little_below (b ∷ bytes) small =
    let power = pow-suc 256 (length bytes) in
    let low : b < 256 = All-head (λ b. b < 256) b bytes small in
    let later = little_below bytes (All-tail (λ b. b < 256) b bytes small) in
    omega (arith, power, low, later)

pub little_fits : (size : ℕ) → SpelledIfFits (SpellsLittle size) (little_bytes size) (λ n. n < 256 ^ size)
little_fits size = record {
  has = λ n h. (little_size size n, little_back size n h);
  only = λ bytes n small h. rw h.1 (subst (λ (k : ℕ). little bytes < 256 ^ k) h.0 (little_below bytes small));
}

-- ---- bytes

pub run_fits : (size : ℕ) → SpelledIfFits (SpellsRun size) (λ run. run) (λ run. (length run ≡ size) × All (λ b. b < 256) run)
run_fits size = record {
  has = λ run h. (h.0, refl);
  only = λ bytes run small h. rw h.1 (h.0, small);
}

pub byte_fits : SpelledIfFits SpellsByte (λ b. b ∷ []) (λ b. b < 256)
byte_fits = record {
  has = λ b h. refl;
  only = λ bytes b small h. All-head (λ b. b < 256) b [] (subst (λ (l : List ℕ). All (λ b. b < 256) l) h small);
}

pub below_fits : (bound : ℕ) → SpelledIfFits (SpellsBelow bound) (λ b. b ∷ []) (λ b. b < bound)
below_fits bound = record {
  has = λ b h. (refl, h);
  only = λ bytes b small h. h.1;
}
