-- Lemmas: the numbers that are written are the shortest ones.
use Rattle.std.specs.Prelude.{ℕ, zero, suc, ◌+◌, ◌*◌, ◌/◌, ◌%◌, ◌<◌, ◌≤◌, ◌≡◌, List, [], ◌∷◌, length, All, refl}
use Rattle.std.proofs.Common.{ap, sym, ◌∙◌, subst, arith, inl, inr}
use Rattle.std.proofs.lemmas.Bool.{cases_lt, lt-ltb, le-ltb}
use Rattle.std.proofs.lemmas.List.Elements.{All-head, All-tail}
use Rattle.wasm_composite_types.specs.wasm_reader.Numbers.{unsigned, signed, Spells}
use Rattle.wasm_composite_types.specs.wasm_reader.Reading.{little, SpellsLittle, SpellsRun}
use Rattle.wasm_composite_types.specs.wasm_reader.Shortest.{shortest_unsigned}
use Rattle.wasm_composite_types.specs.wasm_reader.Spelled.{IsShortest-unsigned, IsShortest-signed, spelled_unsigned, spelled_signed}
use Rattle.wasm_operators.specs.Bytes.{unsigned_bytes, signed_bytes, little_bytes}
use Rattle.wasm_operators.specs.Laws.{WritesShortest}

-- bytes that are the only ones
pub same_short : {A : Type 0} (spells : List ℕ → A → Type 0) (x : A) (bytes written : List ℕ) → bytes ≡ written → spells bytes x → spells written x × (length written ≤ length bytes)
same_short spells x bytes written e h =
    let size : length bytes ≡ length written = ap (λ (l : List ℕ). length l) e in
    (subst (λ (l : List ℕ). spells l x) e h, omega (arith, size))

pub u32_short : WritesShortest (λ bytes n. Spells unsigned 32 bytes n) unsigned_bytes
u32_short bytes n small h = let s = IsShortest-unsigned 10 32 n (omega arith) (omega arith) (spelled_unsigned 32 bytes n h) in (s.spells, s.least bytes h)

pub u64_short : WritesShortest (λ bytes n. Spells unsigned 64 bytes n) unsigned_bytes
u64_short bytes n small h = let s = IsShortest-unsigned 10 64 n (omega arith) (omega arith) (spelled_unsigned 64 bytes n h) in (s.spells, s.least bytes h)

pub s32_short : WritesShortest (λ bytes z. Spells signed 32 bytes z) signed_bytes
s32_short bytes z small h = let s = IsShortest-signed 10 32 z (omega arith) (omega arith) (spelled_signed 32 bytes z h) in (s.spells, s.least bytes h)

pub s33_short : WritesShortest (λ bytes z. Spells signed 33 bytes z) signed_bytes
s33_short bytes z small h = let s = IsShortest-signed 10 33 z (omega arith) (omega arith) (spelled_signed 33 bytes z h) in (s.spells, s.least bytes h)

pub s64_short : WritesShortest (λ bytes z. Spells signed 64 bytes z) signed_bytes
s64_short bytes z small h = let s = IsShortest-signed 10 64 z (omega arith) (omega arith) (spelled_signed 64 bytes z h) in (s.spells, s.least bytes h)

-- digits of a number that they spell
digits : (bytes : List ℕ) → All (λ b. b < 256) bytes → bytes ≡ little_bytes (length bytes) (little bytes)
digits [] small = refl
digits (b ∷ bytes) small =
    let low : b < 256 = All-head (λ b. b < 256) b bytes small in
    let first : b ≡ (b + 256 * little bytes) % 256 = omega (arith, low) in
    let rest : little bytes ≡ (b + 256 * little bytes) / 256 = omega (arith, low) in
    ap (λ (n : ℕ). n ∷ bytes) first ∙ ap (λ (l : List ℕ). (b + 256 * little bytes) % 256 ∷ l) (digits bytes (All-tail (λ b. b < 256) b bytes small) ∙ ap (λ (n : ℕ). little_bytes (length bytes) n) rest)

pub little_short : (size : ℕ) → WritesShortest (SpellsLittle size) (little_bytes size)
little_short size bytes n small h = same_short (SpellsLittle size) n bytes (little_bytes size n) (digits bytes small ∙ ap (λ (k : ℕ). little_bytes k (little bytes)) h.0 ∙ ap (λ (m : ℕ). little_bytes size m) (sym h.1)) h

pub run_short : (size : ℕ) → WritesShortest (SpellsRun size) (λ run. run)
run_short size bytes run small h = same_short (SpellsRun size) run bytes run (sym h.1) h

-- a greater number has no shorter spelling
pub shorter : (count m n : ℕ) → m ≤ n → length (shortest_unsigned count m) ≤ length (shortest_unsigned count n)
unfolding shortest_unsigned
shorter zero m n h = omega arith
shorter (suc count) m n h = elim (cases_lt n 128) as (λ _. length (shortest_unsigned (suc count) m) ≤ length (shortest_unsigned (suc count) n)) [
  | inl small ↦ let also : m < 128 = omega arith in rw (lt-ltb n 128 small, lt-ltb m 128 also) (omega arith)
  | inr great ↦ elim (cases_lt m 128) as (λ _. length (shortest_unsigned (suc count) m) ≤ length (shortest_unsigned (suc count) n)) [
    | inl small ↦ rw (le-ltb n 128 great, lt-ltb m 128 small) (omega arith)
    | inr also ↦ let less : m / 128 ≤ n / 128 = omega arith in let later = shorter count (m / 128) (n / 128) less in rw (le-ltb n 128 great, le-ltb m 128 also) (omega (arith, later))
  ]
]
