-- Lemmas: each reading is final.
use Rattle.std.specs.Prelude.{ℕ, zero, suc, ◌+◌, ◌-◌, ◌<◌, ◌≤◌, ◌≡◌, List, [], ◌∷◌, ◌++◌, length, take, drop, Ok, Err, nat_le, nat_lt, refl}
use Rattle.std.proofs.Common.{ap, ◌∙◌, subst, arith, inl, inr}
use Rattle.std.proofs.lemmas.Bool.{cases_lt, cases_Bool, le-leb, lt-leb}
use Rattle.std.proofs.lemmas.List.{length-append, length-drop, take-append-le, drop-append-le}
use Rattle.std.specs.Str.{is_utf8}
use Rattle.wasm_reader.specs.declared.error.ErrorKind.{ErrorKind}
use Rattle.wasm_reader.specs.declared.error.ErrorKind.TheVariants as kinds
use Rattle.wasm_reader.specs.Reading.{Reading, Fault, fault, ◌>>=◌, byte_at, bytes_at, u7_at, little, little_at}
use Rattle.wasm_reader.specs.Numbers.{Style, unsigned, signed, number_at, unsigned_at, signed_at, s33_at}
use Rattle.wasm_reader.specs.Items.{items_at, vec_at}
use Rattle.wasm_reader.specs.Text.{size_at, text_at, string_at, sized_bytes_at, unlimited_string_at, skipped_string_at}
use Rattle.wasm_reader.specs.Spelled.{number_at-last, number_at-wrong, number_at-too_long, number_at-more, number_at-none}
use Rattle.wasm_reader.specs.Laws.{Passes, Grows, StaysWithin, IsFinal}
use Rattle.wasm_reader.specs.Final.{IsKept, Takes, fault_grows, fault_then, then_final, tested_final, map_final, done_final}

-- ---- one byte

byte_grows : (bytes more : List ℕ) → Grows more (byte_at bytes) (byte_at (bytes ++ more))
byte_grows [] [] = record { some = omega arith; keeps = λ h. refl; passes = λ h. absurd (omega arith) }
byte_grows [] (b ∷ more) = record { some = omega arith; keeps = λ h. absurd (omega arith); passes = λ h. omega arith }
byte_grows (b ∷ bytes) more = refl

byte_within : (bytes : List ℕ) → StaysWithin (length bytes) (byte_at bytes)
byte_within [] = omega arith
byte_within (b ∷ bytes) = omega arith

pub byte_final : IsFinal byte_at
byte_final = record { grows = byte_grows; within = byte_within }

ok_is : {A : Type 0} (x y : A × List ℕ) → (let done : A × List ℕ → Reading A = λ v. Ok v in done x ≡ done y) → x ≡ y
ok_is x y e = cc

pub Takes-byte : Takes 1 byte_at
Takes-byte [] x e = cc
Takes-byte (b ∷ bytes) x e =
    let later : bytes ≡ x.1 = ap (λ (p : ℕ × List ℕ). p.1) (ok_is (b, bytes) x e) in
    let size : length bytes ≡ length x.1 = ap length later in
    omega arith

-- ---- a run of bytes

bytes_there : (size : ℕ) (bytes : List ℕ) → size ≤ length bytes → bytes_at size bytes ≡ Ok (take size bytes, drop size bytes)
bytes_there size bytes h = rw (le-leb size (length bytes) h) refl

bytes_short : (size : ℕ) (bytes : List ℕ) → length bytes < size → bytes_at size bytes ≡ Err (fault (kinds.EndOfFile (size - length bytes)) (length bytes))
bytes_short size bytes h = rw (lt-leb size (length bytes) h) refl

bytes_grows : (size : ℕ) (bytes more : List ℕ) → Grows more (bytes_at size bytes) (bytes_at size (bytes ++ more))
bytes_grows size bytes more =
    let whole : length (bytes ++ more) ≡ length bytes + length more = length-append bytes more in
    elim (cases_lt (length bytes) size) [
      | inl short ↦ rw (bytes_short size bytes short) (record {
        some = omega arith;
        keeps = λ h. bytes_short size (bytes ++ more) (omega arith)
            ∙ ap (λ (n : ℕ). Err (fault (kinds.EndOfFile (size - n)) n)) whole
            ∙ ap (λ (n : ℕ). Err (fault (kinds.EndOfFile n) (length bytes + length more))) (omega arith);
        passes = λ h. rw (bytes_there size (bytes ++ more) (omega arith), length-drop size (bytes ++ more)) (omega arith);
      })
      | inr there ↦ rw (bytes_there size bytes there)
          (bytes_there size (bytes ++ more) (omega arith)
          ∙ ap (λ (l : List ℕ). Ok (l, drop size (bytes ++ more))) (take-append-le size bytes more there)
          ∙ ap (λ (l : List ℕ). Ok (take size bytes, l)) (drop-append-le size bytes more there))
    ]

bytes_within : (size : ℕ) (bytes : List ℕ) → StaysWithin (length bytes) (bytes_at size bytes)
bytes_within size bytes = elim (cases_lt (length bytes) size) [
  | inl short ↦ rw (bytes_short size bytes short) (omega arith)
  | inr there ↦ rw (bytes_there size bytes there, length-drop size bytes) (omega arith)
]

pub bytes_final : (size : ℕ) → IsFinal (bytes_at size)
bytes_final size = record { grows = bytes_grows size; within = bytes_within size }

-- ---- numbers

made_within : {A B : Type 0} (n : ℕ) (make : A → B) (r : Reading A) → StaysWithin n r → StaysWithin (n + 1) (r >>= λ x. Ok (make x.0, x.1))
made_within n make (Ok x) h = omega arith
made_within n make (Err f) h = omega arith

made_passes : {A B : Type 0} (make : A → B) (place : ℕ) (r : Reading A) → Passes place r → Passes place (r >>= λ x. Ok (make x.0, x.1))
made_passes make place (Ok x) h = h
made_passes make place (Err f) h = h

made_grows : {A B : Type 0} (make : A → B) (more : List ℕ) (before after : Reading A) → Grows more before after
    → Grows more (before >>= λ x. Ok (make x.0, x.1)) (after >>= λ x. Ok (make x.0, x.1))
made_grows make more (Ok x) after h = rw h refl
made_grows make more (Err f) after h = fault_then f.kind f.left more after (λ x. Ok (make x.0, x.1)) (λ place. made_passes make place after) h

within_passes : {A : Type 0} (n place : ℕ) (r : Reading A) → n < place → StaysWithin n r → Passes place r
within_passes n place (Ok x) h p = omega arith
within_passes n place (Err f) h p = λ missing e. let at : f.left ≡ place = ap (λ (g : Fault). g.left) e in absurd (omega arith)

not_end : (kind : ErrorKind) (missing left place : ℕ) → IsKept kind → fault kind left ≡ fault (kinds.EndOfFile missing) place → ⊥
not_end kind missing left place h e = subst IsKept (ap (λ (g : Fault). g.kind) e) h

module _ {A : Type 0} (s : Style A) (wrong : ErrorKind) (kept : IsKept wrong) where
  number_within : (width : ℕ) (bytes : List ℕ) → StaysWithin (length bytes) (number_at s wrong width bytes)
  number_within width [] = rw (number_at-none s wrong width) (omega arith)
  number_within width (b ∷ bytes) = elim (cases_lt b 128) [
    | inl last ↦ elim (cases_Bool (s.fits width b)) [
      | inl fits ↦ rw (number_at-last s wrong width b bytes last fits) (omega arith)
      | inr wrongly ↦ rw (number_at-wrong s wrong width b bytes last wrongly) (omega arith)
    ]
    | inr goes ↦ elim (cases_lt 7 width) [
      | inl wide ↦
          let size : length bytes + 1 ≡ length (b ∷ bytes) = omega arith in
          rw (number_at-more s wrong width b bytes goes wide) (rw size at (made_within (length bytes) (s.onto (b - 128)) (number_at s wrong (width - 7) bytes) (number_within (width - 7) bytes)))
      | inr narrow ↦ rw (number_at-too_long s wrong width b bytes goes narrow) (omega arith)
    ]
  ]

  number_passes : (width b : ℕ) (bytes : List ℕ) → Passes (length bytes + 1) (number_at s wrong width (b ∷ bytes))
  number_passes width b bytes = elim (cases_lt b 128) [
    | inl last ↦ elim (cases_Bool (s.fits width b)) [
      | inl fits ↦ rw (number_at-last s wrong width b bytes last fits) (omega arith)
      | inr wrongly ↦ rw (number_at-wrong s wrong width b bytes last wrongly) (λ missing. not_end wrong missing (length bytes + 1) (length bytes + 1) kept)
    ]
    | inr goes ↦ elim (cases_lt 7 width) [
      | inl wide ↦ rw (number_at-more s wrong width b bytes goes wide)
          (made_passes (s.onto (b - 128)) (length bytes + 1) (number_at s wrong (width - 7) bytes)
          (within_passes (length bytes) (length bytes + 1) (number_at s wrong (width - 7) bytes) (omega arith) (number_within (width - 7) bytes)))
      | inr narrow ↦ rw (number_at-too_long s wrong width b bytes goes narrow) (λ missing. not_end kinds.TooLong missing (length bytes + 1) (length bytes + 1) tt)
    ]
  ]

  number_grows : (width : ℕ) (bytes more : List ℕ) → Grows more (number_at s wrong width bytes) (number_at s wrong width (bytes ++ more))
  number_grows width [] [] = rw (number_at-none s wrong width) (record { some = omega arith; keeps = λ h. refl; passes = λ h. absurd (omega arith) })
  number_grows width [] (b ∷ more) =
      let size : length more + 1 ≡ 0 + length (b ∷ more) = omega arith in
      rw (number_at-none s wrong width) (record { some = omega arith; keeps = λ h. absurd (omega arith); passes = λ h. rw size at (number_passes width b more) })
  number_grows width (b ∷ bytes) more =
      let size : length (bytes ++ more) + 1 ≡ length bytes + 1 + length more = omega (arith, length-append bytes more) in
      elim (cases_lt b 128) [
        | inl last ↦ elim (cases_Bool (s.fits width b)) [
          | inl fits ↦ rw (number_at-last s wrong width b bytes last fits) (number_at-last s wrong width b (bytes ++ more) last fits)
          | inr wrongly ↦ rw (number_at-wrong s wrong width b bytes last wrongly)
              (fault_grows wrong (length bytes + 1) more (number_at s wrong width (b ∷ (bytes ++ more))) kept
              (number_at-wrong s wrong width b (bytes ++ more) last wrongly ∙ ap (λ (n : ℕ). Err (fault wrong n)) size))
        ]
        | inr goes ↦ elim (cases_lt 7 width) [
          | inl wide ↦ rw (number_at-more s wrong width b bytes goes wide, number_at-more s wrong width b (bytes ++ more) goes wide)
              (made_grows (s.onto (b - 128)) more (number_at s wrong (width - 7) bytes) (number_at s wrong (width - 7) (bytes ++ more)) (number_grows (width - 7) bytes more))
          | inr narrow ↦ rw (number_at-too_long s wrong width b bytes goes narrow)
              (number_at-too_long s wrong width b (bytes ++ more) goes narrow ∙ ap (λ (n : ℕ). Err (fault kinds.TooLong n)) size)
        ]
      ]

  pub number_final : (width : ℕ) → IsFinal (number_at s wrong width)
  number_final width = record { grows = number_grows width; within = number_within width }

pub unsigned_final : (width : ℕ) → IsFinal (unsigned_at width)
unsigned_final width = number_final unsigned kinds.TooLarge tt width

pub signed_final : (width : ℕ) → IsFinal (signed_at width)
signed_final width = number_final signed kinds.TooLarge tt width

pub s33_final : IsFinal s33_at
s33_final = number_final signed kinds.TooLong tt 33

pub u7_final : IsFinal u7_at
unfolding u7_at
u7_final = tested_final byte_at (λ b. nat_lt b 128) kinds.BadByte tt byte_final

pub little_final : (size : ℕ) → IsFinal (little_at size)
unfolding little_at
little_final size = map_final (bytes_at size) little (bytes_final size)

-- ---- names

pub size_final : (limit : ℕ) → IsFinal (size_at limit)
unfolding size_at
size_final limit = tested_final (unsigned_at 32) (λ n. nat_le n limit) kinds.Limit tt (unsigned_final 32)

pub text_final : (size : ℕ) → IsFinal (text_at size)
unfolding text_at
text_final size = tested_final (bytes_at size) is_utf8 kinds.Utf8 tt (bytes_final size)

pub string_final : IsFinal string_at
unfolding string_at
string_final = then_final (size_at 100000) text_at (size_final 100000) text_final

pub unlimited_string_final : IsFinal unlimited_string_at
unfolding unlimited_string_at
unlimited_string_final = then_final (unsigned_at 32) text_at (unsigned_final 32) text_final

pub skipped_string_final : IsFinal skipped_string_at
unfolding skipped_string_at
skipped_string_final = map_final string_at (λ text. tt) string_final

pub sized_bytes_final : IsFinal sized_bytes_at
unfolding sized_bytes_at
sized_bytes_final = then_final (unsigned_at 32) bytes_at (unsigned_final 32) bytes_final

-- ---- items

pub items_final : {A : Type 0} (item : List ℕ → Reading A) → IsFinal item → (count : ℕ) → IsFinal (items_at item count)
unfolding items_at
items_final item h zero = done_final []
items_final item h (suc count) = then_final item (λ first bytes. items_at item count bytes >>= λ later. Ok (first ∷ later.0, later.1)) h
    (λ first. map_final (items_at item count) (λ later. first ∷ later) (items_final item h count))

pub vec_final : {A : Type 0} (limit : ℕ) (item : List ℕ → Reading A) → IsFinal item → IsFinal (vec_at limit item)
unfolding vec_at
vec_final limit item h = then_final (size_at limit) (items_at item) (size_final limit) (items_final item h)
