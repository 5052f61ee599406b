-- Writing a number byte by byte, unsigned and signed at once.
use Rattle.std.proofs.Common.{◌≡◌, ◌+◌, ◌-◌, ◌*◌, ◌/◌, ◌%◌, ◌<◌, ◌≤◌, ◌^◌, ℕ, zero, suc, Bool, true, false, List, [], ◌∷◌, ◌++◌, refl, sym, ap, ◌∙◌, arith, ℤ, Result, Ok, Err, append_assoc, if◌then◌else◌}
use Rattle.std.proofs.lemmas.Bool.{lt-ltb, le-ltb}
use Rattle.std.proofs.lemmas.List.{append-nil}
use Rattle.std.proofs.Math.Nat.{pow-suc, mul_assoc}
use Rattle.std.specs.declared.alloc.AllocError.{AllocError}
use Rattle.wasm_composite_types.specs.wasm_reader.Shortest.{shortest_unsigned, shortest_signed}
use Rattle.wasm_operators.specs.Bytes.{unsigned_bytes, signed_bytes}
use Rattle.wasm_operators.specs.Signs.{signed_of}
use Rattle.wasm_operators.specs.Appended.{Appends}
use Rattle.wasm_operators.proofs.Keeps.{keeps_on}

-- what was written of a number behind `old`, how many bytes may follow, and what the number that is left spells with that many bytes
pub record Shortens (spell : ℕ → ℕ → List ℕ) (limit : ℕ) (old bytes now : List ℕ) (left : ℕ) : Type 0 where
  pub done : List ℕ
  pub behind : now ≡ old ++ done
  pub more : ℕ
  pub fits : left < limit * 128 ^ more
  pub so_far : done ++ spell (suc more) left ≡ bytes

-- the spelling goes on with one byte while the number isn't below the limit
pub record Spelling (spell : ℕ → ℕ → List ℕ) (limit : ℕ) (low high : ℕ → ℕ) : Type 0 where
  pub last : (k n : ℕ) → n < limit → spell (suc k) n ≡ low n ∷ []
  pub goes : (k n : ℕ) → limit ≤ n → spell (suc k) n ≡ high (n % 128) ∷ spell k (n / 128)

seven_less : (limit k n : ℕ) → n < limit * 128 ^ suc k → n / 128 < limit * 128 ^ k
seven_less limit k n h =
    let e : limit * 128 ^ suc k ≡ limit * 128 ^ k * 128 = ap (λ (x : ℕ). limit * x) (pow-suc 128 k) ∙ sym (mul_assoc limit (128 ^ k) 128) in
    omega (arith, h, e)

module _ {spell : ℕ → ℕ → List ℕ} {limit : ℕ} {low high : ℕ → ℕ} (s : Spelling spell limit low high) (old bytes now next : List ℕ) (left b : ℕ) (it : Shortens spell limit old bytes now left) where
  pub shortens_on : limit ≤ left → next ≡ now ++ b ∷ [] → b ≡ high (left % 128) → Shortens spell limit old bytes next (left / 128)
  shortens_on h e same = go it.more it.fits it.so_far
    where
      go : (more : ℕ) → left < limit * 128 ^ more → it.done ++ spell (suc more) left ≡ bytes → Shortens spell limit old bytes next (left / 128)
      go zero fits so_far = absurd (omega arith)
      go (suc k) fits so_far = record {
        done = it.done ++ b ∷ [];
        behind = e ∙ ap (λ (xs : List ℕ). xs ++ b ∷ []) it.behind ∙ append_assoc old it.done (b ∷ []);
        more = k;
        fits = seven_less limit k left fits;
        so_far =
            ap (λ (x : ℕ). it.done ++ x ∷ [] ++ spell (suc k) (left / 128)) same
            ∙ append_assoc it.done (high (left % 128) ∷ []) (spell (suc k) (left / 128))
            ∙ ap (λ (xs : List ℕ). it.done ++ xs) (sym (s.goes (suc k) left h))
            ∙ so_far;
      }

  pub shortened : left < limit → b ≡ low left → (result : Result (Unit {0}) AllocError) → Appends (b ∷ []) now next result → Appends bytes old next result
  shortened h same (Ok x) e =
      e ∙ ap (λ (xs : List ℕ). xs ++ b ∷ []) it.behind ∙ append_assoc old it.done (b ∷ [])
      ∙ ap (λ (xs : List ℕ). old ++ xs) (ap (λ (x : ℕ). it.done ++ x ∷ []) same ∙ ap (λ (xs : List ℕ). it.done ++ xs) (sym (s.last it.more left h)) ∙ it.so_far)
  shortened h same (Err x) e = keeps_on old now next it.done it.behind e

pub unsigned_spelling : Spelling shortest_unsigned 128 (λ n. n) (λ n. n + 128)
unfolding shortest_unsigned
unsigned_spelling = record {
  last = λ k n h. rw (lt-ltb n 128 h) refl;
  goes = λ k n h. rw (le-ltb n 128 h) refl;
}

-- seven bits, or their complement
abbrev pub bits : Bool → ℕ → ℕ
bits negative low = if negative then 127 - low else low

abbrev pub spell_signed : Bool → ℕ → ℕ → List ℕ
spell_signed negative k n = shortest_signed k (signed_of negative n)

signed_last : (negative : Bool) (k n : ℕ) → n < 64 → spell_signed negative (suc k) n ≡ bits negative n ∷ []
unfolding shortest_signed
signed_last true k n h = rw (lt-ltb n 64 h) refl
signed_last false k n h = rw (lt-ltb n 64 h) refl

signed_goes : (negative : Bool) (k n : ℕ) → 64 ≤ n → spell_signed negative (suc k) n ≡ (bits negative (n % 128) + 128) ∷ spell_signed negative k (n / 128)
unfolding shortest_signed
signed_goes true k n h = let e : 255 - n % 128 ≡ 127 - n % 128 + 128 = omega arith in rw (le-ltb n 64 h, e) refl
signed_goes false k n h = rw (le-ltb n 64 h) refl

pub signed_spelling : (negative : Bool) → Spelling (spell_signed negative) 64 (bits negative) (λ n. bits negative n + 128)
signed_spelling negative = record { last = signed_last negative; goes = signed_goes negative }

pub begins_unsigned : (old : List ℕ) (n : ℕ) → n < 18446744073709551616 → Shortens shortest_unsigned 128 old (unsigned_bytes n) old n
begins_unsigned old n h = record { done = []; behind = sym (append-nil old); more = 9; fits = omega arith; so_far = refl }

pub begins_signed : (old : List ℕ) (n : ℤ) (negative : Bool) (left : ℕ) → left < 9223372036854775808 → n ≡ signed_of negative left → Shortens (spell_signed negative) 64 old (signed_bytes n) old left
begins_signed old n negative left h e = record { done = []; behind = sym (append-nil old); more = 9; fits = omega arith; so_far = ap (λ (z : ℤ). shortest_signed 10 z) (sym e) }
