-- Lemmas: final readings that need a byte, and what a look at that byte chooses among them.
use Rattle.std.specs.Prelude.{ℕ, ◌≡◌, Bool, true, false, List, [], ◌∷◌, ◌++◌, length, Ok, Err, if◌then◌else◌, refl}
use Rattle.std.proofs.Common.{subst, arith}
use Rattle.wasm_reader.specs.declared.error.ErrorKind.TheVariants as faults
use Rattle.wasm_reader.specs.Reading.{Reading, fault, ◌>>=◌, next_at}
use Rattle.wasm_reader.specs.Laws.{Grows, StaysWithin, IsFinal}
use Rattle.wasm_reader.specs.Final.{map_final}

-- a final reading that needs a byte
pub record Begins {A : Type 0} (reading : List ℕ → Reading A) : Type 0 where
  pub final : IsFinal reading
  pub none : reading [] ≡ Err (fault (faults.EndOfFile 1) 0)

pub if_begins : {A : Type 0} (test : Bool) (f g : List ℕ → Reading A) → Begins f → Begins g → Begins (λ bytes. if test then f bytes else g bytes)
if_begins true f g p q = p
if_begins false f g p q = q

pub map_begins : {A B : Type 0} (reading : List ℕ → Reading A) (make : A → B) → Begins reading → Begins (λ bytes. reading bytes >>= λ x. Ok (make x.0, x.1))
map_begins reading make h = record { final = map_final reading make h.final; none = rw h.none refl }

peeked_grows : {A : Type 0} (later : ℕ → List ℕ → Reading A) → ((b : ℕ) → Begins (later b)) → (bytes more : List ℕ)
    → Grows more (next_at bytes >>= λ b. later b.0 b.1) (next_at (bytes ++ more) >>= λ b. later b.0 b.1)
peeked_grows later h [] [] = record { some = omega arith; keeps = λ p. refl; passes = λ p. absurd (omega arith) }
peeked_grows {A} later h [] (b ∷ more) =
    subst (λ (r : Reading A). Grows (b ∷ more) r (later b (b ∷ more))) (h b).none ((h b).final.grows [] (b ∷ more))
peeked_grows later h (b ∷ bytes) more = (h b).final.grows (b ∷ bytes) more

peeked_within : {A : Type 0} (later : ℕ → List ℕ → Reading A) → ((b : ℕ) → Begins (later b)) → (bytes : List ℕ)
    → StaysWithin (length bytes) (next_at bytes >>= λ b. later b.0 b.1)
peeked_within later h [] = omega arith
peeked_within later h (b ∷ bytes) = (h b).final.within (b ∷ bytes)

-- what the next byte, which stays to be read, chooses
pub peeked_begins : {A : Type 0} (later : ℕ → List ℕ → Reading A) → ((b : ℕ) → Begins (later b)) → Begins (λ bytes. next_at bytes >>= λ b. later b.0 b.1)
peeked_begins later h = record {
  final = record { grows = peeked_grows later h; within = peeked_within later h };
  none = refl;
}
