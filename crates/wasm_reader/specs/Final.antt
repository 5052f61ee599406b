-- Lemmas: how final readings are put together.
use Rattle.std.specs.Prelude.{ℕ, ◌+◌, ◌<◌, ◌≤◌, ◌≡◌, Bool, true, false, List, ◌++◌, length, Ok, Err, if◌then◌else◌, refl}
use Rattle.std.proofs.Common.{ap, subst, arith}
use Rattle.std.proofs.lemmas.List.{length-append}
use Rattle.wasm_reader.specs.declared.error.ErrorKind.{ErrorKind}
use Rattle.wasm_reader.specs.declared.error.ErrorKind.TheVariants as kinds
use Rattle.wasm_reader.specs.Reading.{Reading, Fault, fault, ◌>>=◌}
use Rattle.wasm_reader.specs.Laws.{Passes, GrowsFault, Grows, StaysWithin, IsFinal}

-- a kind that more bytes do not change
abbrev pub IsKept : ErrorKind → Type 0
IsKept (kinds.EndOfFile missing) = ⊥
IsKept _ = Unit {0}

-- an answer on the later bytes of a reading that began at `start`, in bytes left there
abbrev pub StaysFrom : {A : Type 0} → ℕ → ℕ → Reading A → Type 0
StaysFrom start n (Ok x) = length x.1 ≤ n
StaysFrom start n (Err f) = (f.left ≤ start) × ((missing : ℕ) → f.kind ≡ kinds.EndOfFile missing → f.left ≤ n)

-- what follows at least k bytes of a reading is final, with faults that may stand where the reading began
pub record IsFinalFrom {A : Type 0} (k : ℕ) (later : ℕ → List ℕ → Reading A) : Type 0 where
  pub grows : (start : ℕ) (bytes more : List ℕ) → length bytes + k ≤ start → Grows more (later start bytes) (later (start + length more) (bytes ++ more))
  pub stays : (start : ℕ) (bytes : List ℕ) → length bytes + k ≤ start → StaysFrom start (length bytes) (later start bytes)

-- the reading takes at least k bytes
abbrev pub Takes : {A : Type 0} → ℕ → (List ℕ → Reading A) → Type 0
Takes {A} k reading = (bytes : List ℕ) (x : A × List ℕ) → reading bytes ≡ Ok x → length x.1 + k ≤ length bytes

pub fault_grows : {A : Type 0} (kind : ErrorKind) (left : ℕ) (more : List ℕ) (after : Reading A) → IsKept kind → after ≡ Err (fault kind (left + length more)) → GrowsFault kind left more after
fault_grows (kinds.EndOfFile missing) left more after h e = absurd h
fault_grows kinds.TooLong left more after h e = e
fault_grows kinds.TooLarge left more after h e = e
fault_grows kinds.Utf8 left more after h e = e
fault_grows kinds.BadByte left more after h e = e
fault_grows kinds.Limit left more after h e = e
fault_grows (kinds.Feature missing) left more after h e = e
fault_grows kinds.Trailing left more after h e = e
fault_grows kinds.Memory left more after h e = e

-- a result alone
pub done_from : {A : Type 0} (k : ℕ) (value : A) → IsFinalFrom k (λ start bytes. Ok (value, bytes))
done_from k value = record { grows = λ start bytes more h. refl; stays = λ start bytes h. omega arith }

kept_is_not : (kind : ErrorKind) (missing : ℕ) → IsKept kind → kind ≡ kinds.EndOfFile missing → ⊥
kept_is_not kind missing h e = subst IsKept e h

-- a fault where the reading began
pub fault_from : {A : Type 0} (k : ℕ) (kind : ErrorKind) → IsKept kind → IsFinalFrom {A = A} k (λ start bytes. Err (fault kind start))
fault_from k kind h = record {
  grows = λ start bytes more p. fault_grows kind start more (Err (fault kind (start + length more))) h refl;
  stays = λ start bytes p. (omega arith, λ missing e. absurd (kept_is_not kind missing h e));
}

-- a fault k bytes back
pub fault_back : {A : Type 0} (k : ℕ) (kind : ErrorKind) → IsKept kind → IsFinalFrom {A = A} k (λ start bytes. Err (fault kind (length bytes + k)))
fault_back k kind h = record {
  grows = λ start bytes more p. fault_grows kind (length bytes + k) more (Err (fault kind (length (bytes ++ more) + k))) h
      (let same : length (bytes ++ more) + k ≡ length bytes + k + length more = omega (arith, length-append bytes more) in ap (λ n. Err (fault kind n)) same);
  stays = λ start bytes p. (p, λ missing e. absurd (kept_is_not kind missing h e));
}

pub if_from : {A : Type 0} {k : ℕ} (b : Bool) (f g : ℕ → List ℕ → Reading A) → IsFinalFrom k f → IsFinalFrom k g → IsFinalFrom k (λ start bytes. if b then f start bytes else g start bytes)
if_from true f g p q = p
if_from false f g p q = q

stays_from : {A : Type 0} (start n : ℕ) (r : Reading A) → n ≤ start → StaysWithin n r → StaysFrom start n r
stays_from start n (Ok x) h p = p
stays_from start n (Err f) h p = (omega arith, λ missing e. p)

-- a final reading
pub final_from : {A : Type 0} (k : ℕ) (reading : List ℕ → Reading A) → IsFinal reading → IsFinalFrom k (λ start bytes. reading bytes)
final_from k reading h = record {
  grows = λ start bytes more p. h.grows bytes more;
  stays = λ start bytes p. stays_from start (length bytes) (reading bytes) (omega arith) (h.within bytes);
}

-- ---- one reading after another

passes_from : {A : Type 0} (start n place : ℕ) (r : Reading A) → n < place → StaysFrom start n r → Passes place r
passes_from start n place (Ok x) h p = omega arith
passes_from start n place (Err f) h p = λ missing e.
    let at : f.left ≡ place = ap (λ (g : Fault). g.left) e in
    let low = p.1 missing (ap (λ (g : Fault). g.kind) e) in
    absurd (omega arith)

pub fault_then : {A B : Type 0} (kind : ErrorKind) (left : ℕ) (more : List ℕ) (after : Reading A) (next : A × List ℕ → Reading B)
    → ((place : ℕ) → Passes place after → Passes place (after >>= next)) → GrowsFault kind left more after → GrowsFault kind left more (after >>= next)
fault_then (kinds.EndOfFile missing) left more after next pass h = record {
  some = h.some;
  keeps = λ p. ap (λ r. r >>= next) (h.keeps p);
  passes = λ p. pass (left + length more) (h.passes p);
}
fault_then kinds.TooLong left more after next pass h = ap (λ r. r >>= next) h
fault_then kinds.TooLarge left more after next pass h = ap (λ r. r >>= next) h
fault_then kinds.Utf8 left more after next pass h = ap (λ r. r >>= next) h
fault_then kinds.BadByte left more after next pass h = ap (λ r. r >>= next) h
fault_then kinds.Limit left more after next pass h = ap (λ r. r >>= next) h
fault_then (kinds.Feature missing) left more after next pass h = ap (λ r. r >>= next) h
fault_then kinds.Trailing left more after next pass h = ap (λ r. r >>= next) h
fault_then kinds.Memory left more after next pass h = ap (λ r. r >>= next) h

stays_wider : {A : Type 0} (start n m : ℕ) (r : Reading A) → n ≤ m → StaysFrom start n r → StaysFrom start m r
stays_wider start n m (Ok x) h p = omega arith
stays_wider start n m (Err f) h p = (p.0, λ missing e. let low = p.1 missing e in omega arith)

module _ {A B : Type 0} (k j : ℕ) (reading : List ℕ → Reading A) (later : A → ℕ → List ℕ → Reading B) (final : IsFinal reading) (takes : Takes j reading) (finals : (a : A) → IsFinalFrom (k + j) (later a)) where
  room : (start : ℕ) (bytes : List ℕ) (x : A × List ℕ) → length bytes + k ≤ start → reading bytes ≡ Ok x → length x.1 + (k + j) ≤ start
  room start bytes x p e = let taken = takes bytes x e in omega arith

  passes_then : (start : ℕ) (bytes : List ℕ) (r : Reading A) → length bytes + k ≤ start → reading bytes ≡ r → (place : ℕ) → Passes place r → Passes place (r >>= λ x. later x.0 start x.1)
  passes_then start bytes (Ok x) p e place h = passes_from start (length x.1) place (later x.0 start x.1) h ((finals x.0).stays start x.1 (room start bytes x p e))
  passes_then start bytes (Err f) p e place h = h

  grows_then : (start : ℕ) (bytes more : List ℕ) (before after : Reading A) → length bytes + k ≤ start → reading bytes ≡ before → reading (bytes ++ more) ≡ after
      → Grows more before after → Grows more (before >>= λ x. later x.0 start x.1) (after >>= λ x. later x.0 (start + length more) x.1)
  grows_then start bytes more (Ok x) after p e1 e2 h = rw h ((finals x.0).grows start x.1 more (room start bytes x p e1))
  grows_then start bytes more (Err g) after p e1 e2 h =
      fault_then g.kind g.left more after (λ x. later x.0 (start + length more) x.1)
      (passes_then (start + length more) (bytes ++ more) after (let size = length-append bytes more in omega arith) e2) h

  stays_then : (start : ℕ) (bytes : List ℕ) (r : Reading A) → length bytes + k ≤ start → reading bytes ≡ r → StaysWithin (length bytes) r → StaysFrom start (length bytes) (r >>= λ x. later x.0 start x.1)
  stays_then start bytes (Ok x) p e h = stays_wider start (length x.1) (length bytes) (later x.0 start x.1) h ((finals x.0).stays start x.1 (room start bytes x p e))
  stays_then start bytes (Err f) p e h = (omega arith, λ missing q. h)

  -- one reading, and then another that may fail where the first began, after which j bytes are taken
  pub then_from : IsFinalFrom k (λ start bytes. reading bytes >>= λ x. later x.0 start x.1)
  then_from = record {
    grows = λ start bytes more p. grows_then start bytes more (reading bytes) (reading (bytes ++ more)) p refl refl (final.grows bytes more);
    stays = λ start bytes p. stays_then start bytes (reading bytes) p refl (final.within bytes);
  }

stays_whole : {A : Type 0} (n : ℕ) (r : Reading A) → StaysFrom n n r → StaysWithin n r
stays_whole n (Ok x) p = p
stays_whole n (Err f) p = p.0

-- the whole of a reading that names its beginning
pub from_start : {A : Type 0} (later : ℕ → List ℕ → Reading A) → IsFinalFrom 0 later → IsFinal (λ bytes. later (length bytes) bytes)
from_start later h = record {
  grows = λ bytes more. let size = length-append bytes more in rw size (h.grows (length bytes) bytes more (omega arith));
  within = λ bytes. stays_whole (length bytes) (later (length bytes) bytes) (h.stays (length bytes) bytes (omega arith));
}

pub Takes-none : {A : Type 0} (reading : List ℕ → Reading A) → IsFinal reading → Takes 0 reading
Takes-none {A} reading h bytes x e = let P : Reading A → Type 0 = λ r. StaysWithin (length bytes) r in let within = subst P e (h.within bytes) in omega arith

-- one reading after another
pub then_final : {A B : Type 0} (reading : List ℕ → Reading A) (later : A → List ℕ → Reading B) → IsFinal reading → ((a : A) → IsFinal (later a)) → IsFinal (λ bytes. reading bytes >>= λ x. later x.0 x.1)
then_final reading later h finals = from_start (λ start bytes. reading bytes >>= λ x. later x.0 x.1)
    (then_from 0 0 reading (λ a start bytes. later a bytes) h (Takes-none reading h) (λ a. final_from 0 (later a) (finals a)))

-- a value that a test may refuse, at the place where its reading began
pub tested_final : {A : Type 0} (reading : List ℕ → Reading A) (test : A → Bool) (kind : ErrorKind) → IsKept kind → IsFinal reading
    → IsFinal (λ bytes. reading bytes >>= λ x. if test x.0 then Ok x else Err (fault kind (length bytes)))
tested_final {A} reading test kind h final =
    from_start (λ start bytes. reading bytes >>= λ x. if test x.0 then Ok x else Err (fault kind start))
    (then_from 0 0 reading (λ a start bytes. if test a then Ok (a, bytes) else Err (fault kind start)) final (Takes-none reading final)
    (λ a. if_from (test a) (λ start bytes. Ok (a, bytes)) (λ start bytes. Err (fault kind start)) (done_from 0 a) (fault_from 0 kind h)))

pub done_final : {A : Type 0} (value : A) → IsFinal (λ bytes. Ok (value, bytes))
done_final value = from_start (λ start bytes. Ok (value, bytes)) (done_from 0 value)

-- a value made of the one that was read
pub map_final : {A B : Type 0} (reading : List ℕ → Reading A) (make : A → B) → IsFinal reading → IsFinal (λ bytes. reading bytes >>= λ x. Ok (make x.0, x.1))
map_final reading make h = then_final reading (λ a bytes. Ok (make a, bytes)) h (λ a. done_final (make a))
