-- Runs of bytes.
use Rattle.std.proofs.Common.{◌≡◌, ◌≤◌, ℕ, List, length, take, drop, Result, Ok, inl, inr, ap, ◌∙◌, sym}
use Rattle.std.proofs.lemmas.Bool.{cases_lt, le-leb, lt-leb}
use Rattle.std.proofs.lemmas.List.{length-take-le}
use Rattle.wasm_reader.specs.Reading.{bytes_at}

ok_is : {A B : Type 0} (x y : A) → (let done : A → Result A B = λ z. Ok z in done x ≡ done y) → x ≡ y
ok_is x y e = cc

-- a run of bytes has the length that was asked for, and was there
pub run_within : (size : ℕ) (bytes run later : List ℕ) → bytes_at size bytes ≡ Ok (run, later) → (length run ≡ size) × (size ≤ length bytes)
run_within size bytes run later e =
    let pair : List ℕ → List ℕ → List ℕ × List ℕ = λ a b. (a, b) in
    elim (cases_lt (length bytes) size) [
      | inl short ↦ let h = (rw (lt-leb size (length bytes) short) at e) in cc
      | inr there ↦
          let same : pair (take size bytes) (drop size bytes) ≡ pair run later = ok_is _ _ (rw (le-leb size (length bytes) there) at e) in
          let front : take size bytes ≡ run = ap (λ (p : List ℕ × List ℕ). p.0) same in
          (ap length (sym front) ∙ length-take-le size bytes there, there)
    ]
