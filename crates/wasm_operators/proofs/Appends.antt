-- Bytes are written one behind another.
use Rattle.std.proofs.Common.{◌≡◌, ℕ, List, [], ◌++◌, Result, Ok, Err, sym, ap, ◌∙◌}
use Rattle.std.proofs.lemmas.List.{append-nil, append_assoc}
use Rattle.std.specs.declared.alloc.AllocError.{AllocError}
use Rattle.wasm_operators.specs.Appended.{Appends}
use Rattle.wasm_operators.proofs.Keeps.{keeps_on}

-- nothing is written
pub nothing : (old : List ℕ) → old ≡ old ++ []
nothing old = sym (append-nil old)

-- first these bytes, then those
pub appends_on : (old mid new a b : List ℕ) (result : Result (Unit {0}) AllocError) → mid ≡ old ++ a → Appends b mid new result → Appends (a ++ b) old new result
appends_on old mid new a b (Ok x) e h = h ∙ ap (λ (l : List ℕ). l ++ b) e ∙ append_assoc old a b
appends_on old mid new a b (Err x) e h = keeps_on old mid new a e h
