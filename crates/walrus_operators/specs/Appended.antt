-- What a call puts behind the output.
use Rattle.std.specs.Prelude.{ℕ, ◌≡◌, List, [], ◌∷◌, ◌++◌, Result, MatchResult}
use Rattle.std.specs.declared.alloc.AllocError.{AllocError}
use Rattle.wasm_operators.specs.Items.{Item}
use Rattle.wasm_operators.specs.Bytes.{item_bytes}
pub use Rattle.wasm_operators.specs.Appended.{Keeps, Appends}

-- the items behind these bytes, one after another
abbrev pub with_items : List ℕ → List Item → List ℕ
with_items out [] = out
with_items out (x ∷ items) = with_items (out ++ item_bytes x) items

-- the same of items that the code writes one by one
abbrev pub AppendsItems : List Item → List ℕ → List ℕ → Result (Unit {0}) AllocError → Type 0
AppendsItems items old new result = MatchResult result (λ _. new ≡ with_items old items) (λ _. Keeps old new)
