-- The bytes of a body, and which of its operators stand for which.
use Rattle.std.specs.Prelude.{ℕ, ◌+◌, List, [], ◌∷◌, ◌++◌, length, Option, Some, None}
use Rattle.std.specs.List.{flat_map}
use Rattle.wasm_operators.specs.Bytes.{operator_bytes}
use Rattle.wasm_normal_form.specs.Roles.{Placed}

-- the operators in their shortest spelling, one after another
abbrev pub code_bytes : List Placed → List ℕ
code_bytes ops = flat_map (λ (o : Placed). operator_bytes o.op) ops

abbrev pub if_placed : Option ℕ → ℕ → List (ℕ × ℕ)
if_placed (Some old) new = (old, new) ∷ []
if_placed None new = []

-- the true pairs of operators whose spelling begins at this place: the place that an operator of the normal form carries, and the
-- one at which it begins
abbrev pub pairs_from : ℕ → List Placed → List (ℕ × ℕ)
pairs_from at [] = []
pairs_from at (o ∷ ops) = if_placed o.place at ++ pairs_from (at + length (operator_bytes o.op)) ops
