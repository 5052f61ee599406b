-- The pairs of places that the writing of bodies leaves: that which an operator carries, and the one at which it begins in the shortest spelling.
use Rattle.std.specs.Prelude.{ℕ, ◌+◌, ◌==◌, List, [], ◌∷◌, ◌++◌, length, Option, Some, None, if◌then◌else◌}
use Rattle.wasm_operators.specs.Bytes.{operator_bytes}
use Rattle.wasm_grammar.specs.Modules.{Origin, Imported, Own, Placed, Body, Function, Module}
use Rattle.wasm_body_grammar.specs.Codes.{param_count}
use Rattle.wasm_body_grammar.specs.Rules.{Around}
use Rattle.wasm_places_laws.specs.Begun.{behind_size, behind_slot, first_body, first_operator}

-- one number stands for no place
module _ (none : ℕ) where
  abbrev pub if_carried : (old new : ℕ) → List (ℕ × ℕ)
  if_carried old new = if old == none then [] else (old, new) ∷ []

  -- of operators one behind another, the first of them there
  abbrev pub pairs_at : ℕ → List Placed → List (ℕ × ℕ)
  pairs_at at [] = []
  pairs_at at (o ∷ ops) = if_carried o.place at ++ pairs_at (at + length (operator_bytes o.op)) ops

  module _ (a : Around) where
    -- of a body that begins there
    abbrev pub body_pairs : (params at : ℕ) → Body → List (ℕ × ℕ)
    body_pairs params at x = pairs_at (first_operator a params at x) x.operators

    -- of functions, the sizes of whose bodies stand one behind another, the first of them there
    abbrev pub origin_pairs : (params at : ℕ) → Origin Body → List (ℕ × ℕ)
    origin_pairs params at (Imported n) = []
    origin_pairs params at (Own x) = body_pairs params (behind_size a params at x) x

    abbrev pub slot_pairs : ℕ → Option Function → List (ℕ × ℕ)
    slot_pairs at None = []
    slot_pairs at (Some f) = origin_pairs (param_count a.filled f.ty) at f.origin

    abbrev pub functions_pairs : ℕ → List (Option Function) → List (ℕ × ℕ)
    functions_pairs at [] = []
    functions_pairs at (f ∷ fs) = slot_pairs at f ++ functions_pairs (behind_slot a at f) fs

    -- of a module
    abbrev pub module_pairs : Module → List (ℕ × ℕ)
    module_pairs m = functions_pairs (first_body a m) m.functions
