-- Where the operators of a module begin in the shortest spelling of its bodies (Core Specification, binary format: code section). Places count from the count of
-- functions.
use Rattle.std.specs.Prelude.{ℕ, ◌+◌, List, [], ◌∷◌, length, Option, Some, None}
use Rattle.wasm_operators.specs.Bytes.{operator_bytes, unsigned_bytes}
use Rattle.wasm_grammar.specs.Modules.{Origin, Imported, Own, Placed, Body, Function, Module}
use Rattle.wasm_body_grammar.specs.Codes.{param_count}
use Rattle.wasm_body_grammar.specs.Rules.{Around}
use Rattle.wasm_grammar_bytes.specs.Bodies.{runs_bytes}
use Rattle.wasm_grammar_bytes.specs.Maximal.{maximal_of}
use Rattle.wasm_grammar_bytes.specs.Shortest.{body_bytes}
use Rattle.wasm_canonical.specs.Due.{bodies_due}

-- each operator at the place where it begins, the first of them there
abbrev pub begun : ℕ → List Placed → List Placed
begun at [] = []
begun at (o ∷ ops) = record { place = at; op = o.op } ∷ begun (at + length (operator_bytes o.op)) ops

module _ (a : Around) where
  -- ---- a body that begins there, of a function of so many parameters

  -- behind its runs of locals
  abbrev pub first_operator : (params at : ℕ) → Body → ℕ
  first_operator params at x = at + length (runs_bytes a params (maximal_of x.locals))

  abbrev pub body_begun : (params at : ℕ) → Body → Body
  body_begun params at x = record { locals = x.locals; operators = begun (first_operator params at x) x.operators }

  -- ---- functions, the sizes of whose bodies stand one behind another, the first of them there

  -- a body begins behind its size
  abbrev pub behind_size : (params at : ℕ) → Body → ℕ
  behind_size params at x = at + length (unsigned_bytes (length (body_bytes a params x)))

  abbrev pub origin_begun : (params at : ℕ) → Origin Body → Origin Body
  origin_begun params at (Imported n) = Imported n
  origin_begun params at (Own x) = Own (body_begun params (behind_size params at x) x)

  abbrev pub behind_origin : (params at : ℕ) → Origin Body → ℕ
  behind_origin params at (Imported n) = at
  behind_origin params at (Own x) = behind_size params at x + length (body_bytes a params x)

  abbrev pub slot_begun : ℕ → Option Function → Option Function
  slot_begun at None = None
  slot_begun at (Some f) = Some (record { ty = f.ty; origin = origin_begun (param_count a.filled f.ty) at f.origin })

  abbrev pub behind_slot : ℕ → Option Function → ℕ
  behind_slot at None = at
  behind_slot at (Some f) = behind_origin (param_count a.filled f.ty) at f.origin

  abbrev pub functions_begun : ℕ → List (Option Function) → List (Option Function)
  functions_begun at [] = []
  functions_begun at (f ∷ fs) = slot_begun at f ∷ functions_begun (behind_slot at f) fs

  -- ---- a module: its bodies stand behind their count

  abbrev pub first_body : Module → ℕ
  first_body m = length (unsigned_bytes (length (bodies_due a m)))

  abbrev pub module_begun : Module → Module
  module_begun m = record m { functions = functions_begun (first_body m) m.functions }
