-- Outcomes and traces renamed, and which outcomes fit.
use Rattle.std.specs.Prelude.{ℕ, List, map}
use Rattle.std.specs.List.{AllByRecursion}
use Rattle.wasm_operators.specs.Items.{Functions, Locals, Labels}
use Rattle.wasm_operators.specs.Names.{Renaming, renamed_value, renamed_item}
use Rattle.wasm_runs.specs.Outcomes.{Outcome, Enter}
use Rattle.wasm_runs.specs.Programs.{Signature, Shown, Plain, Typed, Executed, Event}

-- one map a space, and one a function for its locals
pub record Maps : Type 0 where
  pub items : Renaming
  pub locals : ℕ → ℕ → ℕ

-- what the operators of function f name; labels count frames, and stay
abbrev pub within : Maps → ℕ → Renaming
within r f Locals n = r.locals f n
within r f Labels n = n
within r f space n = r.items space n

-- ---- traces

abbrev pub renamed_signature : Renaming → Signature → Signature
renamed_signature r s = record { params = map (renamed_value r) s.params; results = map (renamed_value r) s.results }

abbrev pub renamed_shown : Renaming → Shown → Shown
renamed_shown r (Plain item) = Plain (renamed_item r item)
renamed_shown r (Typed s) = Typed (renamed_signature r s)

abbrev pub renamed_executed : Renaming → Executed → Executed
renamed_executed r x = record { code = x.code; items = map (renamed_shown r) x.items }

abbrev pub renamed_event : Maps → Event → Event
renamed_event r v = record { function = r.items Functions v.function; executed = renamed_executed (within r v.function) v.executed }

-- outcomes that enter a function
abbrev pub renamed_outcome : (ℕ → ℕ) → Outcome → Outcome
renamed_outcome function (Enter f) = Enter (function f)
renamed_outcome function outcome = outcome

-- an outcome that enters a function enters a kept one
abbrev pub FitsOne : (ℕ → Type 0) → Outcome → Type 0
FitsOne kept (Enter f) = kept f
FitsOne kept _ = Unit {0}

abbrev pub Fits : (ℕ → Type 0) → List Outcome → Type 0
Fits kept outcomes = AllByRecursion (FitsOne kept) outcomes
