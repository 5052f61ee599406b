-- Why a body is refused, in words of its grammar.
use Rattle.std.specs.Prelude.{◌≡◌, ◌⊎◌, ℕ, Option, Some, None, Result, Ok, Err}
use Rattle.wasm_body_grammar.specs.wasm_formats.Stops.{Trouble, Read, Index, TypeForm, Nesting, Position, Operator, Unsupported, Bounds, Limit}
use Rattle.walrus_body_env.specs.declared.error.BodyError.{BodyError}
use Rattle.walrus_body_env.specs.declared.error.BodyError.TheVariants as faults

-- the fault that is told of trouble at this offset; bodies have no other trouble
abbrev pub fault_at : Trouble → ℕ → Option BodyError
fault_at (Read kind) offset = Some (faults.Read (record { kind = kind; offset = offset }))
fault_at (Index space) offset = Some (faults.Index space (Some offset))
fault_at TypeForm offset = Some (faults.TypeForm (Some offset))
fault_at Nesting offset = Some (faults.Nesting (Some offset))
fault_at Position offset = Some (faults.Position (Some offset))
fault_at Operator offset = Some (faults.Operator (Some offset))
fault_at (Unsupported form) offset = Some (faults.Unsupported form (Some offset))
fault_at Bounds offset = Some (faults.Bounds (Some offset))
fault_at (Limit of) offset = Some (faults.Limit of (Some offset))
fault_at _ offset = None

-- a test fails so at this offset
abbrev pub Fails : Option Trouble → ℕ → BodyError → Type 0
Fails None offset e = ⊥
Fails (Some trouble) offset e = fault_at trouble offset ≡ Some e

-- why a call is refused: the test's trouble, or want of memory, which may stand in place of what comes later
abbrev pub IsRefusal : Option Trouble → ℕ → BodyError → Type 0
IsRefusal test offset e = (e ≡ faults.Memory) ⊎ Fails test offset e

-- a call answers only where the test passes, and refuses as it fails
abbrev pub Answers : {A : Type 0} → Result A BodyError → Option Trouble → ℕ → (A → Type 0) → Type 0
Answers (Ok x) test offset P = (test ≡ None) × P x
Answers (Err e) test offset P = IsRefusal test offset e
