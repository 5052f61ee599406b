-- What a call answers that reads a value of a format.
use Rattle.std.specs.Prelude.{◌≡◌, ◌⊎◌, ℕ, ◌-◌, List, Some, Result, Ok, Err}
use Rattle.wasm_reader.specs.Cursor.{Cursor, rest, end_of, Forward}
use Rattle.wasm_formats.specs.Stops.{Stop, Parsing}
use Rattle.walrus_body_nesting.specs.walrus_body_env.declared.error.BodyError.{BodyError}
use Rattle.walrus_body_nesting.specs.walrus_body_env.declared.error.BodyError.TheVariants.{Memory}
use Rattle.walrus_body_nesting.specs.Faults.{fault_at}

-- the fault where reading stops so, in bytes that end at this offset
abbrev pub IsFaultOf : ℕ → Stop → BodyError → Type 0
IsFaultOf end s e = fault_at s.trouble (end - s.left) ≡ Some e

-- reading stops so, or memory was wanted, which may stand in place of what comes later
abbrev pub Refuses : {A : Type 0} → ℕ → Parsing A → BodyError → Type 0
Refuses end p e = (e ≡ Memory) ⊎ ((s : Stop) × (p ≡ Err s) × IsFaultOf end s e)

-- the call's answer stands for the value that was read, or it is refused as reading stops
abbrev pub Answers : {X A : Type 0} → (X → A → Type 0) → Cursor → Result X BodyError → Parsing A → Type 0
Answers {X} {A} Is new (Ok x) p = (y : A) × (p ≡ Ok (y, rest new)) × Is x y
Answers Is new (Err e) p = Refuses (end_of new) p e

pub record Parses {X A : Type 0} (parse : List ℕ → Parsing A) (Is : X → A → Type 0) (old new : Cursor) (result : Result X BodyError) : Type 0 where
  pub value : Answers Is new result (parse (rest old))
  pub moves : Forward old new
