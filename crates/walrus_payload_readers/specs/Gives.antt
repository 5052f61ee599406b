-- What a call that reads a value of a payload answers, in words of the formats: the value and the bytes behind it, or nothing.
use Rattle.std.specs.Prelude.{ℕ, ◌≡◌, List, Option, Some, None, Ok, Err}
use Rattle.std.specs.Borrow.{Bor}
use Rattle.wasm_reader.specs.Cursor.{Cursor, rest}
use Rattle.wasm_formats.specs.Stops.{Parsing}

-- a value and the bytes behind it; none where it is refused, whatever the cause
abbrev pub unless_refused : {A : Type 0} → Parsing A → Option (A × List ℕ)
unless_refused (Ok x) = Some x
unless_refused (Err s) = None

abbrev pub answer : {X Y : Type 0} → (X → Y) → Cursor → Option X → Option (Y × List ℕ)
answer view new (Some x) = Some (view x, rest new)
answer view new None = None

abbrev pub Gives : {X Y : Type 0} → (List ℕ → Parsing Y) → (X → Y) → Cursor → Cursor → Option X → Type 0
Gives parse view old new result = unless_refused (parse (rest old)) ≡ answer view new result

abbrev pub association_of : ℕ × Bor (List ℕ) → ℕ × List ℕ
association_of e = (e.0, e.1.now)
