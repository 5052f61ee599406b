-- What a call that parses answers, in words of the formats: the value and the bytes behind it, or the trouble and its place.
use Rattle.std.specs.Prelude.{ℕ, ◌-◌, ◌≤◌, ◌≡◌, ◌⊎◌, List, Result, Ok, Err, IfErr}
use Rattle.wasm_reader.specs.Cursor.{Cursor, rest, end_of, Forward}
use Rattle.wasm_formats.specs.Stops.{Stop, stop, Parsing}
use Rattle.walrus_section_reader.specs.declared.fault.Fault.{Fault}
use Rattle.walrus_section_reader.specs.Faults.{trouble_of, IsMemory}

-- a fault's trouble, and how many bytes are left from its place to the end of a reader's window
abbrev pub stop_of : Cursor → Fault → Stop
stop_of now e = stop (trouble_of e.kind) (end_of now - e.offset)

-- a call's result, and the reader as the call leaves it, as a parsing's answer
abbrev pub answer : {X Y : Type 0} → (X → Y) → Cursor → Result X Fault → Parsing Y
answer view new (Ok x) = Ok (view x, rest new)
answer view new (Err e) = Err (stop_of new e)

-- a call that takes no memory parsed what the parsing says: its value or where it stops, and where the reader then stands
pub record ParsesExactly {X Y : Type 0} (parse : List ℕ → Parsing Y) (view : X → Y) (old new : Cursor) (result : Result X Fault) : Type 0 where
  pub value : parse (rest old) ≡ answer view new result
  pub place : IfErr result (λ e. e.offset ≤ end_of new)
  pub moves : Forward old new

-- a call's fault is where the parsing stops, or want of memory, which may stand in place of whatever comes
abbrev pub FailsAs : {Y : Type 0} → Cursor → Fault → Result Y Stop → Type 0
FailsAs now e parsed = (parsed ≡ Err (stop_of now e)) ⊎ IsMemory e

abbrev pub Answers : {X Y : Type 0} → (X → Y) → Cursor → Result X Fault → Parsing Y → Type 0
Answers view now (Ok x) parsed = parsed ≡ Ok (view x, rest now)
Answers view now (Err e) parsed = FailsAs now e parsed

-- a call parsed what the parsing says, or was refused memory
pub record Parses {X Y : Type 0} (parse : List ℕ → Parsing Y) (view : X → Y) (old new : Cursor) (result : Result X Fault) : Type 0 where
  pub value : Answers view new result (parse (rest old))
  pub place : IfErr result (λ e. e.offset ≤ end_of new)
  pub moves : Forward old new

-- the same of a call that reads to the end of the window
abbrev pub AnswersWhole : {X Y : Type 0} → (X → Y) → Cursor → Result X Fault → Result Y Stop → Type 0
AnswersWhole view now (Ok x) parsed = parsed ≡ Ok (view x)
AnswersWhole view now (Err e) parsed = FailsAs now e parsed

pub record ParsesWhole {X Y : Type 0} (parse : List ℕ → Result Y Stop) (view : X → Y) (now : Cursor) (result : Result X Fault) : Type 0 where
  pub value : AnswersWhole view now result (parse (rest now))
  pub place : IfErr result (λ e. e.offset ≤ end_of now)
