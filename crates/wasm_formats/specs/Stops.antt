-- Why a module is refused, and where: what parsing from left to right answers.
use Rattle.std.specs.Prelude.{ℕ, ◌+◌, List, Result, Ok, Err, Bool, true, false}
use Rattle.wasm_reader.specs.declared.error.ErrorKind.{ErrorKind}
use Rattle.wasm_reader.specs.declared.error.ErrorKind.TheVariants as kinds
use Rattle.wasm_reader.specs.Reading.{Reading}
use Rattle.wasm_formats.specs.declared.fault.Space.{Space}
use Rattle.wasm_formats.specs.declared.fault.Form.{Form}
use Rattle.wasm_formats.specs.declared.fault.Limited.{Limited}

-- why a module is refused, in the order of the faults' numbers
pub data Trouble : Type 0 where
  Read : (kind : ErrorKind) → Trouble
  Header : Trouble
  SectionOrder : Trouble
  SectionSize : Trouble
  Count : Trouble
  Index : (space : Space) → Trouble
  TypeForm : Trouble
  ConstExpr : Trouble
  OffsetType : Trouble
  Nesting : Trouble
  Position : Trouble
  Operator : Trouble
  Unsupported : (form : Form) → Trouble
  DuplicateExport : Trouble
  Bounds : Trouble
  Limit : (of : Limited) → Trouble

-- trouble, and how many bytes are left from its place to the end
pub record Stop : Type 0 where
  pub trouble : Trouble
  pub left : ℕ

abbrev pub stop : Trouble → ℕ → Stop
stop trouble left = record { trouble = trouble; left = left }

-- trouble that can come of the end of the bytes, and that more bytes may mend; a limit stands before what is cut short behind it, and gives
-- way to another fault of its own byte
abbrev pub can_end : Trouble → Bool
can_end (Read (kinds.EndOfFile missing)) = true
can_end Header = true
can_end SectionSize = true
can_end Count = true
can_end (Limit of) = true
can_end _ = false

-- what stands at the front of the bytes and the bytes behind it, or where reading stops
abbrev pub Parsing : Type 0 → Type 0
Parsing A = Result (A × List ℕ) Stop

infixl 10 ◌>>=◌
abbrev pub ◌>>=◌ : {A B : Type 0} → Result A Stop → (A → Result B Stop) → Result B Stop
(Ok x) >>= f = f x
(Err e) >>= f = Err e

-- a value of the reader below, whose fault is the trouble `Read`
abbrev pub value_at : {A : Type 0} → Reading A → Parsing A
value_at (Ok x) = Ok x
value_at (Err e) = Err (stop (Read e.kind) e.left)

-- the same trouble with so many bytes more behind it
abbrev pub moved : ℕ → Stop → Stop
moved more s = stop s.trouble (s.left + more)

-- a part with this many bytes behind it: what stops in it stops so many bytes further from the end
abbrev pub before : {A : Type 0} → ℕ → Result A Stop → Result A Stop
before more (Ok x) = Ok x
before more (Err s) = Err (moved more s)
