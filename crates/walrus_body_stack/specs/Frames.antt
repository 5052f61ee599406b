-- The open sequences of a body that is read, as contracts see them, and how calls change them.
use Rattle.std.specs.Prelude.{◌≡◌, ◌⊎◌, ℕ, Bool, true, false, List, [], ◌∷◌, ◌++◌, length, Option, Some, None, Result, Ok, Err}
use Rattle.std.specs.declared.alloc.Global.{Global}
use Rattle.std.specs.Global.{Vec}
use Rattle.std.specs.declared.string.String.{String}
use Rattle.walrus_instr.specs.declared.instr.Instr.{Instr}
use Rattle.walrus_instr.specs.declared.instr.Instr.TheVariants as instr
use Rattle.walrus_instr.specs.declared.instr.TryTableCatch.{TryTableCatch}
use Rattle.walrus_instr.specs.declared.seq.InstrLocId.{InstrLocId}
use Rattle.walrus_instr.specs.declared.seq.InstrSeqType.{InstrSeqType}
use Rattle.walrus_body_nesting.specs.walrus_builder.declared.function.FunctionBuilder.{FunctionBuilder}
use Rattle.walrus_body_nesting.specs.walrus_builder.Built.{Seq, contents, edited, filled_with, empty_seq, no_place}
use Rattle.walrus_body_nesting.specs.wasm_formats.Stops.{Trouble, Nesting, Position}
use Rattle.walrus_body_nesting.specs.walrus_body_env.declared.error.BodyError.{BodyError}
use Rattle.walrus_body_nesting.specs.Faults.{Fails}
use Rattle.walrus_body_nesting.specs.wasm_body_grammar.Frames as grammar
use Rattle.walrus_body_nesting.specs.declared.frames.Opener.{Opener}
use Rattle.walrus_body_nesting.specs.declared.frames.Opener.TheVariants as openers
use Rattle.walrus_body_nesting.specs.Stands.{Turn, Otherwise, Part, part, Finish, Ended, Delegated, block}
use Rattle.walrus_body_nesting.specs.Opens.{Open, is_bare, reach_in, begun, turned_to, nested, Makes}
use Rattle.walrus_body_stack.specs.declared.frame.Sort.{Sort}
use Rattle.walrus_body_stack.specs.declared.frame.Sort.TheVariants as sorts
use Rattle.walrus_body_stack.specs.declared.frame.Frame.{Frame}
use Rattle.walrus_body_stack.specs.Held.{Held}
use Rattle.walrus_body_stack.specs.declared.stack.Stack.{Stack}

-- the clauses of a frame's block, if any were put on the pile
abbrev pub clauses_or : List (Vec TryTableCatch) → Opener
clauses_or [] = openers.Block
clauses_or (c ∷ cs) = openers.TryTable c

-- the clauses of open blocks, the innermost first
abbrev pub opener_of : Sort → List (Vec TryTableCatch) → Opener
opener_of sorts.Block cs = openers.Block
opener_of sorts.Loop cs = openers.Loop
opener_of sorts.Then cs = openers.If
opener_of sorts.Else cs = openers.If
opener_of sorts.Try cs = openers.Try
opener_of sorts.Catch cs = openers.Try
opener_of sorts.CatchAll cs = openers.Try
opener_of sorts.TryTable cs = clauses_or cs

abbrev pub kind_of : Sort → grammar.Frame
kind_of sorts.Block = grammar.Plain
kind_of sorts.Loop = grammar.Plain
kind_of sorts.Then = grammar.Choice
kind_of sorts.Else = grammar.Plain
kind_of sorts.Try = grammar.Trying
kind_of sorts.Catch = grammar.Catching
kind_of sorts.CatchAll = grammar.Caught
kind_of sorts.TryTable = grammar.Plain

abbrev pub top : List (List Part) → List Part
top [] = []
top (h ∷ hs) = h

abbrev pub below : {A : Type 0} → List A → List A
below [] = []
below (x ∷ xs) = xs

-- the parts behind the first one, by the handlers so far of open blocks, the innermost first
abbrev pub turns_of : Sort → ℕ → List (List Part) → List Part
turns_of sorts.Block k hs = []
turns_of sorts.Loop k hs = []
turns_of sorts.Then k hs = []
turns_of sorts.Else k hs = part Otherwise k ∷ []
turns_of sorts.Try k hs = top hs
turns_of sorts.Catch k hs = top hs
turns_of sorts.CatchAll k hs = top hs
turns_of sorts.TryTable k hs = []

-- those of the blocks around it
abbrev pub handlers_around : Sort → List (List Part) → List (List Part)
handlers_around sorts.Block hs = hs
handlers_around sorts.Loop hs = hs
handlers_around sorts.Then hs = hs
handlers_around sorts.Else hs = hs
handlers_around sorts.Try hs = below hs
handlers_around sorts.Catch hs = below hs
handlers_around sorts.CatchAll hs = below hs
handlers_around sorts.TryTable hs = hs

abbrev pub clauses_around : Sort → List (Vec TryTableCatch) → List (Vec TryTableCatch)
clauses_around sorts.Block cs = cs
clauses_around sorts.Loop cs = cs
clauses_around sorts.Then cs = cs
clauses_around sorts.Else cs = cs
clauses_around sorts.Try cs = cs
clauses_around sorts.Catch cs = cs
clauses_around sorts.CatchAll cs = cs
clauses_around sorts.TryTable cs = below cs

abbrev pub open_of : Held → List (List Part) → List (Vec TryTableCatch) → Open
open_of h hs cs =
    record {
      opener = opener_of h.frame.sort cs;
      place = h.frame.place;
      ty = h.frame.ty;
      first = h.frame.first;
      seq = h.frame.seq;
      kind = kind_of h.frame.sort;
      turns = turns_of h.frame.sort h.frame.seq hs;
      reach = h.frame.reach;
      instrs = h.instrs;
    }

abbrev pub opens_of : List Held → List (List Part) → List (Vec TryTableCatch) → List Open
opens_of [] hs cs = []
opens_of (h ∷ rest) hs cs = open_of h hs cs ∷ opens_of rest (handlers_around h.frame.sort hs) (clauses_around h.frame.sort cs)

-- the innermost, those around it, and all
abbrev pub inner : Stack → Open
inner s = open_of s.nest.inner s.handlers s.clauses

abbrev pub around : Stack → List Open
around s = opens_of s.nest.outer (handlers_around s.nest.inner.frame.sort s.handlers) (clauses_around s.nest.inner.frame.sort s.clauses)

abbrev pub opens : Stack → List Open
opens s = inner s ∷ around s

abbrev pub blocks : Stack → List Seq
blocks s = contents s.builder.builder

-- the type and the name of a function
abbrev pub heading : FunctionBuilder → ℕ × Option (String Global)
heading f = (f.ty, f.name)

-- those of the function that is built
abbrev pub heading_of : Stack → ℕ × Option (String Global)
heading_of s = heading s.builder

-- the kind of a block's first part
abbrev pub first_kind : Opener → grammar.Frame
first_kind openers.Block = grammar.Plain
first_kind openers.Loop = grammar.Plain
first_kind openers.If = grammar.Choice
first_kind openers.Try = grammar.Trying
first_kind (openers.TryTable clauses) = grammar.Plain

-- a block of this type was opened
pub record IsOpened (g : Opener) (place : InstrLocId) (ty : InstrSeqType) (old new : Stack) : Type 0 where
  pub blocks_are : blocks new ≡ blocks old ++ empty_seq (length (blocks old)) ty ∷ []
  pub opens_are : opens new ≡ begun g place ty (first_kind g) (length (blocks old)) (reach_in (inner old).reach) ∷ opens old

-- the innermost sequence, filled
abbrev pub filled : InstrLocId → Stack → List Seq
filled place s = edited (filled_with (inner s).instrs place) (blocks s) (inner s).seq

-- its block's next part, of this type, was begun
pub record IsTurned (turn : Turn) (kind : grammar.Frame) (ty : InstrSeqType) (place : InstrLocId) (old new : Stack) : Type 0 where
  pub blocks_are : blocks new ≡ filled place old ++ empty_seq (length (filled place old)) ty ∷ []
  pub opens_are : opens new ≡ turned_to turn (length (filled place old)) kind (inner old) ∷ around old

-- its block was closed, and the instruction added to the sequence around it
pub record IsNested (finish : Finish) (old new : Stack) : Type 0 where
  pub outer : Open
  pub further : List Open
  pub parts : List Part
  pub instr : Instr
  pub around_is : around old ≡ outer ∷ further
  pub makes : Makes (inner old).opener instr (block (inner old).first parts finish)
  pub opens_are : opens new ≡ nested (inner old).reach (instr, (inner old).place) outer ∷ further

-- the sort of a block's first part: how what opened it is told from what was noted of it
pub record IsFirst (g : Opener) (s : Sort) (hs ks : List (List Part)) (cs ds : List (Vec TryTableCatch)) : Type 0 where
  pub opener : opener_of s ds ≡ g
  pub kind : kind_of s ≡ first_kind g
  pub turns : (k : ℕ) → turns_of s k ks ≡ []
  pub handlers : handlers_around s ks ≡ hs
  pub clauses : clauses_around s ds ≡ cs

-- the instruction of a block that ends with this sequence: an `if` without `else` gets an empty one
abbrev pub IsMade : Sort → InstrSeqType → ℕ → ℕ → List (List Part) → List (Vec TryTableCatch) → List Seq → List Seq → Instr → Type 0
IsMade sorts.Then ty first k hs cs b c i = (c ≡ b ++ empty_seq (length b) ty ∷ []) × (i ≡ instr.IfElse first (length b))
IsMade s ty first k hs cs b c i = (c ≡ b) × Makes (opener_of s cs) i (block first (turns_of s k hs) Ended)

-- it is that instruction whatever else is open, and nothing but sequences is kept for it
pub record IsStraight (f : Frame) (i : Instr) : Type 0 where
  pub made : (hs : List (List Part)) (cs : List (Vec TryTableCatch)) (b : List Seq) → IsMade f.sort f.ty f.first f.seq hs cs b b i
  pub handlers : (hs : List (List Part)) → handlers_around f.sort hs ≡ hs
  pub clauses : (cs : List (Vec TryTableCatch)) → clauses_around f.sort cs ≡ cs

-- no `else` was added
pub record IsClosed (place : InstrLocId) (finish : Finish) (old new : Stack) : Type 0 where
  pub nested : IsNested finish old new
  pub bare : is_bare (inner old).kind ≡ false
  pub parts : nested.parts ≡ (inner old).turns
  pub blocks_are : blocks new ≡ filled place old

-- one was
pub record IsCompleted (place : InstrLocId) (old new : Stack) : Type 0 where
  pub nested : IsNested Ended old new
  pub bare : is_bare (inner old).kind ≡ true
  pub parts : nested.parts ≡ (inner old).turns ++ part Otherwise (length (filled place old)) ∷ []
  pub blocks_are : blocks new ≡ filled place old ++ empty_seq (length (filled place old)) (inner old).ty ∷ []

-- the body was
pub record IsDone (place : InstrLocId) (old new : Stack) : Type 0 where
  pub outermost : around old ≡ []
  pub blocks_are : blocks new ≡ filled place old

-- what an `end` does
abbrev pub IsEnded : Bool → InstrLocId → Stack → Stack → Type 0
IsEnded true place old new = IsDone place old new
IsEnded false place old new = IsClosed place Ended old new ⊎ IsCompleted place old new

-- what a `delegate` does
abbrev pub IsHanded : Bool → ℕ → Stack → Stack → Type 0
IsHanded true depth old new = around old ≡ []
IsHanded false depth old new = IsClosed no_place (Delegated depth) old new

abbrev pub IsTrying : grammar.Frame → Type 0
IsTrying grammar.Trying = Unit {0}
IsTrying _ = ⊥

abbrev pub is_then : Sort → Bool
is_then sorts.Then = true
is_then _ = false

-- ---- what may stand in a sequence of a kind

-- a call that takes no memory answers only where the test passes, and refuses just as it fails
abbrev pub IsTested : Result (Unit {0}) BodyError → Option Trouble → ℕ → Type 0
IsTested (Ok x) test offset = (test ≡ None) × Unit {0}
IsTested (Err e) test offset = Fails test offset e

abbrev pub other_test : grammar.Frame → Option Trouble
other_test grammar.Choice = None
other_test _ = Some Nesting

abbrev pub handler_test : grammar.Frame → Option Trouble
handler_test grammar.Trying = None
handler_test grammar.Catching = None
handler_test grammar.Caught = Some Position
handler_test _ = Some Nesting

abbrev pub delegate_test : grammar.Frame → Option Trouble
delegate_test grammar.Trying = None
delegate_test grammar.Catching = Some Position
delegate_test grammar.Caught = Some Position
delegate_test _ = Some Nesting
