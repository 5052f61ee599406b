-- The open frames of a body, and what each operator makes of them (Core Specification, instructions: control instructions; the
-- proposal on legacy exceptions).
use Rattle.std.specs.Prelude.{ℕ, ◌-◌, List, [], ◌∷◌, length, Option, Some, None, Result, Ok, Err}
use Rattle.wasm_grammar.specs.wasm_operators.declared.entry.Flow.{Flow}
use Rattle.wasm_grammar.specs.wasm_operators.declared.entry.Flow.TheVariants as flows
use Rattle.wasm_grammar.specs.wasm_formats.Stops.{Trouble, Nesting, Position}

pub data Frame : Type 0 where
  -- the body, a block, a loop, a `try_table`, or the second part of an `if`
  Plain : Frame
  -- the first part of an `if`
  Choice : Frame
  -- a `try` before its handlers
  Trying : Frame
  -- a `catch` of a `try`
  Catching : Frame
  -- its `catch_all`
  Caught : Frame

-- frames, the innermost first; or why the operator may not stand there
abbrev pub Turned : Type 0
Turned = Result (List Frame) Trouble

-- `else` stands once, in an `if`
abbrev pub other_part : Frame → List Frame → Turned
other_part Choice around = Ok (Plain ∷ around)
other_part _ around = Err Nesting

-- a handler stands in a `try`, and none stands behind its `catch_all`
abbrev pub handler : Frame → Frame → List Frame → Turned
handler next Trying around = Ok (next ∷ around)
handler next Catching around = Ok (next ∷ around)
handler next Caught around = Err Position
handler next _ around = Err Nesting

-- `delegate` ends a `try` that has no handlers
abbrev pub delegated : Frame → List Frame → Turned
delegated Trying around = Ok around
delegated Catching around = Err Position
delegated Caught around = Err Position
delegated _ around = Err Nesting

-- what an operator makes of the innermost frame and those around it
abbrev pub frames_after : Flow → Frame → List Frame → Turned
frames_after flows.OpensBlock f around = Ok (Plain ∷ f ∷ around)
frames_after flows.OpensLoop f around = Ok (Plain ∷ f ∷ around)
frames_after flows.OpensTryTable f around = Ok (Plain ∷ f ∷ around)
frames_after flows.OpensIf f around = Ok (Choice ∷ f ∷ around)
frames_after flows.OpensTry f around = Ok (Trying ∷ f ∷ around)
frames_after flows.Else f around = other_part f around
frames_after flows.Catch f around = handler Catching f around
frames_after flows.CatchAll f around = handler Caught f around
frames_after flows.Delegate f around = delegated f around
frames_after flows.End f around = Ok around
frames_after _ f around = Ok (f ∷ around)

-- behind the end of the body nothing may stand
abbrev pub turned : Option Flow → List Frame → Turned
turned flow [] = Err Nesting
turned None (f ∷ around) = Ok (f ∷ around)
turned (Some flow) (f ∷ around) = frames_after flow f around

-- a label is below the number of open frames, the body's included; `delegate` doesn't count the frame that it ends, whatever that is
abbrev pub label_count : Option Flow → List Frame → ℕ
label_count (Some flows.Delegate) frames = length frames - 1
label_count _ frames = length frames
