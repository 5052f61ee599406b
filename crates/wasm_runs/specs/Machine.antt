-- What one operator of a body does, without operands, by the flow column of the table of operators (Core Specification, execution: control
-- instructions, calls, exceptions; the proposal on legacy exceptions).
use Rattle.std.specs.Prelude.{ℕ, zero, suc, Bool, true, false, List, [], ◌∷◌, Option, Some, None, if◌then◌else◌, slice_get}
use Rattle.wasm_operators.specs.declared.clause.Clause.{Clause}
use Rattle.wasm_operators.specs.declared.entry.Flow.{Flow}
use Rattle.wasm_operators.specs.declared.entry.Flow.TheVariants as flows
use Rattle.wasm_operators.specs.Operators.{Seen, flow_of}
use Rattle.wasm_normal_form.specs.Roles.{end_op}
use Rattle.wasm_normal_form.specs.Trees.{Tree, Close, Arm, Skip, Run, Nest}
use Rattle.wasm_runs.specs.Outcomes.{Outcome, Ending, Trapped, Spent, Misfit, goes_on, holds, throws, number, Reply, Back, Fails, Thrown, reply, Found, Replies, Into, found, taken}
use Rattle.wasm_runs.specs.Programs.{Code, nested, labels_of, callee_of, clauses_of}
use Rattle.wasm_runs.specs.Frames.{Way, To, Along, Handler, Frame, plain, Part, parts, opened}

-- where one operator leads; each has the bound and the outcomes that are left
pub data Move : Type 0 where
  -- on in the body: what is ahead, and the open frames, innermost first
  Goes : (ahead : Tree) (frames : List Frame) (bound : ℕ) (outcomes : List Outcome) → Move
  -- out of the body
  Leaves : (bound : ℕ) (outcomes : List Outcome) → Move
  -- out of the body, by a throw
  Raises : (bound : ℕ) (outcomes : List Outcome) → Move
  -- into a function; then on in the body
  Enters : (function : ℕ) (body : Tree) (ahead : Tree) (frames : List Frame) (bound : ℕ) (outcomes : List Outcome) → Move
  -- into a function, in the place of the body
  Becomes : (function : ℕ) (body : Tree) (bound : ℕ) (outcomes : List Outcome) → Move
  -- the run ends
  Ends : (ending : Ending) → Move

-- ---- branches

-- to a frame: it is left, or, a loop, begun again, which spends one of the bound
abbrev pub to_frame : Option Tree → Frame → List Frame → ℕ → List Outcome → Move
to_frame None f around bound outcomes = Goes f.after around bound outcomes
to_frame (Some body) f around zero outcomes = Ends Spent
to_frame (Some body) f around (suc bound) outcomes = Goes body (f ∷ around) bound outcomes

-- to the frame of this number, the innermost being 0; behind the last one comes the body's own, which is left
abbrev pub branch : ℕ → List Frame → ℕ → List Outcome → Move
branch k [] bound outcomes = Leaves bound outcomes
branch zero (f ∷ around) bound outcomes = to_frame f.again f around bound outcomes
branch (suc k) (f ∷ around) bound outcomes = branch k around bound outcomes

-- along a label, if there is one
abbrev pub branch_to : Option ℕ → List Frame → ℕ → List Outcome → Move
branch_to None frames bound outcomes = Ends Misfit
branch_to (Some k) frames bound outcomes = branch k frames bound outcomes

-- ---- throws

-- a handler takes the exception: its part stands in the place of the `try`, or the label is branched to
abbrev pub caught : Way → Tree → List Frame → ℕ → List Outcome → Move
caught (To handler) after around bound outcomes = Goes handler (plain after ∷ around) bound outcomes
caught (Along k) after around bound outcomes = branch k around bound outcomes

-- one handler is offered it; `further`: it doesn't take it
abbrev pub offered_one : Bool → Way → (List Outcome → Move) → Tree → List Frame → ℕ → List Outcome → Move
offered_one false way further after around bound outcomes = caught way after around bound outcomes
offered_one true way further after around bound outcomes = taken holds Ends (λ yes rest. if yes then caught way after around bound rest else further rest) outcomes

-- the handlers of a frame in order; `further`: none takes it
abbrev pub offered : List Handler → (List Outcome → Move) → Tree → List Frame → ℕ → List Outcome → Move
offered [] further after around bound outcomes = further outcomes
offered (h ∷ handlers) further after around bound outcomes = offered_one h.tagged h.way (λ rest. offered handlers further after around bound rest) after around bound outcomes

-- an exception goes outward, past so many frames first
abbrev pub thrown : ℕ → List Frame → ℕ → List Outcome → Move
thrown k [] bound outcomes = Raises bound outcomes
thrown zero (f ∷ around) bound outcomes = offered f.handlers (λ rest. thrown f.passes around bound rest) f.after around bound outcomes
thrown (suc k) (f ∷ around) bound outcomes = thrown k around bound outcomes

-- ---- steps

-- what is entered in the trace, and what comes next
pub record Step (E A : Type 0) : Type 0 where
  pub events : List E
  pub move : A

abbrev pub nothing : {E : Type 0} → Move → Step E Move
nothing m = record { events = []; move = m }

abbrev pub did : {E : Type 0} → E → Move → Step E Move
did v m = record { events = v ∷ []; move = m }

-- an operator that can't make its move isn't executed
abbrev pub did_unless_over : {E : Type 0} → E → Move → Step E Move
did_unless_over v (Ends e) = nothing (Ends e)
did_unless_over v m = did v m

abbrev pub stuck : {E : Type 0} → Ending → Step E Move
stuck e = nothing (Ends e)

-- it goes on, or traps
abbrev pub goes_or_traps : {E : Type 0} → E → (List Outcome → Move) → Bool → List Outcome → Step E Move
goes_or_traps v next true outcomes = did v (next outcomes)
goes_or_traps v next false outcomes = did v (Ends Trapped)

-- ---- calls

-- what a call does: it enters a function, returns at once, or throws at once
pub record Call : Type 0 where
  pub into : ℕ → Tree → ℕ → List Outcome → Move
  pub back : ℕ → List Outcome → Move
  pub raise : ℕ → List Outcome → Move

-- a call from a body, in which it goes on and which searches its frames
abbrev pub from : Tree → List Frame → Call
from ahead frames = record { into = λ g body n os. Enters g body ahead frames n os; back = Goes ahead frames; raise = thrown 0 frames }

-- a tail call: the body was left before
abbrev pub instead : Call
instead = record { into = Becomes; back = Leaves; raise = Raises }

-- a function with a body is entered, which spends one of the bound; `other`: it has none
abbrev pub entered : {E : Type 0} → E → Call → ℕ → Option (List Seen) → ℕ → List Outcome → Step E Move → Step E Move
entered v call g None bound outcomes other = other
entered v call g (Some ops) zero outcomes other = stuck Spent
entered v call g (Some ops) (suc bound) outcomes other = did v (call.into g (nested ops) bound outcomes)

abbrev pub replied : {E : Type 0} → E → Call → ℕ → Reply → List Outcome → Step E Move
replied v call bound Back outcomes = did v (call.back bound outcomes)
replied v call bound Fails outcomes = did v (Ends Trapped)
replied v call bound Thrown outcomes = did v (call.raise bound outcomes)

-- of this function
abbrev pub calls : {E : Type 0} → Code E → E → Call → Option ℕ → ℕ → List Outcome → Step E Move
calls c v call None bound outcomes = stuck Misfit
calls c v call (Some g) bound outcomes = entered v call g (c.body g) bound outcomes (taken reply stuck (replied v call bound) outcomes)

-- of a function that the run finds: one that is entered has a body
abbrev pub finds : {E : Type 0} → Code E → E → Call → ℕ → Found → List Outcome → Step E Move
finds c v call bound (Replies r) outcomes = replied v call bound r outcomes
finds c v call bound (Into g) outcomes = entered v call g (c.body g) bound outcomes (stuck Misfit)

abbrev pub calls_any : {E : Type 0} → Code E → E → Call → ℕ → List Outcome → Step E Move
calls_any c v call bound outcomes = taken found stuck (finds c v call bound) outcomes

-- ---- operators

-- an operator of this flow that names these labels and this function, and stands in the trace so
abbrev pub acts : {E : Type 0} → Code E → Option Flow → List ℕ → Option ℕ → E → Tree → List Frame → ℕ → List Outcome → Step E Move
acts c (Some flows.Traps) labels callee v ahead frames bound outcomes = did v (Ends Trapped)
acts c (Some flows.Branches) labels callee v ahead frames bound outcomes = did_unless_over v (branch_to (slice_get labels 0) frames bound outcomes)
acts c (Some flows.Chooses) labels callee v ahead frames bound outcomes =
    taken holds stuck (λ yes rest. did_unless_over v (if yes then branch_to (slice_get labels 0) frames bound rest else Goes ahead frames bound rest)) outcomes
acts c (Some flows.Selects) labels callee v ahead frames bound outcomes = taken number stuck (λ k rest. did_unless_over v (branch_to (slice_get labels k) frames bound rest)) outcomes
acts c (Some flows.Returns) labels callee v ahead frames bound outcomes = did v (Leaves bound outcomes)
acts c (Some flows.Throws) labels callee v ahead frames bound outcomes = did v (thrown 0 frames bound outcomes)
acts c (Some flows.ThrowsOrTraps) labels callee v ahead frames bound outcomes = taken throws stuck (goes_or_traps v (thrown 0 frames bound)) outcomes
acts c (Some flows.Calls) labels callee v ahead frames bound outcomes = calls c v (from ahead frames) callee bound outcomes
acts c (Some flows.CallsIndirectly) labels callee v ahead frames bound outcomes = calls_any c v (from ahead frames) bound outcomes
acts c (Some flows.TailCalls) labels callee v ahead frames bound outcomes = calls c v instead callee bound outcomes
acts c (Some flows.TailCallsIndirectly) labels callee v ahead frames bound outcomes = calls_any c v instead bound outcomes
acts c _ labels callee v ahead frames bound outcomes = taken goes_on stuck (goes_or_traps v (Goes ahead frames bound)) outcomes

-- the part of an `if` whose condition fails: where there is no `else`, its end
abbrev pub otherwise : List Part → Tree → List Frame → ℕ → List Outcome → Move
otherwise [] after around bound outcomes = Goes (Close end_op None) (plain after ∷ around) bound outcomes
otherwise (part ∷ parts) after around bound outcomes = Goes part.tree (plain after ∷ around) bound outcomes

-- an operator of this flow and with these handlers opens a block
abbrev pub begins : {E : Type 0} → Option Flow → List Clause → E → (body ahead : Tree) → List Frame → ℕ → List Outcome → Step E Move
begins (Some flows.OpensIf) handlers v body ahead frames bound outcomes =
    taken holds stuck (λ yes rest. did v (if yes then Goes body (plain ahead ∷ frames) bound rest else otherwise (parts body) ahead frames bound rest)) outcomes
begins flow handlers v body ahead frames bound outcomes = did v (Goes body (opened flow handlers body ahead ∷ frames) bound outcomes)

-- flow reaches the end of a part: its frame is left, or the body
abbrev pub ends_part : List Frame → ℕ → List Outcome → Move
ends_part [] bound outcomes = Leaves bound outcomes
ends_part (f ∷ around) bound outcomes = Goes f.after around bound outcomes

-- the next operator of function f
abbrev pub act : {E : Type 0} → Code E → ℕ → Tree → List Frame → ℕ → List Outcome → Step E Move
act c f (Close o p) frames bound outcomes = nothing (ends_part frames bound outcomes)
act c f (Arm o p t) frames bound outcomes = nothing (ends_part frames bound outcomes)
act c f (Skip o p t) frames bound outcomes = nothing (Goes t frames bound outcomes)
act c f (Run o p t) frames bound outcomes = acts c (flow_of o.code) (labels_of o) (callee_of o) (c.entry f o) t frames bound outcomes
act c f (Nest o p u t) frames bound outcomes = begins (flow_of o.code) (clauses_of o) (c.entry f o) u t frames bound outcomes
