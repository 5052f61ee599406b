-- Runs and their traces, of whole modules and of bodies that are cut at their calls.
use Rattle.std.specs.Prelude.{ℕ, ◌≡◌, List, [], ◌∷◌, ◌++◌, Option, Some, None}
use Rattle.wasm_operators.specs.declared.block_type.BlockType.{BlockType}
use Rattle.wasm_operators.specs.Operators.{Seen}
use Rattle.wasm_normal_form.specs.Trees.{Tree}
use Rattle.wasm_runs.specs.Outcomes.{Outcome, Ending, Returned, Trapped, Threw, Reply, Back, Fails, Thrown, reply, taken}
use Rattle.wasm_runs.specs.Programs.{Signature, Program, Executed, Event, Code, whole, cut, nested}
use Rattle.wasm_runs.specs.Frames.{Frame}
use Rattle.wasm_runs.specs.Machine.{Move, Goes, Leaves, Raises, Enters, Becomes, Ends, Step, thrown, act}

-- a function that was entered and hasn't been left: what is ahead in it, and its open frames, innermost first
pub record Activation : Type 0 where
  pub function : ℕ
  pub ahead : Tree
  pub frames : List Frame

-- the activations, innermost first, the bound, and the outcomes that are left
pub record State : Type 0 where
  pub stack : List Activation
  pub bound : ℕ
  pub outcomes : List Outcome

pub data Next : Type 0 where
  On : (state : State) → Next
  Over : (ending : Ending) → Next

abbrev pub activation : ℕ → Tree → List Frame → Activation
activation f ahead frames = record { function = f; ahead = ahead; frames = frames }

abbrev pub on : List Activation → ℕ → List Outcome → Next
on stack bound outcomes = On (record { stack = stack; bound = bound; outcomes = outcomes })

-- the innermost activation is left
abbrev pub back_to : List Activation → ℕ → List Outcome → Next
back_to [] bound outcomes = Over Returned
back_to (a ∷ callers) bound outcomes = on (a ∷ callers) bound outcomes

-- a move of function f above its callers; `raised`: how a throw that leaves it goes on
abbrev pub moved : ℕ → List Activation → (ℕ → List Outcome → Next) → Move → Next
moved f callers raised (Goes ahead frames bound outcomes) = on (activation f ahead frames ∷ callers) bound outcomes
moved f callers raised (Leaves bound outcomes) = back_to callers bound outcomes
moved f callers raised (Raises bound outcomes) = raised bound outcomes
moved f callers raised (Enters g body ahead frames bound outcomes) = on (activation g body [] ∷ activation f ahead frames ∷ callers) bound outcomes
moved f callers raised (Becomes g body bound outcomes) = on (activation g body [] ∷ callers) bound outcomes
moved f callers raised (Ends ending) = Over ending

-- an exception goes on at the call of the innermost of the callers
abbrev pub raised : List Activation → ℕ → List Outcome → Next
raised [] bound outcomes = Over Threw
raised (a ∷ callers) bound outcomes = moved a.function callers (raised callers) (thrown 0 a.frames bound outcomes)

-- one operator of the innermost activation
abbrev pub step : {E : Type 0} → Code E → List Activation → ℕ → List Outcome → Step E Next
step c [] bound outcomes = record { events = []; move = Over Returned }
step c (a ∷ callers) bound outcomes =
    let s = act c a.function a.ahead a.frames bound outcomes in
    record { events = s.events; move = moved a.function callers (raised callers) s.move }

-- a run from here executes these operators and ends so
pub data Traces {E : Type 0} (c : Code E) : Next → List E → Ending → Type 0 where
  over : {e : Ending} → Traces c (Over e) [] e
  goes : {s : State} {n : Step E Next} {vs ws : List E} {e : Ending} → step c s.stack s.bound s.outcomes ≡ n → Traces c n.move vs e → n.events ++ vs ≡ ws → Traces c (On s) ws e

-- ---- of a function of a module

-- an imported function takes one outcome, as a direct call of it does
abbrev pub answered : Reply → List Outcome → Next
answered Back outcomes = Over Returned
answered Fails outcomes = Over Trapped
answered Thrown outcomes = Over Threw

-- function f begins; its own activation spends nothing
abbrev pub starts : ℕ → Option (List Seen) → List Outcome → ℕ → Next
starts f None outcomes bound = taken reply Over answered outcomes
starts f (Some ops) outcomes bound = on (activation f (nested ops) [] ∷ []) bound outcomes

-- the trace of a run of function f under a bound, with these outcomes to come: the executed operators, and how it ends
abbrev pub Trace : Program → ℕ → List Outcome → ℕ → List Event → Ending → Type 0
Trace p f outcomes bound events ending = Traces (whole p) (starts f (p.body f) outcomes bound) events ending

-- ---- of a body

-- every call takes an outcome, and a tail call ends the body. Which function the body is of plays no part: it is called 0.
abbrev pub BodyTrace : (BlockType → Signature) → List Seen → List Outcome → ℕ → List Executed → Ending → Type 0
BodyTrace signature ops outcomes bound events ending = Traces (cut signature) (starts 0 (Some ops) outcomes bound) events ending
