-- Each operator that is read is a step from a tree to come to a tree that stands.
use Rattle.std.specs.Prelude.{◌≡◌, ℕ, Bool, false, List, [], ◌∷◌, length, Some, None}
use Rattle.walrus_body_stack.specs.walrus_instr.declared.instr.Instr.{Instr}
use Rattle.walrus_body_stack.specs.walrus_instr.declared.seq.InstrLocId.{InstrLocId}
use Rattle.walrus_body_stack.specs.walrus_instr.declared.seq.InstrSeqType.{InstrSeqType}
use Rattle.walrus_body_stack.specs.walrus_builder.Built.{no_place}
use Rattle.walrus_body_rules.specs.walrus_pairing.wasm_operators.Items.{Labels, Names}
use Rattle.walrus_body_rules.specs.wasm_body_grammar.wasm_operators.declared.entry.Flow.TheVariants as flows
use Rattle.walrus_body_rules.specs.wasm_body_grammar.wasm_operators.Operators.{Seen, flow_of}
use Rattle.walrus_body_rules.specs.wasm_body_grammar.Frames.{Plain, Catching, Caught}
use Rattle.walrus_body_stack.specs.wasm_normal_form.Roles.{Placed, Passes, Runs, role, cuts}
use Rattle.walrus_body_stack.specs.wasm_normal_form.Trees.{open_in, tree_of}
use Rattle.walrus_body_stack.specs.wasm_normal_form.Normal.{normal}
use Rattle.walrus_body_stack.specs.walrus_body_nesting.declared.frames.Opener.{Opener}
use Rattle.walrus_body_stack.specs.walrus_body_nesting.declared.frames.Opener.TheVariants as openers
use Rattle.walrus_body_stack.specs.walrus_body_nesting.declared.frames.Reach.TheVariants.{Live}
use Rattle.walrus_body_stack.specs.walrus_body_nesting.Stands.{Otherwise, Handles, HandlesAll, place_in, total}
use Rattle.walrus_body_stack.specs.walrus_body_nesting.Opens.{ids_of, ran, reach_on, begun, type_at, same, Unless, Shaped, Reads, Steps}
use Rattle.walrus_body_stack.specs.declared.stack.Stack.{Stack}
use Rattle.walrus_body_stack.specs.Frames.{inner, around, opens, blocks, IsOpened, IsTurned, IsEnded, IsHanded, IsTrying, other_test, handler_test}
use Rattle.walrus_body_rules.specs.Sights.{Sight}
use Rattle.walrus_body_steps.specs.Meanings.{RunsAs, IsOpener, OpensOf, TurnsTo, meaning}

-- the step of an operator at this location
abbrev pub StepOf : Sight → Seen → InstrLocId → Stack → Bool → Stack → Type 0
StepOf s op p old done new = Steps (meaning s) op (place_in p) (blocks old) (opens old) done (blocks new) (opens new)

-- before the first operator: whatever comes, the body will stand as the normal form of its tree, block types as they are written
abbrev pub BodiesStart : Type 0
BodiesStart = (s : Sight) (new : Stack) (ty : InstrSeqType) → length (blocks new) ≡ 1 → total (blocks new) ≡ 0 → type_at (blocks new) 0 ≡ Some ty → opens new ≡ begun openers.Block no_place ty Plain 0 Live ∷ []
    → (Shaped (blocks new) (opens new)) × ((ops : List Placed) → Reads (meaning s) false (blocks new) (opens new) (open_in ops) (normal same (tree_of ops)))

abbrev pub PassesAreSteps : Type 0
PassesAreSteps = (s : Sight) (old : Stack) (op : Seen) (p : InstrLocId) → role op ≡ Passes → Shaped (blocks old) (opens old) → StepOf s op p old false old

abbrev pub RunsAreSteps : Type 0
RunsAreSteps = (s : Sight) (old new : Stack) (op : Seen) (i : Instr) (p : InstrLocId) → role op ≡ Runs → RunsAs s (ids_of (opens old)) op.code op.items i → Shaped (blocks old) (opens old)
    → blocks new ≡ blocks old → opens new ≡ ran (i, p) (cuts op) (inner old) ∷ around old → StepOf s op p old false new

abbrev pub OpeningsAreSteps : Type 0
OpeningsAreSteps = (s : Sight) (old new : Stack) (op : Seen) (g : Opener) (ty : InstrSeqType) (p : InstrLocId) → IsOpener s (ids_of (opens old)) op g → OpensOf s op ty → Shaped (blocks old) (opens old)
    → IsOpened g p ty old new → StepOf s op p old false new

-- a handler's type is asked of what is reached alone
pub record TurnsAreSteps : Type 0 where
  pub others : (s : Sight) (old new : Stack) (op : Seen) (p : InstrLocId) → flow_of op.code ≡ Some flows.Else → other_test (inner old).kind ≡ None → Shaped (blocks old) (opens old)
      → IsTurned Otherwise Plain (inner old).ty p old new → StepOf s op p old false new
  pub handlers : (s : Sight) (old new : Stack) (op : Seen) (tag : ℕ) (ty : InstrSeqType) (p : InstrLocId) → flow_of op.code ≡ Some flows.Catch → handler_test (inner old).kind ≡ None
      → Unless (reach_on (inner old).reach) (TurnsTo s (inner old).ty op (Handles tag) ty) → Shaped (blocks old) (opens old) → IsTurned (Handles tag) Catching ty p old new → StepOf s op p old false new
  pub last : (s : Sight) (old new : Stack) (op : Seen) (ty : InstrSeqType) (p : InstrLocId) → flow_of op.code ≡ Some flows.CatchAll → handler_test (inner old).kind ≡ None
      → Unless (reach_on (inner old).reach) (TurnsTo s (inner old).ty op HandlesAll ty) → Shaped (blocks old) (opens old) → IsTurned HandlesAll Caught ty p old new → StepOf s op p old false new

abbrev pub EndsAreSteps : Type 0
EndsAreSteps = (s : Sight) (old new : Stack) (op : Seen) (p : InstrLocId) (done : Bool) → flow_of op.code ≡ Some flows.End → Shaped (blocks old) (opens old) → IsEnded done p old new → StepOf s op p old done new

-- a `delegate` ends no body
abbrev pub HandsAreSteps : Type 0
HandsAreSteps = (s : Sight) (old new : Stack) (op : Seen) (n : ℕ) (p : InstrLocId) → flow_of op.code ≡ Some flows.Delegate → op.items ≡ Names Labels n ∷ [] → IsTrying (inner old).kind
    → Shaped (blocks old) (opens old) → IsHanded false n old new → StepOf s op p old false new
