-- Lemmas: what each change of the open sequences is a step of.
use Rattle.std.proofs.Common.{ℕ, ◌≡◌, Bool, true, false, List, [], ◌∷◌, Some, None, subst}
use Rattle.walrus_instr.specs.declared.instr.Instr.{Instr}
use Rattle.walrus_instr.specs.declared.seq.InstrLocId.{InstrLocId}
use Rattle.walrus_instr.specs.declared.seq.InstrSeqType.{InstrSeqType}
use Rattle.walrus_body_operands.specs.walrus_body_rules.wasm_body_grammar.wasm_operators.Items.{Tags, Labels, Names}
use Rattle.walrus_body_operands.specs.walrus_body_rules.wasm_body_grammar.wasm_operators.declared.entry.Flow.TheVariants as flows
use Rattle.walrus_body_operands.specs.walrus_body_rules.wasm_body_grammar.wasm_operators.Operators.{Seen, flow_of}
use Rattle.walrus_body_locals.specs.wasm_body_grammar.Frames.{Frame, Plain, Choice, Trying, Catching, Caught}
use Rattle.walrus_body_operands.specs.walrus_body_stack.walrus_builder.Built.{Seq}
use Rattle.walrus_body_locals.specs.wasm_normal_form.Roles.{Runs, role, cuts}
use Rattle.walrus_body_locals.specs.walrus_body_nesting.Stands.{Handles, HandlesAll}
use Rattle.walrus_body_locals.specs.walrus_body_nesting.Opens.{Open, ids_of, ran, reach_on, Unless, Shaped}
use Rattle.walrus_body_locals.specs.walrus_body_nesting.Grown.{unless_map}
use Rattle.walrus_body_operands.specs.walrus_body_stack.declared.stack.Stack.{Stack}
use Rattle.walrus_body_operands.specs.walrus_body_stack.Frames.{inner, around, opens, blocks, IsTurned, IsHanded, IsTrying, handler_test, delegate_test}
use Rattle.walrus_body_operands.specs.walrus_body_rules.Sights.{Sight, look, results_of, handler_of, tag_params}
use Rattle.walrus_body_operands.specs.walrus_body_steps.Meanings.{RunsAs, TurnsTo}
use Rattle.walrus_body_operands.specs.walrus_body_steps.Laws.{StepOf}
use Rattle.walrus_body_operands.specs.walrus_body_steps.Stepping.{runs_are_steps, turns_are_steps, hands_are_steps}

pub run_on : (s : Sight) (old new : Stack) (op : Seen) (i : Instr) (p : InstrLocId) (cut : Bool) → (role op ≡ Runs) × RunsAs s (ids_of (opens old)) op.code op.items i × (cut ≡ cuts op) → Shaped (blocks old) (opens old)
    → blocks new ≡ blocks old → opens new ≡ ran (i, p) cut (inner old) ∷ around old → StepOf s op p old false new
run_on s old new op i p cut h shaped same ran_so =
    let F : Bool → Type 0 = λ c. opens new ≡ ran (i, p) c (inner old) ∷ around old in
    runs_are_steps s old new op i p h.0 h.1 shaped same (subst F h.2 ran_so)

pub handler_on : (s : Sight) (old new : Stack) (op : Seen) (tag : ℕ) (ty : InstrSeqType) (p : InstrLocId)
    → (flow_of op.code ≡ Some flows.Catch) × (n : ℕ) × (op.items ≡ Names Tags n ∷ []) × (look s Tags n ≡ Some tag) → handler_test (inner old).kind ≡ None
    → Unless (reach_on (inner old).reach) (handler_of s (tag_params s (s.tag_type tag)) (results_of s (inner old).ty) ≡ Some ty) → Shaped (blocks old) (opens old)
    → IsTurned (Handles tag) Catching ty p old new → StepOf s op p old false new
handler_on s old new op tag ty p h test typed shaped turned =
    turns_are_steps.handlers s old new op tag ty p h.0 test
    (unless_map (reach_on (inner old).reach) (handler_of s (tag_params s (s.tag_type tag)) (results_of s (inner old).ty) ≡ Some ty) (TurnsTo s (inner old).ty op (Handles tag) ty)
    (λ found. (h.0, h.1, h.2, h.3, found)) typed) shaped turned

pub last_handler_on : (s : Sight) (old new : Stack) (op : Seen) (ty : InstrSeqType) (p : InstrLocId) → flow_of op.code ≡ Some flows.CatchAll → handler_test (inner old).kind ≡ None
    → Unless (reach_on (inner old).reach) (handler_of s (Some []) (results_of s (inner old).ty) ≡ Some ty) → Shaped (blocks old) (opens old)
    → IsTurned HandlesAll Caught ty p old new → StepOf s op p old false new
last_handler_on s old new op ty p h test typed shaped turned =
    turns_are_steps.last s old new op ty p h test
    (unless_map (reach_on (inner old).reach) (handler_of s (Some []) (results_of s (inner old).ty) ≡ Some ty) (TurnsTo s (inner old).ty op HandlesAll ty) (λ found. (h, found)) typed) shaped turned

pub is_trying : (k : Frame) → delegate_test k ≡ None → IsTrying k
is_trying Trying e = tt
is_trying Plain e = absurd cc
is_trying Choice e = absurd cc
is_trying Catching e = absurd cc
is_trying Caught e = absurd cc

-- the body itself is no `try`
pub not_body : (b : List Seq) (o : Open) (os : List Open) → Shaped b (o ∷ os) → IsTrying o.kind → os ≡ [] → ⊥
not_body b o [] h t e = let F : Frame → Type 0 = λ k. IsTrying k in subst F h.1.kind t
not_body b o (u ∷ os) h t e = absurd cc

pub handed_on : (s : Sight) (old new : Stack) (op : Seen) (n : ℕ) (p : InstrLocId) (done : Bool) → (flow_of op.code ≡ Some flows.Delegate) × (op.items ≡ Names Labels n ∷ []) → delegate_test (inner old).kind ≡ None
    → Shaped (blocks old) (opens old) → IsHanded done n old new → StepOf s op p old done new
handed_on s old new op n p true h test shaped handed = absurd (not_body (blocks old) (inner old) (around old) shaped (is_trying (inner old).kind test) handed)
handed_on s old new op n p false h test shaped handed = hands_are_steps s old new op n p h.0 h.1 (is_trying (inner old).kind test) shaped handed
