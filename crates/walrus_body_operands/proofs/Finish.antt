-- Lemmas: what is answered of the parts of an operator is answered of the operator.
use Rattle.std.specs.Prelude.{ℕ, ◌≡◌, List, length, Option, None, Result, Ok, Err}
use Rattle.std.specs.Prelude.{◌⊎◌, nat_lt, Bool, true, false, [], Some, refl}
use Rattle.std.proofs.Common.{ap, sym, subst, ◌∙◌, inl, inr}
use Rattle.std.specs.Global.{Vec}
use Rattle.wasm_operators.specs.declared.block_type.BlockType.{BlockType}
use Rattle.wasm_operators.specs.declared.clause.Clause.{Clause}
use Rattle.wasm_operators.specs.Items.{Item, Tags}
use Rattle.wasm_operators.specs.declared.entry.Flow.{Flow}
use Rattle.wasm_operators.specs.declared.entry.Flow.TheVariants as flows
use Rattle.wasm_operators.specs.declared.op_code.OpCode.{OpCode}
use Rattle.wasm_formats.specs.declared.fault.Space.TheVariants as spaces
use Rattle.wasm_formats.specs.Stops.{Trouble, Index}
use Rattle.walrus_body_steps.specs.wasm_grammar.Values.{must}
use Rattle.walrus_body_steps.specs.wasm_normal_form.Roles.{Runs, role, role_in, cuts_in}
use Rattle.walrus_instr.specs.declared.instr.Instr.{Instr}
use Rattle.walrus_operators.specs.declared.immediates.Immediates.{Immediates}
use Rattle.walrus_operators.specs.declared.immediates.Immediates.TheVariants as imm
use Rattle.walrus_operators.specs.declared.operator.Operator.{Operator}
use Rattle.walrus_operators.specs.Immediates.{items_of, kind_is}
use Rattle.walrus_operators.specs.Operators.{seen}
use Rattle.walrus_body_steps.specs.walrus_body_env.declared.error.BodyError.{BodyError}
use Rattle.walrus_body_steps.specs.walrus_body_nesting.Faults.{Answers}
use Rattle.walrus_body_steps.specs.walrus_body_rules.Sights.{Sight}
use Rattle.walrus_body_steps.specs.walrus_body_rules.Rules.{items_test}
use Rattle.walrus_body_steps.specs.Meanings.{RunsAs}
use Rattle.walrus_body_operands.specs.Asked.{AnswersIf, Meets, index_test, try_test, written_test}
use Rattle.wasm_operators.specs.Operators.{flow_of}
use Rattle.walrus_body_operands.specs.declared.steps.Step.{Step}
use Rattle.walrus_body_operands.specs.declared.steps.Step.TheVariants as step
use Rattle.walrus_body_operands.specs.Steps.{IsStep}
use Rattle.walrus_body_operands.specs.Listed.{holds_list, is_bare, keeps_on, known_labels}
use Rattle.walrus_body_operands.proofs.Tests.{items_are, block_tests, label_tests, try_tests}
use Rattle.walrus_body_operands.proofs.Pairing.{one_test}

pub answers : {A : Type 0} (wants : Bool) (r : Result A BodyError) (t : Option Trouble) (offset : ℕ) (P : A → Type 0) → Meets r t offset P → AnswersIf wants r t offset P
answers wants (Ok x) t offset P h = h
answers wants (Err e) t offset P h = inr h

-- memory is wanted where that may be
pub answers_with : {A : Type 0} (wants : Bool) (r : Result A BodyError) (t : Option Trouble) (offset : ℕ) (P : A → Type 0) → wants ≡ true → Answers r t offset P → AnswersIf wants r t offset P
answers_with wants (Ok x) t offset P may h = h
answers_with wants (Err e) t offset P may h = elim h [ inl memory ↦ inl (memory, may) | inr fails ↦ inr fails ]

pub answers_same : {A : Type 0} (wants : Bool) (r : Result A BodyError) (t u : Option Trouble) (offset : ℕ) (P : A → Type 0) → u ≡ t → AnswersIf wants r t offset P → AnswersIf wants r u offset P
answers_same wants r t u offset P same h = subst (λ (v : Option Trouble). AnswersIf wants r v offset P) (sym same) h

-- of an operator with these immediates
pub answers_of : (wants : Bool) (s : Sight) (labels : ℕ) (ids : List ℕ) (code : OpCode) (x y : Immediates) (r : Result Instr BodyError) (t : Option Trouble) (offset : ℕ) → x ≡ y
    → items_test s labels (record { code = code; items = items_of y }) ≡ t → AnswersIf wants r t offset (RunsAs s ids code (items_of y))
    → AnswersIf wants r (items_test s labels (record { code = code; items = items_of x })) offset (RunsAs s ids code (items_of x))
answers_of wants s labels ids code x y r t offset is test h =
    subst (λ (z : Immediates). AnswersIf wants r (items_test s labels (record { code = code; items = items_of z })) offset (RunsAs s ids code (items_of z))) (sym is)
    (answers_same wants r t (items_test s labels (record { code = code; items = items_of y })) offset (RunsAs s ids code (items_of y)) test h)

-- ---- steps

-- what takes no memory
pub may_answer : (s : Sight) (ids : List ℕ) (op : Operator) (offset : ℕ) (r : Result Step BodyError) → Meets r (items_test s (known_labels (flow_of op.code) (length ids)) (seen op)) offset (IsStep s ids (seen op))
    → AnswersIf (holds_list (kind_is op.immediates)) r (items_test s (known_labels (flow_of op.code) (length ids)) (seen op)) offset (IsStep s ids (seen op))
may_answer s ids op offset r h = answers (holds_list (kind_is op.immediates)) r (items_test s (known_labels (flow_of op.code) (length ids)) (seen op)) offset (IsStep s ids (seen op)) h

pub bare_items : (x : Immediates) → is_bare (kind_is x) ≡ true → items_of x ≡ []
bare_items imm.Bare h = refl
bare_items (imm.Block ty) h = absurd cc
bare_items (imm.TryTable ty cs) h = absurd cc
bare_items (imm.Tag n) h = absurd cc
bare_items (imm.Label n) h = absurd cc
bare_items (imm.BrTable ns n) h = absurd cc
bare_items (imm.Function n) h = absurd cc
bare_items (imm.TypeTable m n) h = absurd cc
bare_items (imm.Type n) h = absurd cc
bare_items (imm.Select tys) h = absurd cc
bare_items (imm.Local n) h = absurd cc
bare_items (imm.Global n) h = absurd cc
bare_items (imm.Table n) h = absurd cc
bare_items (imm.Access a) h = absurd cc
bare_items (imm.Memory n) h = absurd cc
bare_items (imm.I32 z) h = absurd cc
bare_items (imm.I64 z) h = absurd cc
bare_items (imm.F32 x) h = absurd cc
bare_items (imm.F64 x) h = absurd cc
bare_items (imm.Heap ty) h = absurd cc
bare_items (imm.DataMemory m n) h = absurd cc
bare_items (imm.Data n) h = absurd cc
bare_items (imm.MemoryMemory m n) h = absurd cc
bare_items (imm.ElementTable m n) h = absurd cc
bare_items (imm.Element n) h = absurd cc
bare_items (imm.TableTable m n) h = absurd cc
bare_items (imm.TypeNumber m n) h = absurd cc
bare_items (imm.TypeData m n) h = absurd cc
bare_items (imm.TypeElement m n) h = absurd cc
bare_items (imm.TypeType m n) h = absurd cc
bare_items (imm.Cast b n from to) h = absurd cc
bare_items (imm.Vector bytes) h = absurd cc
bare_items (imm.Lane b) h = absurd cc
bare_items (imm.AccessLane a b) h = absurd cc
bare_items imm.Zero h = absurd cc

-- nothing is asked of an operator without immediates
pub bare_tests : (s : Sight) (labels : ℕ) (op : Operator) → is_bare (kind_is op.immediates) ≡ true → items_test s labels (seen op) ≡ None
bare_tests s labels op bare =
    let none : items_test s labels (record { code = op.code; items = [] }) ≡ None = items_are s labels (record { code = op.code; items = [] }) tt in
    subst (λ (is : List Item). items_test s labels (record { code = op.code; items = is }) ≡ None) (sym (bare_items op.immediates bare)) none

pub labels_known : (flow : Option Flow) (count : ℕ) → role_in flow ≡ Runs → known_labels flow count ≡ count
labels_known None count runs = refl
labels_known (Some flows.Passes) count runs = refl
labels_known (Some flows.Goes) count runs = refl
labels_known (Some flows.Traps) count runs = refl
labels_known (Some flows.OpensBlock) count runs = refl
labels_known (Some flows.OpensLoop) count runs = refl
labels_known (Some flows.OpensIf) count runs = refl
labels_known (Some flows.OpensTry) count runs = refl
labels_known (Some flows.OpensTryTable) count runs = refl
labels_known (Some flows.Else) count runs = refl
labels_known (Some flows.Catch) count runs = refl
labels_known (Some flows.CatchAll) count runs = refl
labels_known (Some flows.Delegate) count runs = absurd cc
labels_known (Some flows.End) count runs = refl
labels_known (Some flows.Branches) count runs = refl
labels_known (Some flows.Chooses) count runs = refl
labels_known (Some flows.Selects) count runs = refl
labels_known (Some flows.Returns) count runs = refl
labels_known (Some flows.Calls) count runs = refl
labels_known (Some flows.CallsIndirectly) count runs = refl
labels_known (Some flows.TailCalls) count runs = refl
labels_known (Some flows.TailCallsIndirectly) count runs = refl
labels_known (Some flows.Throws) count runs = refl
labels_known (Some flows.ThrowsOrTraps) count runs = refl

pub label_test_is : (s : Sight) (labels : ℕ) (op : Operator) (n : ℕ) → op.immediates ≡ imm.Label n → items_test s labels (seen op) ≡ must (nat_lt n labels) (Index spaces.Label)
label_test_is s labels op n is =
    ap (λ (x : Immediates). items_test s labels (record { code = op.code; items = items_of x })) is ∙ label_tests s labels op.code n

pub tag_test_is : (s : Sight) (labels : ℕ) (op : Operator) (n : ℕ) → op.immediates ≡ imm.Tag n → items_test s labels (seen op) ≡ index_test s Tags n
tag_test_is s labels op n is =
    ap (λ (x : Immediates). items_test s labels (record { code = op.code; items = items_of x })) is ∙ one_test s labels op.code Tags n refl refl

pub block_test_is : (s : Sight) (labels : ℕ) (op : Operator) (ty : BlockType) → op.immediates ≡ imm.Block ty → items_test s labels (seen op) ≡ written_test s ty
block_test_is s labels op ty is =
    ap (λ (x : Immediates). items_test s labels (record { code = op.code; items = items_of x })) is ∙ block_tests s labels op.code ty

pub try_test_is : (s : Sight) (ids : List ℕ) (op : Operator) (ty : BlockType) (cs : Vec Clause) → op.immediates ≡ imm.TryTable ty cs → items_test s (length ids) (seen op) ≡ try_test s ids ty cs.items
try_test_is s ids op ty cs is =
    ap (λ (x : Immediates). items_test s (length ids) (record { code = op.code; items = items_of x })) is ∙ try_tests s ids op.code ty cs.items

-- it does one of these to a run
pub stands : (f : Flow) → (f ≡ flows.Goes) ⊎ ((f ≡ flows.Traps) ⊎ ((f ≡ flows.Branches) ⊎ ((f ≡ flows.Chooses) ⊎ ((f ≡ flows.Selects) ⊎ ((f ≡ flows.Returns) ⊎ ((f ≡ flows.Calls) ⊎ ((f ≡ flows.CallsIndirectly) ⊎ ((f ≡ flows.TailCalls) ⊎ ((f ≡ flows.TailCallsIndirectly) ⊎ ((f ≡ flows.Throws) ⊎ (f ≡ flows.ThrowsOrTraps))))))))))) → role_in (Some f) ≡ Runs
stands f h = elim h [ inl a0 ↦ ap (λ (g : Flow). role_in (Some g)) a0 | inr b0 ↦ elim b0 [ inl a1 ↦ ap (λ (g : Flow). role_in (Some g)) a1 | inr b1 ↦ elim b1 [ inl a2 ↦ ap (λ (g : Flow). role_in (Some g)) a2 | inr b2 ↦ elim b2 [ inl a3 ↦ ap (λ (g : Flow). role_in (Some g)) a3 | inr b3 ↦ elim b3 [ inl a4 ↦ ap (λ (g : Flow). role_in (Some g)) a4 | inr b4 ↦ elim b4 [ inl a5 ↦ ap (λ (g : Flow). role_in (Some g)) a5 | inr b5 ↦ elim b5 [ inl a6 ↦ ap (λ (g : Flow). role_in (Some g)) a6 | inr b6 ↦ elim b6 [ inl a7 ↦ ap (λ (g : Flow). role_in (Some g)) a7 | inr b7 ↦ elim b7 [ inl a8 ↦ ap (λ (g : Flow). role_in (Some g)) a8 | inr b8 ↦ elim b8 [ inl a9 ↦ ap (λ (g : Flow). role_in (Some g)) a9 | inr b9 ↦ elim b9 [ inl a10 ↦ ap (λ (g : Flow). role_in (Some g)) a10 | inr b10 ↦ ap (λ (g : Flow). role_in (Some g)) b10 ] ] ] ] ] ] ] ] ] ] ]

-- ---- operators behind which the next is reached

-- such a one stands in a sequence, cuts nothing off, and knows all labels
record Keeps (f : Option Flow) (n : ℕ) : Type 0 where
  role : role_in f ≡ Runs
  cut : false ≡ cuts_in f
  known : n ≡ known_labels f n

kept : (f : Option Flow) (n : ℕ) → keeps_on f ≡ true → Keeps f n
kept (Some flows.Goes) n h = record { role = refl; cut = refl; known = refl }
kept (Some flows.Calls) n h = record { role = refl; cut = refl; known = refl }
kept (Some flows.Chooses) n h = record { role = refl; cut = refl; known = refl }
kept None n h = absurd cc
kept (Some flows.Passes) n h = absurd cc
kept (Some flows.Traps) n h = absurd cc
kept (Some flows.OpensBlock) n h = absurd cc
kept (Some flows.OpensLoop) n h = absurd cc
kept (Some flows.OpensIf) n h = absurd cc
kept (Some flows.OpensTry) n h = absurd cc
kept (Some flows.OpensTryTable) n h = absurd cc
kept (Some flows.Else) n h = absurd cc
kept (Some flows.Catch) n h = absurd cc
kept (Some flows.CatchAll) n h = absurd cc
kept (Some flows.Delegate) n h = absurd cc
kept (Some flows.End) n h = absurd cc
kept (Some flows.Branches) n h = absurd cc
kept (Some flows.Selects) n h = absurd cc
kept (Some flows.Returns) n h = absurd cc
kept (Some flows.CallsIndirectly) n h = absurd cc
kept (Some flows.TailCalls) n h = absurd cc
kept (Some flows.TailCallsIndirectly) n h = absurd cc
kept (Some flows.Throws) n h = absurd cc
kept (Some flows.ThrowsOrTraps) n h = absurd cc

pub on_runs : (op : Operator) → keeps_on (flow_of op.code) ≡ true → role (seen op) ≡ Runs
on_runs op on = (kept (flow_of op.code) 0 on).role

-- the instruction is that of its step
pub on_step : (s : Sight) (ids : List ℕ) (op : Operator) (wants : Bool) (offset : ℕ) (r : Result Instr BodyError) → keeps_on (flow_of op.code) ≡ true
    → AnswersIf wants r (items_test s (length ids) (seen op)) offset (RunsAs s ids op.code (items_of op.immediates))
    → AnswersIf wants r (items_test s (known_labels (flow_of op.code) (length ids)) (seen op)) offset (λ i. IsStep s ids (seen op) (step.Run i false))
on_step s ids op wants offset r on h =
    let k = kept (flow_of op.code) (length ids) on in
    let F : ℕ → Type 0 = λ n. AnswersIf wants r (items_test s n (seen op)) offset (λ i. IsStep s ids (seen op) (step.Run i false)) in
    subst F k.known (go r h)
  where
    go : (r : Result Instr BodyError) → AnswersIf wants r (items_test s (length ids) (seen op)) offset (RunsAs s ids op.code (items_of op.immediates))
        → AnswersIf wants r (items_test s (length ids) (seen op)) offset (λ i. IsStep s ids (seen op) (step.Run i false))
    go (Ok i) g = let k = kept (flow_of op.code) (length ids) on in (g.0, (k.role, g.1, k.cut))
    go (Err e) g = g
