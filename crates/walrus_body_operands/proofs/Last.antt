-- Lemmas: what frames ask comes last.
use Rattle.std.specs.Prelude.{ℕ, ◌≡◌, ◌⊎◌, ◌||◌, true, false, List, [], ◌∷◌, Option, Some, None, refl}
use Rattle.std.proofs.Common.{ap, sym, subst, ◌∙◌, inl, inr}
use Rattle.wasm_operators.specs.Items.{Tags, Labels, Item, Names}
use Rattle.wasm_operators.specs.declared.entry.Flow.{Flow}
use Rattle.wasm_operators.specs.declared.entry.Flow.TheVariants as flows
use Rattle.wasm_operators.specs.Operators.{flow_of}
use Rattle.walrus_pairing.specs.wasm_operators.Names.{operator_names}
use Rattle.wasm_formats.specs.Stops.{Trouble}
use Rattle.walrus_body_steps.specs.wasm_grammar.Values.{first_of}
use Rattle.walrus_body_steps.specs.wasm_body_grammar.Frames.{Frame, turned, label_count}
use Rattle.walrus_body_steps.specs.wasm_body_grammar.Rules.{names_test, turned_test, first_in, first_trouble}
use Rattle.walrus_forms.specs.declared.value.AbstractHeapType.TheVariants as abstracts
use Rattle.walrus_forms.specs.declared.value.HeapType.TheVariants as heaps
use Rattle.walrus_forms.specs.declared.value.RefType.{RefType}
use Rattle.walrus_operators.specs.declared.immediates.Immediates.{Immediates}
use Rattle.walrus_operators.specs.declared.immediates.Immediates.TheVariants as imm
use Rattle.walrus_operators.specs.declared.operator.Operator.{Operator}
use Rattle.walrus_operators.specs.Immediates.{items_of, kind_is}
use Rattle.walrus_operators.specs.Operators.{seen}
use Rattle.walrus_body_steps.specs.walrus_body_rules.Sights.{Sight, room}
use Rattle.walrus_body_steps.specs.walrus_body_rules.Rules.{form_rule, late_tests, items_test, operator_test}
use Rattle.walrus_body_operands.specs.Listed.{IsListed, names_tag, names_label}
use Rattle.walrus_body_operands.specs.Counted.{FramesAskLast}
use Rattle.walrus_body_operands.proofs.Table.{flow_kind}
use Rattle.walrus_body_operands.proofs.Finish.{bare_items}
use Rattle.walrus_body_operands.proofs.Tests.{first_none, uncounted}

-- nothing is asked behind the names
record NamesAlone (s : Sight) (op : Operator) : Type 0 where
  pub forms : first_in (form_rule s) (items_of op.immediates) ≡ None
  pub late : first_trouble (late_tests s (seen op)) ≡ None

abbrev Late : Sight → List Item → Operator → Type 0
Late s items op = (first_in (form_rule s) items ≡ None) × (first_trouble (late_tests s (record { code = op.code; items = items })) ≡ None)

alone_of : (s : Sight) (op : Operator) (items : List Item) → items_of op.immediates ≡ items → Late s items op → NamesAlone s op
alone_of s op items is late =
    let h : Late s (items_of op.immediates) op = subst (λ (xs : List Item). Late s xs op) (sym is) late in
    record { forms = h.0; late = h.1 }

bare_late : (s : Sight) (op : Operator) → Late s [] op
bare_late s op = (refl, ap (λ (t : Option Trouble). first_of t None) (uncounted s.has_data_count false refl))

tag_late : (s : Sight) (op : Operator) (n : ℕ) → Late s (Names Tags n ∷ []) op
tag_late s op n = (refl, ap (λ (t : Option Trouble). first_of t None) (uncounted s.has_data_count (false || false) refl))

label_late : (s : Sight) (op : Operator) (n : ℕ) → Late s (Names Labels n ∷ []) op
label_late s op n = (refl, ap (λ (t : Option Trouble). first_of t None) (uncounted s.has_data_count (false || false) refl))

tag_items : (x : Immediates) → names_tag (kind_is x) ≡ true → (n : ℕ) × (items_of x ≡ Names Tags n ∷ [])
tag_items imm.Bare h = absurd cc
tag_items (imm.Block ty) h = absurd cc
tag_items (imm.TryTable ty cs) h = absurd cc
tag_items (imm.Tag n) h = (n, refl)
tag_items (imm.Label n) h = absurd cc
tag_items (imm.BrTable ns n) h = absurd cc
tag_items (imm.Function n) h = absurd cc
tag_items (imm.TypeTable m n) h = absurd cc
tag_items (imm.Type n) h = absurd cc
tag_items (imm.Select tys) h = absurd cc
tag_items (imm.Local n) h = absurd cc
tag_items (imm.Global n) h = absurd cc
tag_items (imm.Table n) h = absurd cc
tag_items (imm.Access a) h = absurd cc
tag_items (imm.Memory n) h = absurd cc
tag_items (imm.I32 z) h = absurd cc
tag_items (imm.I64 z) h = absurd cc
tag_items (imm.F32 x) h = absurd cc
tag_items (imm.F64 x) h = absurd cc
tag_items (imm.Heap ty) h = absurd cc
tag_items (imm.DataMemory m n) h = absurd cc
tag_items (imm.Data n) h = absurd cc
tag_items (imm.MemoryMemory m n) h = absurd cc
tag_items (imm.ElementTable m n) h = absurd cc
tag_items (imm.Element n) h = absurd cc
tag_items (imm.TableTable m n) h = absurd cc
tag_items (imm.TypeNumber m n) h = absurd cc
tag_items (imm.TypeData m n) h = absurd cc
tag_items (imm.TypeElement m n) h = absurd cc
tag_items (imm.TypeType m n) h = absurd cc
tag_items (imm.Cast b n from to) h = absurd cc
tag_items (imm.Vector bytes) h = absurd cc
tag_items (imm.Lane b) h = absurd cc
tag_items (imm.AccessLane a b) h = absurd cc
tag_items imm.Zero h = absurd cc

label_items : (x : Immediates) → names_label (kind_is x) ≡ true → (n : ℕ) × (items_of x ≡ Names Labels n ∷ [])
label_items imm.Bare h = absurd cc
label_items (imm.Block ty) h = absurd cc
label_items (imm.TryTable ty cs) h = absurd cc
label_items (imm.Tag n) h = absurd cc
label_items (imm.Label n) h = (n, refl)
label_items (imm.BrTable ns n) h = absurd cc
label_items (imm.Function n) h = absurd cc
label_items (imm.TypeTable m n) h = absurd cc
label_items (imm.Type n) h = absurd cc
label_items (imm.Select tys) h = absurd cc
label_items (imm.Local n) h = absurd cc
label_items (imm.Global n) h = absurd cc
label_items (imm.Table n) h = absurd cc
label_items (imm.Access a) h = absurd cc
label_items (imm.Memory n) h = absurd cc
label_items (imm.I32 z) h = absurd cc
label_items (imm.I64 z) h = absurd cc
label_items (imm.F32 x) h = absurd cc
label_items (imm.F64 x) h = absurd cc
label_items (imm.Heap ty) h = absurd cc
label_items (imm.DataMemory m n) h = absurd cc
label_items (imm.Data n) h = absurd cc
label_items (imm.MemoryMemory m n) h = absurd cc
label_items (imm.ElementTable m n) h = absurd cc
label_items (imm.Element n) h = absurd cc
label_items (imm.TableTable m n) h = absurd cc
label_items (imm.TypeNumber m n) h = absurd cc
label_items (imm.TypeData m n) h = absurd cc
label_items (imm.TypeElement m n) h = absurd cc
label_items (imm.TypeType m n) h = absurd cc
label_items (imm.Cast b n from to) h = absurd cc
label_items (imm.Vector bytes) h = absurd cc
label_items (imm.Lane b) h = absurd cc
label_items (imm.AccessLane a b) h = absurd cc
label_items imm.Zero h = absurd cc

abbrev some_type : RefType
some_type = record { nullable = true; heap_type = heaps.Abstract abstracts.Func }

-- an operator that its frames may refuse names tags or labels, or nothing
parts_alone : (s : Sight) (op : Operator) → IsListed op → (flow : Flow) → flow_of op.code ≡ Some flow → (f : Frame) (around : List Frame)
    → (turned_test (turned (Some flow) (f ∷ around)) ≡ None) ⊎ NamesAlone s op
parts_alone s op listed flows.Passes is f around = inl refl
parts_alone s op listed flows.Goes is f around = inl refl
parts_alone s op listed flows.Traps is f around = inl refl
parts_alone s op listed flows.OpensBlock is f around = inl refl
parts_alone s op listed flows.OpensLoop is f around = inl refl
parts_alone s op listed flows.OpensIf is f around = inl refl
parts_alone s op listed flows.OpensTry is f around = inl refl
parts_alone s op listed flows.OpensTryTable is f around = inl refl
parts_alone s op listed flows.Else is f around = inr (alone_of s op [] (bare_items op.immediates (flow_kind op listed flows.Else is some_type some_type)) (bare_late s op))
parts_alone s op listed flows.Catch is f around = (let at = tag_items op.immediates (flow_kind op listed flows.Catch is some_type some_type) in inr (alone_of s op (Names Tags at.0 ∷ []) at.1 (tag_late s op at.0)))
parts_alone s op listed flows.CatchAll is f around = inr (alone_of s op [] (bare_items op.immediates (flow_kind op listed flows.CatchAll is some_type some_type)) (bare_late s op))
parts_alone s op listed flows.Delegate is f around = (let at = label_items op.immediates (flow_kind op listed flows.Delegate is some_type some_type) in inr (alone_of s op (Names Labels at.0 ∷ []) at.1 (label_late s op at.0)))
parts_alone s op listed flows.End is f around = inl refl
parts_alone s op listed flows.Branches is f around = inl refl
parts_alone s op listed flows.Chooses is f around = inl refl
parts_alone s op listed flows.Selects is f around = inl refl
parts_alone s op listed flows.Returns is f around = inl refl
parts_alone s op listed flows.Calls is f around = inl refl
parts_alone s op listed flows.CallsIndirectly is f around = inl refl
parts_alone s op listed flows.TailCalls is f around = inl refl
parts_alone s op listed flows.TailCallsIndirectly is f around = inl refl
parts_alone s op listed flows.Throws is f around = inl refl
parts_alone s op listed flows.ThrowsOrTraps is f around = inl refl

first_shape : (n f t r : Option Trouble) → t ≡ None → first_of n (first_of f (first_of t r)) ≡ first_of (first_of n (first_of f r)) t
first_shape n f t r e = rw e (sym (first_none (first_of n (first_of f r))))

last_shape : (n f t r : Option Trouble) → f ≡ None → r ≡ None → first_of n (first_of f (first_of t r)) ≡ first_of (first_of n (first_of f r)) t
last_shape n f t r e h = rw (e, h) (ap (λ (u : Option Trouble). first_of n u) (first_none t) ∙ ap (λ (u : Option Trouble). first_of u t) (sym (first_none n)))

pub frames_ask_last : FramesAskLast
frames_ask_last s op f around listed = at (flow_of op.code) refl
  where
    at : (flow : Option Flow) → flow_of op.code ≡ flow
        → operator_test s (f ∷ around) (seen op) ≡ first_of (items_test s (label_count (flow_of op.code) (f ∷ around)) (seen op)) (turned_test (turned (flow_of op.code) (f ∷ around)))
    at None is =
        let n = names_test (room s (label_count (flow_of op.code) (f ∷ around))) (operator_names (seen op)) in
        let t = turned_test (turned (flow_of op.code) (f ∷ around)) in
        first_shape n (first_in (form_rule s) (items_of op.immediates)) t (first_trouble (late_tests s (seen op))) (ap (λ (g : Option Flow). turned_test (turned g (f ∷ around))) is)
    at (Some flow) is =
        let n = names_test (room s (label_count (flow_of op.code) (f ∷ around))) (operator_names (seen op)) in
        let t = turned_test (turned (flow_of op.code) (f ∷ around)) in
        let same = ap (λ (g : Option Flow). turned_test (turned g (f ∷ around))) is in
        elim (parts_alone s op listed flow is f around) [
          | inl h ↦ first_shape n (first_in (form_rule s) (items_of op.immediates)) t (first_trouble (late_tests s (seen op))) (same ∙ h)
          | inr h ↦ last_shape n (first_in (form_rule s) (items_of op.immediates)) t (first_trouble (late_tests s (seen op))) h.forms h.late
        ]
