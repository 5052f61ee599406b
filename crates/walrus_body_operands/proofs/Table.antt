-- Lemmas: what the table of operators says of immediates, by what an operator does to a run.
use Rattle.std.specs.Prelude.{ℕ, ◌≡◌, ◌&&◌, ◌||◌, not, Bool, true, false, Option, Some, refl}
use Rattle.std.specs.Option.{is_some}
use Rattle.std.proofs.Common.{ap, sym, subst, ◌∙◌}
use Rattle.std.proofs.lemmas.Bool.{and_parts}
use Rattle.wasm_operators.specs.declared.entry.Entry.{Entry}
use Rattle.wasm_operators.specs.declared.entry.Flow.{Flow}
use Rattle.wasm_operators.specs.declared.entry.Flow.TheVariants as flows
use Rattle.wasm_operators.specs.declared.entry.Kind.{Kind}
use Rattle.wasm_operators.specs.declared.entry.Kind.TheVariants as kinds
use Rattle.wasm_operators.specs.declared.op_code.OpCode.{OpCode}
use Rattle.wasm_operators.specs.Table.{structure_rows, call_rows, plain_rows, fb_rows, fc_rows, fd_rows, fe_rows}
use Rattle.wasm_operators.specs.Operators.{op_code, flow_in, flow_of}
use Rattle.walrus_body_steps.specs.wasm_normal_form.Roles.{Runs, role_in}
use Rattle.walrus_forms.specs.declared.value.RefType.{RefType}
use Rattle.walrus_operators.specs.declared.operator.Operator.{Operator}
use Rattle.walrus_operators.specs.Immediates.{kind_is}
use Rattle.walrus_pairing.proofs.Rows.{TablePasses, table_holds}
use Rattle.walrus_body_steps.specs.Meanings.{cast_at}
use Rattle.walrus_body_operands.specs.Asked.{labelled_at}
use Rattle.walrus_body_operands.specs.Listed.{IsListed, RunsListed, opened_by, begins_block, is_bare, names_tag, names_label}

-- ---- which kinds an operator may have that does this to a run

abbrev pub by_flow : Flow → Kind → Bool
by_flow flows.Passes kind = is_bare kind
by_flow flows.Else kind = is_bare kind
by_flow flows.CatchAll kind = is_bare kind
by_flow flows.End kind = is_bare kind
by_flow flows.OpensBlock kind = begins_block kind
by_flow flows.OpensLoop kind = begins_block kind
by_flow flows.OpensIf kind = begins_block kind
by_flow flows.OpensTry kind = begins_block kind
by_flow flows.OpensTryTable kind = opened_by kind && not (begins_block kind)
by_flow flows.Catch kind = names_tag kind
by_flow flows.Delegate kind = names_label kind
by_flow _ kind = not (opened_by kind)

abbrev is_delegate : Flow → Bool
is_delegate flows.Delegate = true
is_delegate _ = false

-- those that name labels have an instruction for each
abbrev by_kind : ℕ → ℕ → RefType → RefType → Flow → Kind → OpCode → Bool
by_kind n k from to flow kinds.Label code = is_delegate flow || is_some (labelled_at code n k)
by_kind n k from to flow kinds.Cast code = is_some (cast_at code k from to)
by_kind n k from to flow _ code = true

abbrev row_test : ℕ → ℕ → RefType → RefType → ℕ → Entry → ℕ → Bool
row_test n k from to prefix e number = by_flow e.flow e.kind && by_kind n k from to e.flow e.kind (op_code prefix number)

rows_pass : (n k : ℕ) (from to : RefType) → TablePasses (row_test n k from to)
unfolding structure_rows call_rows plain_rows fb_rows fc_rows fd_rows fe_rows
rows_pass n k from to = record { structure = refl; call = refl; plain = refl; fb = refl; fc = refl; fd = refl; fe = refl }

some_flow : (f g : Flow) → ◌≡◌ {A = Option Flow} (Some f) (Some g) → f ≡ g
some_flow f g e = cc

flow_is : (op : Operator) (listed : IsListed op) (f : Flow) → flow_of op.code ≡ Some f → listed.0.flow ≡ f
flow_is op listed f is = some_flow listed.0.flow f (ap flow_in (sym listed.1) ∙ is)

pub flow_kind : (op : Operator) → IsListed op → (f : Flow) → flow_of op.code ≡ Some f → (from to : RefType) → by_flow f (kind_is op.immediates) ≡ true
flow_kind op listed f is from to =
    let e = listed.0 in
    let parts = and_parts (by_flow e.flow e.kind) (by_kind 0 0 from to e.flow e.kind op.code) (table_holds (row_test 0 0 from to) (rows_pass 0 0 from to) op.code.prefix op.code.number e listed.1) in
    ap (λ (g : Flow). by_flow g (kind_is op.immediates)) (sym (flow_is op listed f is)) ∙ ap (by_flow e.flow) (sym listed.2) ∙ parts.0

runs_in : (op : Operator) (runs : RunsListed op) → role_in (Some (runs.0.0).flow) ≡ Runs
runs_in op runs = ap (λ (o : Option Entry). role_in (flow_in o)) (sym (runs.0).1) ∙ runs.1

no_delegate : (f : Flow) → role_in (Some f) ≡ Runs → is_delegate f ≡ false
no_delegate flows.Passes e = refl
no_delegate flows.Goes e = refl
no_delegate flows.Traps e = refl
no_delegate flows.OpensBlock e = refl
no_delegate flows.OpensLoop e = refl
no_delegate flows.OpensIf e = refl
no_delegate flows.OpensTry e = refl
no_delegate flows.OpensTryTable e = refl
no_delegate flows.Else e = refl
no_delegate flows.Catch e = refl
no_delegate flows.CatchAll e = refl
no_delegate flows.Delegate e = absurd cc
no_delegate flows.End e = refl
no_delegate flows.Branches e = refl
no_delegate flows.Chooses e = refl
no_delegate flows.Selects e = refl
no_delegate flows.Returns e = refl
no_delegate flows.Calls e = refl
no_delegate flows.CallsIndirectly e = refl
no_delegate flows.TailCalls e = refl
no_delegate flows.TailCallsIndirectly e = refl
no_delegate flows.Throws e = refl
no_delegate flows.ThrowsOrTraps e = refl

turned : (b : Bool) → not b ≡ true → b ≡ false
turned true h = absurd cc
turned false h = refl

no_opening : (f : Flow) (kind : Kind) → role_in (Some f) ≡ Runs → by_flow f kind ≡ true → opened_by kind ≡ false
no_opening flows.Passes kind e h = absurd cc
no_opening flows.Goes kind e h = turned (opened_by kind) h
no_opening flows.Traps kind e h = turned (opened_by kind) h
no_opening flows.OpensBlock kind e h = absurd cc
no_opening flows.OpensLoop kind e h = absurd cc
no_opening flows.OpensIf kind e h = absurd cc
no_opening flows.OpensTry kind e h = absurd cc
no_opening flows.OpensTryTable kind e h = absurd cc
no_opening flows.Else kind e h = absurd cc
no_opening flows.Catch kind e h = absurd cc
no_opening flows.CatchAll kind e h = absurd cc
no_opening flows.Delegate kind e h = absurd cc
no_opening flows.End kind e h = absurd cc
no_opening flows.Branches kind e h = turned (opened_by kind) h
no_opening flows.Chooses kind e h = turned (opened_by kind) h
no_opening flows.Selects kind e h = turned (opened_by kind) h
no_opening flows.Returns kind e h = turned (opened_by kind) h
no_opening flows.Calls kind e h = turned (opened_by kind) h
no_opening flows.CallsIndirectly kind e h = turned (opened_by kind) h
no_opening flows.TailCalls kind e h = turned (opened_by kind) h
no_opening flows.TailCallsIndirectly kind e h = turned (opened_by kind) h
no_opening flows.Throws kind e h = turned (opened_by kind) h
no_opening flows.ThrowsOrTraps kind e h = turned (opened_by kind) h

pub unopened : (op : Operator) → RunsListed op → (from to : RefType) → opened_by (kind_is op.immediates) ≡ false
unopened op runs from to =
    let e = runs.0.0 in
    let parts = and_parts (by_flow e.flow e.kind) (by_kind 0 0 from to e.flow e.kind op.code) (table_holds (row_test 0 0 from to) (rows_pass 0 0 from to) op.code.prefix op.code.number e (runs.0).1) in
    ap opened_by (sym (runs.0).2) ∙ no_opening e.flow e.kind (runs_in op runs) parts.0

kind_passes : (op : Operator) (runs : RunsListed op) (n k : ℕ) (from to : RefType) → by_kind n k from to (runs.0.0).flow (kind_is op.immediates) op.code ≡ true
kind_passes op runs n k from to =
    let e = runs.0.0 in
    let parts = and_parts (by_flow e.flow e.kind) (by_kind n k from to e.flow e.kind op.code) (table_holds (row_test n k from to) (rows_pass n k from to) op.code.prefix op.code.number e (runs.0).1) in
    ap (λ (kind : Kind). by_kind n k from to e.flow kind op.code) (sym (runs.0).2) ∙ parts.1

second : (a b : Bool) → a ≡ false → a || b ≡ true → b ≡ true
second true b e h = absurd cc
second false b e h = h

pub label_runs : (op : Operator) → RunsListed op → kind_is op.immediates ≡ kinds.Label → (from to : RefType) (n k : ℕ) → is_some (labelled_at op.code n k) ≡ true
label_runs op runs is from to n k =
    second (is_delegate (runs.0.0).flow) (is_some (labelled_at op.code n k)) (no_delegate (runs.0.0).flow (runs_in op runs))
    (subst (λ (kind : Kind). by_kind n k from to (runs.0.0).flow kind op.code ≡ true) is (kind_passes op runs n k from to))

pub cast_runs : (op : Operator) → RunsListed op → kind_is op.immediates ≡ kinds.Cast → (k : ℕ) (from to : RefType) → is_some (cast_at op.code k from to) ≡ true
cast_runs op runs is k from to = subst (λ (kind : Kind). by_kind 0 k from to (runs.0.0).flow kind op.code ≡ true) is (kind_passes op runs 0 k from to)
