-- Lemmas: in a body that meets the rules, labels that are numbers are below how many sequences are open.
use Rattle.std.proofs.Common.{ℕ, suc, ◌<◌, ◌≡◌, ◌-◌, Bool, true, false, List, [], ◌∷◌, length, map, Option, Some, None, Result, Ok, Err, refl, sym, ap, subst, arith, ◌∙◌}
use Rattle.std.specs.Prelude.{nat_lt}
use Rattle.std.proofs.lemmas.Bool.{ltb-true}
use Rattle.wasm_features.specs.declared.WasmFeatures.{WasmFeatures}
use Rattle.walrus_meaning.specs.walrus_local_function.walrus_body_locals.walrus_body_nesting.wasm_formats.Stops.{Trouble}
use Rattle.walrus_meaning.specs.walrus_local_function.walrus_body_locals.walrus_body_nesting.wasm_formats.Bytes.{either_type}
use Rattle.walrus_meaning.specs.walrus_local_function.walrus_body_locals.walrus_body_nesting.wasm_formats.Lists.{SpellsEntries, EntryRules}
use Rattle.walrus_meaning.specs.walrus_body_writer.walrus_pairing.wasm_operators.declared.block_type.BlockType.{BlockType}
use Rattle.walrus_meaning.specs.walrus_body_writer.walrus_pairing.wasm_operators.Items.{Labels, Names, Space}
use Rattle.walrus_meaning.specs.walrus_local_function.walrus_body_parser.wasm_operators.declared.entry.Flow.{Flow}
use Rattle.walrus_meaning.specs.walrus_local_function.walrus_body_parser.wasm_operators.declared.entry.Flow.TheVariants as flows
use Rattle.walrus_meaning.specs.walrus_local_function.walrus_body_parser.wasm_operators.Operators.{Seen, flow_of}
use Rattle.walrus_meaning.specs.walrus_local_function.walrus_body_locals.wasm_body_grammar.wasm_operators.Names.{operator_names}
use Rattle.wasm_operators.specs.Ranges.{OperatorFits}
use Rattle.walrus_meaning.specs.walrus_local_function.walrus_body_locals.wasm_grammar.Values.{first_of}
use Rattle.walrus_meaning.specs.walrus_local_function.walrus_body_locals.wasm_grammar.Modules as grammar
use Rattle.walrus_meaning.specs.walrus_local_function.walrus_body_locals.wasm_body_grammar.Frames.{Frame, Plain, Choice, Trying, Catching, Caught, Turned, turned, label_count}
use Rattle.walrus_meaning.specs.walrus_local_function.walrus_body_locals.wasm_body_grammar.Rules.{Around, names_test, room, turned_test, operator_test}
use Rattle.walrus_meaning.specs.walrus_local_function.walrus_body_locals.wasm_body_grammar.Bodies.{Point, is_closed, frames_of, next_point, operator, operator_in, placed as placed_from}
use Rattle.walrus_meaning.specs.walrus_local_function.walrus_body_locals.wasm_normal_form.Roles.{placed, Role, Passes, Runs, Opens, Turns, Ends, role, role_in, cuts, is_if, end_op}
use Rattle.walrus_meaning.specs.walrus_local_function.walrus_body_locals.wasm_normal_form.Normal.{normal_from}
use Rattle.walrus_meaning.specs.walrus_local_function.walrus_body_locals.wasm_normal_form.Trees.{Tree, Close, Arm, Skip, Run, Nest, prepend, open_in, innermost}

-- a label that the operator names alone is below n
abbrev pub Names1 : ℕ → Seen → Type 0
Names1 n op = (k : ℕ) → op.items ≡ Names Labels k ∷ [] → k < n

-- what ends a block: the label of a `delegate` doesn't count the block's own
abbrev pub Hands : ℕ → Seen → Type 0
Hands n op = flow_of op.code ≡ Some flows.Delegate → Names1 (n - 1) op

-- where so many sequences are open, each operator of the tree fits its code, and names of them alone
abbrev pub Counts : WasmFeatures → ℕ → Tree → Type 0
Counts features n (Close o p) = Hands n o
Counts features n (Arm o p t) = Counts features n t
Counts features n (Skip o p t) = Counts features n t
Counts features n (Run o p t) = OperatorFits features o × Names1 n o × Counts features n t
Counts features n (Nest o p u t) = Counts features (suc n) u × Counts features n t

abbrev pub CountsAll : WasmFeatures → ℕ → List Tree → Type 0
CountsAll features n [] = Unit {0}
CountsAll features n (t ∷ ts) = Counts features n t × CountsAll features (n - 1) ts

-- ---- how many sequences are open behind an operator

abbrev pub grows : Role → ℕ → ℕ
grows Opens n = suc n
grows Ends n = n - 1
grows _ n = n

abbrev good : {A : Type 0} → A → Result A Trouble
good x = Ok x

ok_is : (x y : List Frame) → good x ≡ Ok y → x ≡ y
ok_is x y e = cc

count_is : (fs gs : List Frame) (n : ℕ) → good fs ≡ Ok gs → length fs ≡ n → length gs ≡ n
count_is fs gs n e h = ap length (sym (ok_is fs gs e)) ∙ h

turned_count : (flow : Option Flow) (fs gs : List Frame) → turned flow fs ≡ Ok gs → length gs ≡ grows (role_in flow) (length fs)
turned_count None [] gs e = absurd cc
turned_count (Some flow) [] gs e = absurd cc
turned_count None (f ∷ around) gs e = count_is (f ∷ around) gs _ e refl
turned_count (Some flows.OpensBlock) (f ∷ around) gs e = count_is (Plain ∷ f ∷ around) gs _ e refl
turned_count (Some flows.OpensLoop) (f ∷ around) gs e = count_is (Plain ∷ f ∷ around) gs _ e refl
turned_count (Some flows.OpensTryTable) (f ∷ around) gs e = count_is (Plain ∷ f ∷ around) gs _ e refl
turned_count (Some flows.OpensIf) (f ∷ around) gs e = count_is (Choice ∷ f ∷ around) gs _ e refl
turned_count (Some flows.OpensTry) (f ∷ around) gs e = count_is (Trying ∷ f ∷ around) gs _ e refl
turned_count (Some flows.Else) (Choice ∷ around) gs e = count_is (Plain ∷ around) gs _ e refl
turned_count (Some flows.Else) (_ ∷ around) gs e = absurd cc
turned_count (Some flows.Catch) (Trying ∷ around) gs e = count_is (Catching ∷ around) gs _ e refl
turned_count (Some flows.Catch) (Catching ∷ around) gs e = count_is (Catching ∷ around) gs _ e refl
turned_count (Some flows.Catch) (_ ∷ around) gs e = absurd cc
turned_count (Some flows.CatchAll) (Trying ∷ around) gs e = count_is (Caught ∷ around) gs _ e refl
turned_count (Some flows.CatchAll) (Catching ∷ around) gs e = count_is (Caught ∷ around) gs _ e refl
turned_count (Some flows.CatchAll) (_ ∷ around) gs e = absurd cc
turned_count (Some flows.Delegate) (Trying ∷ around) gs e = count_is around gs _ e (omega arith)
turned_count (Some flows.Delegate) (_ ∷ around) gs e = absurd cc
turned_count (Some flows.End) (f ∷ around) gs e = count_is around gs _ e (omega arith)
turned_count (Some _) (f ∷ around) gs e = count_is (f ∷ around) gs _ e refl

-- ---- what the rules say of labels

first_none : (t u : Option Trouble) → first_of t u ≡ None → (t ≡ None) × (u ≡ None)
first_none None u e = (refl, e)
first_none (Some x) u e = absurd cc

label_below : (rooms : Space → ℕ) (op : Seen) (k : ℕ) → names_test rooms (operator_names op) ≡ None → op.items ≡ Names Labels k ∷ [] → k < rooms Labels
label_below rooms op k e is =
    let t : names_test rooms (operator_names (record { code = op.code; items = Names Labels k ∷ [] })) ≡ None =
    ap (λ items. names_test rooms (operator_names (record { code = op.code; items = items }))) (sym is) ∙ e in
    go (nat_lt k (rooms Labels)) refl t
  where
    go : (b : Bool) → nat_lt k (rooms Labels) ≡ b → names_test rooms (operator_names (record { code = op.code; items = Names Labels k ∷ [] })) ≡ None → k < rooms Labels
    go true h t = ltb-true k (rooms Labels) h
    go false h t = absurd (let w = (rw h at t) in cc)

turned_ok : (r : Turned) → turned_test r ≡ None → (fs : List Frame) × (r ≡ Ok fs)
turned_ok (Ok fs) e = (fs, refl)
turned_ok (Err x) e = absurd cc

-- ---- the tree that operators nest as

abbrev pub AllFit : WasmFeatures → List (ℕ × Seen) → Type 0
AllFit features [] = Unit {0}
AllFit features (x ∷ xs) = OperatorFits features x.1 × AllFit features xs

module _ (a : Around) (locals : ℕ) (features : WasmFeatures) where
  -- what the rules say of one operator
  record Passed (fs : List Frame) (op : Seen) : Type 0 where
    pub named : (k : ℕ) → op.items ≡ Names Labels k ∷ [] → k < label_count (flow_of op.code) fs
    pub next : List Frame
    pub turns : turned (flow_of op.code) fs ≡ Ok next

  passed : (fs : List Frame) (op : Seen) → operator_test a locals fs op ≡ None → Passed fs op
  passed fs op e =
      let first = first_none (names_test (room a locals (label_count (flow_of op.code) fs)) (operator_names op)) _ e in
      let second = first_none _ _ first.1 in
      let third = first_none (turned_test (turned (flow_of op.code) fs)) _ second.1 in
      let next = turned_ok (turned (flow_of op.code) fs) third.0 in
      record { named = λ k is. label_below (room a locals (label_count (flow_of op.code) fs)) op k first.0 is; next = next.0; turns = next.1 }

  tested : (p : Point) (bytes : List ℕ) (x : ℕ × Seen) → (operator_in a locals p).spells bytes x → (operator_in a locals p).rules x → Passed p.frames x.1
  tested p bytes x s r = go (is_closed p.frames) s.0 r
    where
      go : (c : Bool) → either_type c ⊥ ((operator a.features).spells bytes x.1) → either_type c (Unit {0}) ((operator a.features).rules x.1 × (operator_test a locals p.frames x.1 ≡ None)) → Passed p.frames x.1
      go true h t = absurd h
      go false h t = passed p.frames x.1 t.1

  -- an operator before what follows it
  one : (op : Seen) (place : Option ℕ) (n : ℕ) (r : Role) (ts : List Tree) → role op ≡ r → OperatorFits features op → (r ≡ Ends → Hands n op) → (r ≡ Runs → Names1 n op)
      → CountsAll features (grows r n) ts → CountsAll features n (prepend r op place ts)
  one op place n Passes [] is fits hands named h = tt
  one op place n Passes (t ∷ ts) is fits hands named h = h
  one op place n Runs [] is fits hands named h = tt
  one op place n Runs (t ∷ ts) is fits hands named h = ((fits, named refl, h.0), h.1)
  one op place n Turns [] is fits hands named h = tt
  one op place n Turns (t ∷ ts) is fits hands named h = h
  one op place n Opens [] is fits hands named h = tt
  one op place n Opens (u ∷ []) is fits hands named h = tt
  one op place n Opens (u ∷ (t ∷ ts)) is fits hands named h =
      let back : suc n - 1 ≡ n = omega arith in
      let around = subst (λ (m : ℕ). Counts features m t × CountsAll features (m - 1) ts) back h.1 in
      ((h.0, around.0), around.1)
  one op place n Ends ts is fits hands named h = (hands refl, h)

  -- the labels of what runs count all that is open, that of a `delegate` what is around its block
  runs_count : (flow : Option Flow) (fs : List Frame) → role_in flow ≡ Runs → label_count flow fs ≡ length fs
  runs_count (Some flows.Delegate) fs e = absurd cc
  runs_count (Some flows.Goes) fs e = refl
  runs_count None fs e = refl
  runs_count (Some _) fs e = refl

  pub counts : (ops : List (ℕ × Seen)) (p : Point) (bytes : List ℕ) → AllFit features ops → SpellsEntries next_point (operator_in a locals) p bytes ops → EntryRules next_point (operator_in a locals) p ops
      → (place : ℕ) → CountsAll features (length p.frames) (open_in (map (λ (o : grammar.Placed). placed o.op (Some o.place)) (placed_from place ops)))
  counts [] p bytes fits s r place = tt
  counts (x ∷ xs) p bytes fits s r place =
      let t = tested p s.0 x s.3 r.0 in
      let later = counts xs (next_point p x) s.1 fits.1 s.4 r.1 x.0 in
      let frames : (next_point p x).frames ≡ t.next = ap (λ (q : Turned). frames_of q p.frames) t.turns in
      let count : length (next_point p x).frames ≡ grows (role x.1) (length p.frames) = ap length frames ∙ turned_count (flow_of x.1.code) p.frames t.next t.turns in
      one x.1 (Some place) (length p.frames) (role x.1) _ refl fits.0
      (λ e delegate k is. let b = t.named k is in
      let c : label_count (flow_of x.1.code) p.frames ≡ length p.frames - 1 = ap (λ (f : Option Flow). label_count f p.frames) delegate in omega (arith, b, c))
      (λ e k is. let b = t.named k is in let c = runs_count (flow_of x.1.code) p.frames e in omega (arith, b, c))
      (subst (λ (n : ℕ). CountsAll features n (open_in (map (λ (o : grammar.Placed). placed o.op (Some o.place)) (placed_from x.0 xs)))) count later)

  bare_end : (n : ℕ) (p : Option ℕ) → Counts features n (Close end_op p)
  bare_end n p delegate k is = absurd cc

  pub first_counts : (ts : List Tree) (n : ℕ) → CountsAll features n ts → Counts features n (innermost ts)
  first_counts [] n h = bare_end n None
  first_counts (t ∷ ts) n h = h.0

-- ---- the normal form

module _ (features : WasmFeatures) (pick : BlockType → BlockType) where
  pub normal_counts : (t : Tree) (n : ℕ) (bare dropped : Bool) → Counts features n t → Counts features n (normal_from pick t bare dropped)
  normal_counts (Close o p) n true dropped h = λ delegate k is. absurd cc
  normal_counts (Close o p) n false dropped h = h
  normal_counts (Arm o p t) n bare dropped h = normal_counts t n false false h
  normal_counts (Skip o p t) n bare dropped h = normal_counts t n bare dropped h
  normal_counts (Run o p t) n bare true h = normal_counts t n bare true h.2
  normal_counts (Run o p t) n bare false h = (h.0, h.1, normal_counts t n bare (cuts o) h.2)
  normal_counts (Nest o p u t) n bare true h = normal_counts t n bare true h.1
  normal_counts (Nest o p u t) n bare false h = (normal_counts u (suc n) (is_if o) false h.0, normal_counts t n bare false h.1)
