-- Faults by number: of those that are due at an operator, the one of the smallest number is told.
use Rattle.std.specs.Prelude.{ℕ, ◌≤◌, ◌≡◌, ◌⊎◌, ◌^◌, ◌==◌, ◌&&◌, ◌||◌, nat_lt, Bool, true, false, not, List, [], ◌∷◌, length, slice_get, slice_index_or, Option, Some, None}
use Rattle.std.specs.List.{list_any}
use Rattle.std.specs.Option.{is_some}
use Rattle.std.proofs.Common.{sym, ◌∙◌, subst, arith, inl, inr}
use Rattle.wasm_grammar.specs.walrus_forms.Forms.{Form, FunctionForm, StructForm, ArrayForm}
use Rattle.wasm_grammar.specs.walrus_forms.Kinds.{Kind}
use Rattle.wasm_operators.specs.declared.block_type.BlockType.{BlockType}
use Rattle.wasm_operators.specs.declared.block_type.BlockType.TheVariants as blocks
use Rattle.wasm_operators.specs.Items as immediates
use Rattle.wasm_operators.specs.Items.{Item, Names, Number, S32, S64, Bits, Byte, Bytes, Heap, Block, Access, ManyLabels, ManyValues, ManyClauses}
use Rattle.wasm_grammar.specs.wasm_operators.declared.entry.Flow.{Flow}
use Rattle.wasm_grammar.specs.wasm_operators.declared.entry.Flow.TheVariants as flows
use Rattle.wasm_grammar.specs.wasm_operators.Operators.{Seen, flow_of}
use Rattle.wasm_operators.specs.Names.{Name, operator_names}
use Rattle.wasm_grammar.specs.wasm_formats.Stops.{Trouble, Read, Header, SectionOrder, SectionSize, Count, Index, TypeForm, ConstExpr, OffsetType, Nesting, Position, Operator, Unsupported, DuplicateExport, Bounds, Limit}
use Rattle.wasm_grammar.specs.wasm_formats.declared.fault.Form.TheVariants as unsupported
use Rattle.wasm_grammar.specs.States.{types_of}
use Rattle.wasm_grammar.specs.Values.{must, first_of}
use Rattle.wasm_body_grammar.specs.Frames.{Frame, Plain, Choice, Trying, Catching, Caught, frames_after, turned, label_count}
use Rattle.wasm_body_grammar.specs.Rules.{Around, room, space_of, pick, is_segment, has_wide, has_words, names_test, form_test, kind_test, block_test, data_test, form_rule, select_rule, words_rule, access_rule, first_in, turned_test, first_trouble, tests, operator_test}

-- the number of a fault, in the order in which faults of one place are told
abbrev pub number_of : Trouble → ℕ
number_of (Read kind) = 1
number_of Header = 2
number_of SectionOrder = 3
number_of SectionSize = 4
number_of Count = 5
number_of (Index space) = 6
number_of TypeForm = 7
number_of ConstExpr = 8
number_of OffsetType = 9
number_of Nesting = 10
number_of Position = 11
number_of Operator = 12
number_of (Unsupported form) = 13
number_of DuplicateExport = 14
number_of Bounds = 15
number_of (Limit of) = 16

-- one of the tests fails so
abbrev pub Fails : List (Option Trouble) → Trouble → Type 0
Fails [] t = ⊥
Fails (test ∷ tests) t = (test ≡ Some t) ⊎ Fails tests t

-- what is told of an operator is a failed test, and none of a smaller number fails
abbrev pub FaultsGoByNumber : Type 0
FaultsGoByNumber = (a : Around) (locals : ℕ) (frames : List Frame) (op : Seen) (t : Trouble) → operator_test a locals frames op ≡ Some t
    → Fails (tests a locals frames op) t × ((u : Trouble) → Fails (tests a locals frames op) u → number_of t ≤ number_of u)

-- ---- proofs

-- a test that fails does so with a number between these
abbrev Between : ℕ → ℕ → Option Trouble → Type 0
Between low high test = (t : Trouble) → test ≡ Some t → (low ≤ number_of t) × (number_of t ≤ high)

-- numbers never fall along the tests
abbrev AreOrdered : ℕ → List (Option Trouble) → Type 0
AreOrdered low [] = Unit {0}
AreOrdered low (test ∷ tests) = (high : ℕ) × (low ≤ high) × Between low high test × AreOrdered high tests

some_is : (t u : Trouble) → Some t ≡ Some u → t ≡ u
some_is t u e = cc

none_is : {P : Type 0} (t : Trouble) → None ≡ Some t → P
none_is t e = absurd cc

at_least : (low : ℕ) (list : List (Option Trouble)) (u : Trouble) → AreOrdered low list → Fails list u → low ≤ number_of u
at_least low [] u h f = absurd f
at_least low (test ∷ list) u h (inl e) = (h.2 u e).0
at_least low (test ∷ list) u h (inr f) = let later = at_least h.0 list u h.3 f in omega (arith, later, h.1)

fails_first : (list : List (Option Trouble)) (t : Trouble) → first_trouble list ≡ Some t → Fails list t
fails_first [] t e = none_is t e
fails_first (None ∷ list) t e = inr (fails_first list t e)
fails_first (Some u ∷ list) t e = inl e

least : (low : ℕ) (list : List (Option Trouble)) (t u : Trouble) → AreOrdered low list → first_trouble list ≡ Some t → Fails list u → number_of t ≤ number_of u
least low [] t u h e f = none_is t e
least low (None ∷ list) t u h e (inl f) = none_is u f
least low (None ∷ list) t u h e (inr f) = least h.0 list t u h.3 e f
least low (Some v ∷ list) t u h e (inl f) = subst (λ (w : Trouble). number_of t ≤ number_of w) (sym (some_is v t e) ∙ some_is v u f) (omega arith)
least low (Some v ∷ list) t u h e (inr f) =
    let own = h.2 t e in let later = at_least h.0 list u h.3 f in omega (arith, own.1, later)

-- ---- the numbers of each test

none_between : (low high : ℕ) → Between low high None
none_between low high t e = none_is t e

some_between : (low high : ℕ) (t : Trouble) → low ≤ number_of t → number_of t ≤ high → Between low high (Some t)
some_between low high t above below u e = subst (λ (t : Trouble). (low ≤ number_of t) × (number_of t ≤ high)) (some_is t u e) (above, below)

must_between : (low high : ℕ) (holds : Bool) (t : Trouble) → low ≤ number_of t → number_of t ≤ high → Between low high (must holds t)
must_between low high true t above below = none_between low high
must_between low high false t above below = some_between low high t above below

first_between : (low high : ℕ) (one two : Option Trouble) → Between low high one → Between low high two → Between low high (first_of one two)
first_between low high None two h k = k
first_between low high (Some t) two h k = h

items_between : (low high : ℕ) (rule : Item → Option Trouble) → ((i : Item) → Between low high (rule i)) → (items : List Item) → Between low high (first_in rule items)
items_between low high rule each [] = none_between low high
items_between low high rule each (i ∷ items) = first_between low high (rule i) (first_in rule items) (each i) (items_between low high rule each items)

names_between : (rooms : immediates.Space → ℕ) (names : List Name) → Between 6 6 (names_test rooms names)
names_between rooms [] = none_between 6 6
names_between rooms (n ∷ names) =
    first_between 6 6 (must (nat_lt n.1 (rooms n.0)) (Index (space_of n.0))) (names_test rooms names)
    (must_between 6 6 (nat_lt n.1 (rooms n.0)) (Index (space_of n.0)) (omega arith) (omega arith)) (names_between rooms names)

form_between : (a : Around) (form : Form) → Between 7 7 (form_test a form)
form_between a (FunctionForm params results) =
    must_between 7 7 (is_some (pick a params results)) TypeForm (omega arith) (omega arith)
form_between a (StructForm fields) = some_between 7 7 TypeForm (omega arith) (omega arith)
form_between a (ArrayForm field) = some_between 7 7 TypeForm (omega arith) (omega arith)

kind_between : (a : Around) (kind : Option Kind) → Between 7 7 (kind_test a kind)
kind_between a None = none_between 7 7
kind_between a (Some kind) = form_between a kind.form

block_between : (a : Around) (ty : BlockType) → Between 7 7 (block_test a ty)
block_between a blocks.Empty = none_between 7 7
block_between a (blocks.Value ty) = none_between 7 7
block_between a (blocks.Type n) = kind_between a (slice_get (types_of a.filled) n)

forms_between : (a : Around) (i : Item) → Between 7 7 (form_rule a i)
forms_between a (Names space n) = none_between 7 7
forms_between a (Number n) = none_between 7 7
forms_between a (S32 z) = none_between 7 7
forms_between a (S64 z) = none_between 7 7
forms_between a (Bits size n) = none_between 7 7
forms_between a (Byte b) = none_between 7 7
forms_between a (Bytes run) = none_between 7 7
forms_between a (Heap ty) = none_between 7 7
forms_between a (Block ty) = block_between a ty
forms_between a (Access x) = none_between 7 7
forms_between a (ManyLabels ns) = none_between 7 7
forms_between a (ManyValues tys) = none_between 7 7
forms_between a (ManyClauses cs) = none_between 7 7

select_between : (i : Item) → Between 13 13 (select_rule i)
select_between (Names space n) = none_between 13 13
select_between (Number n) = none_between 13 13
select_between (S32 z) = none_between 13 13
select_between (S64 z) = none_between 13 13
select_between (Bits size n) = none_between 13 13
select_between (Byte b) = none_between 13 13
select_between (Bytes run) = none_between 13 13
select_between (Heap ty) = none_between 13 13
select_between (Block ty) = none_between 13 13
select_between (Access x) = none_between 13 13
select_between (ManyLabels ns) = none_between 13 13
select_between (ManyValues tys) = must_between 13 13 (length tys == 1) (Unsupported unsupported.Select) (omega arith) (omega arith)
select_between (ManyClauses cs) = none_between 13 13

words_between : (i : Item) → Between 13 13 (words_rule i)
words_between i = must_between 13 13 (has_words i) (Unsupported unsupported.SharedType) (omega arith) (omega arith)

accesses_between : (a : Around) (i : Item) → Between 15 15 (access_rule a i)
accesses_between a (Names space n) = none_between 15 15
accesses_between a (Number n) = none_between 15 15
accesses_between a (S32 z) = none_between 15 15
accesses_between a (S64 z) = none_between 15 15
accesses_between a (Bits size n) = none_between 15 15
accesses_between a (Byte b) = none_between 15 15
accesses_between a (Bytes run) = none_between 15 15
accesses_between a (Heap ty) = none_between 15 15
accesses_between a (Block ty) = none_between 15 15
accesses_between a (Access x) = must_between 15 15 (nat_lt x.align 32 && (has_wide (slice_index_or a.filled.memories x.memory None) || nat_lt x.offset (2 ^ 32))) Bounds (omega arith) (omega arith)
accesses_between a (ManyLabels ns) = none_between 15 15
accesses_between a (ManyValues tys) = none_between 15 15
accesses_between a (ManyClauses cs) = none_between 15 15

nesting_between : Between 10 11 (Some Nesting)
nesting_between = some_between 10 11 Nesting (omega arith) (omega arith)

position_between : Between 10 11 (Some Position)
position_between = some_between 10 11 Position (omega arith) (omega arith)

frames_between : (flow : Flow) (f : Frame) (around : List Frame) → Between 10 11 (turned_test (frames_after flow f around))
frames_between flows.Passes f around = none_between 10 11
frames_between flows.Goes f around = none_between 10 11
frames_between flows.Traps f around = none_between 10 11
frames_between flows.OpensBlock f around = none_between 10 11
frames_between flows.OpensLoop f around = none_between 10 11
frames_between flows.OpensIf f around = none_between 10 11
frames_between flows.OpensTry f around = none_between 10 11
frames_between flows.OpensTryTable f around = none_between 10 11
frames_between flows.Else Plain around = nesting_between
frames_between flows.Else Choice around = none_between 10 11
frames_between flows.Else Trying around = nesting_between
frames_between flows.Else Catching around = nesting_between
frames_between flows.Else Caught around = nesting_between
frames_between flows.Catch Plain around = nesting_between
frames_between flows.Catch Choice around = nesting_between
frames_between flows.Catch Trying around = none_between 10 11
frames_between flows.Catch Catching around = none_between 10 11
frames_between flows.Catch Caught around = position_between
frames_between flows.CatchAll Plain around = nesting_between
frames_between flows.CatchAll Choice around = nesting_between
frames_between flows.CatchAll Trying around = none_between 10 11
frames_between flows.CatchAll Catching around = none_between 10 11
frames_between flows.CatchAll Caught around = position_between
frames_between flows.Delegate Plain around = nesting_between
frames_between flows.Delegate Choice around = nesting_between
frames_between flows.Delegate Trying around = none_between 10 11
frames_between flows.Delegate Catching around = position_between
frames_between flows.Delegate Caught around = position_between
frames_between flows.End f around = none_between 10 11
frames_between flows.Branches f around = none_between 10 11
frames_between flows.Chooses f around = none_between 10 11
frames_between flows.Selects f around = none_between 10 11
frames_between flows.Returns f around = none_between 10 11
frames_between flows.Calls f around = none_between 10 11
frames_between flows.CallsIndirectly f around = none_between 10 11
frames_between flows.TailCalls f around = none_between 10 11
frames_between flows.TailCallsIndirectly f around = none_between 10 11
frames_between flows.Throws f around = none_between 10 11
frames_between flows.ThrowsOrTraps f around = none_between 10 11

turned_between : (flow : Option Flow) (frames : List Frame) → Between 10 11 (turned_test (turned flow frames))
turned_between None [] = nesting_between
turned_between (Some flow) [] = nesting_between
turned_between None (f ∷ around) = none_between 10 11
turned_between (Some flow) (f ∷ around) = frames_between flow f around

data_between : (a : Around) (names : List Name) → Between 11 11 (data_test a names)
data_between a names = must_between 11 11 (a.counted || not (list_any (λ n. is_segment n.0) names)) Position (omega arith) (omega arith)

wider : (low mid high : ℕ) (test : Option Trouble) → low ≤ mid → Between mid high test → Between low high test
wider low mid high test le h t e = let own = h t e in (omega (arith, le, own.0), own.1)

are_ordered : (a : Around) (locals : ℕ) (frames : List Frame) (op : Seen) → AreOrdered 6 (tests a locals frames op)
are_ordered a locals frames op =
    let forms = wider 6 7 7 (first_in (form_rule a) op.items) (omega arith) (items_between 7 7 (form_rule a) (forms_between a) op.items) in
    let nested = wider 7 10 11 (turned_test (turned (flow_of op.code) frames)) (omega arith) (turned_between (flow_of op.code) frames) in
    let selects = wider 11 13 13 (first_in select_rule op.items) (omega arith) (items_between 13 13 select_rule select_between op.items) in
    let accesses = wider 13 15 15 (first_in (access_rule a) op.items) (omega arith) (items_between 15 15 (access_rule a) (accesses_between a) op.items) in (
      6,
      omega arith,
      names_between (room a locals (label_count (flow_of op.code) frames)) (operator_names op),
      (
        7,
        omega arith,
        forms,
        (
          11,
          omega arith,
          nested,
          (
            11,
            omega arith,
            data_between a (operator_names op),
            (
              13,
              omega arith,
              selects,
              (
                13,
                omega arith,
                items_between 13 13 words_rule words_between op.items,
                (15, omega arith, accesses, tt),
              ),
            ),
          ),
        ),
      ),
    )

pub faults_go_by_number : FaultsGoByNumber
faults_go_by_number a locals frames op t e =
    (fails_first (tests a locals frames op) t e, λ u f. least 6 (tests a locals frames op) t u (are_ordered a locals frames op) e f)
