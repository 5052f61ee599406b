-- What is asked of what an operator names, part by part; what calls answer that take no memory.
use Rattle.std.specs.Prelude.{◌≡◌, ◌⊎◌, ℕ, ◌==◌, ◌&&◌, nat_lt, Bool, true, false, List, [], ◌∷◌, length, Option, Some, None, Result, Ok, Err, if◌then◌else◌}
use Rattle.std.specs.List.{list_all}
use Rattle.std.specs.Option.{is_some}
use Rattle.wasm_ref_types.specs.declared.heap.HeapType.{HeapType}
use Rattle.wasm_ref_types.specs.declared.heap.HeapType.TheVariants.{Abstract, Concrete, Exact}
use Rattle.wasm_ref_types.specs.declared.index.UnpackedIndex.{UnpackedIndex}
use Rattle.wasm_ref_types.specs.declared.index.UnpackedIndex.TheVariants.{Module, RecGroup, Id}
use Rattle.wasm_ref_types.specs.declared.value.ValType.{ValType}
use Rattle.wasm_ref_types.specs.declared.value.ValType.TheVariants.{Ref}
use Rattle.wasm_operators.specs.declared.block_type.BlockType.{BlockType}
use Rattle.wasm_operators.specs.declared.clause.Clause.{Clause}
use Rattle.wasm_operators.specs.Items.{Space, Heap, Block}
use Rattle.wasm_operators.specs.declared.op_code.OpCode.{OpCode}
use Rattle.walrus_pairing.specs.wasm_operators.Names.{Name, heap_names, value_names, block_names, clause_names}
use Rattle.wasm_formats.specs.declared.fault.Space.{Space as Kind}
use Rattle.wasm_formats.specs.declared.fault.Space.TheVariants as spaces
use Rattle.wasm_formats.specs.declared.fault.Form.TheVariants as unsupported
use Rattle.wasm_formats.specs.declared.fault.Limited.TheVariants as limits
use Rattle.wasm_formats.specs.Stops.{Trouble, Index, Unsupported}
use Rattle.walrus_body_steps.specs.wasm_grammar.TypeWords.{value_of}
use Rattle.walrus_body_steps.specs.wasm_grammar.Values.{must, first_of}
use Rattle.walrus_body_steps.specs.wasm_body_grammar.Rules.{names_test, space_of, words_rule}
use Rattle.walrus_instr.specs.declared.instr.Instr.{Instr}
use Rattle.walrus_instr.specs.declared.instr.Instr.TheVariants as instrs
use Rattle.walrus_index_maps.specs.declared.space.Space.{Space as Mapped}
use Rattle.walrus_index_maps.specs.declared.space.Space.TheVariants as mapped
use Rattle.walrus_pairing.specs.declared.error.PairError.{PairError}
use Rattle.walrus_pairing.specs.declared.error.PairError.TheVariants as pairs
use Rattle.walrus_pairing.specs.Looks.{Or}
use Rattle.walrus_body_steps.specs.walrus_body_env.declared.error.BodyError.{BodyError}
use Rattle.walrus_body_steps.specs.walrus_body_env.declared.error.BodyError.TheVariants as faults
use Rattle.walrus_body_steps.specs.walrus_body_nesting.Faults.{Fails}
use Rattle.walrus_body_steps.specs.walrus_body_rules.Sights.{Sight, room}
use Rattle.walrus_body_steps.specs.walrus_body_rules.Rules.{block_test}
use Rattle.walrus_body_steps.specs.Meanings.{branch_at}

-- ---- answers

-- it answers only where the test passes, and refuses just as it fails
abbrev pub Meets : {A : Type 0} → Result A BodyError → Option Trouble → ℕ → (A → Type 0) → Type 0
Meets (Ok x) test offset P = (test ≡ None) × P x
Meets (Err e) test offset P = Fails test offset e

-- so a call does that may want memory, if that says so
abbrev pub AnswersIf : {A : Type 0} → Bool → Result A BodyError → Option Trouble → ℕ → (A → Type 0) → Type 0
AnswersIf wants (Ok x) test offset P = (test ≡ None) × P x
AnswersIf wants (Err e) test offset P = ((e ≡ faults.Memory) × (wants ≡ true)) ⊎ Fails test offset e

abbrev pub IsTested : Result (Unit {0}) BodyError → Option Trouble → ℕ → Type 0
IsTested result test offset = Meets result test offset (λ _. Unit {0})

-- ---- faults of pairing

abbrev pub space_in : Mapped → Kind
space_in mapped.«Type» = spaces.Type
space_in mapped.Function = spaces.Function
space_in mapped.Table = spaces.Table
space_in mapped.Memory = spaces.Memory
space_in mapped.Tag = spaces.Tag
space_in mapped.Global = spaces.Global
space_in mapped.Element = spaces.Element
space_in mapped.Data = spaces.Data
space_in mapped.Local = spaces.Local
space_in mapped.Label = spaces.Label

-- reading wants no memory and writes no type
abbrev pub pair_fault : PairError → ℕ → BodyError
pair_fault (pairs.Unknown space) offset = faults.Index (space_in space) (Some offset)
pair_fault pairs.ContinuationType offset = faults.Unsupported unsupported.SharedType (Some offset)
pair_fault pairs.Select offset = faults.Unsupported unsupported.Select (Some offset)
pair_fault pairs.Alignment offset = faults.Bounds (Some offset)
pair_fault pairs.TypeIndex offset = faults.Limit limits.Types (Some offset)
pair_fault pairs.Memory offset = faults.Memory

-- the instruction that is paired, or the fault of its refusal
abbrev pub IsPaired : Or (Option Instr) → Result Instr BodyError → ℕ → Type 0
IsPaired paired (Ok i) offset = paired ≡ Ok (Some i)
IsPaired paired (Err e) offset = (p : PairError) × (paired ≡ Err p) × (e ≡ pair_fault p offset)

-- ---- names, in spaces other than that of labels

abbrev pub named : Sight → List Name → Option Trouble
named s names = names_test (room s 0) names

abbrev pub index_test : Sight → Space → ℕ → Option Trouble
index_test s space n = must (nat_lt n (room s 0 space)) (Index (space_of space))

abbrev pub label_test : List ℕ → ℕ → Option Trouble
label_test ids n = must (nat_lt n (length ids)) (Index spaces.Label)

-- of a list, the first trouble of its items
abbrev pub tests_of : {A : Type 0} → (A → Option Trouble) → List A → Option Trouble
tests_of test [] = None
tests_of test (x ∷ xs) = first_of (test x) (tests_of test xs)

abbrev pub clause_test : Sight → List ℕ → Clause → Option Trouble
clause_test s ids clause = names_test (room s (length ids)) (clause_names clause)

-- ---- types: their names are there, and then they have words in the module

abbrev pub of_module : UnpackedIndex → Bool
of_module (Module n) = true
of_module (RecGroup n) = false
of_module (Id id) = false

-- files have it: an index in it is one of the module's
abbrev pub is_filed : HeapType → Bool
is_filed (Abstract shared ty) = true
is_filed (Concrete index) = of_module index
is_filed (Exact index) = of_module index

abbrev pub is_filed_value : ValType → Bool
is_filed_value (Ref ty) = is_filed ty.heap_type
is_filed_value _ = true

abbrev pub heap_test : Sight → HeapType → Option Trouble
heap_test s ty = first_of (named s (heap_names ty)) (words_rule (Heap ty))

abbrev pub value_test : Sight → ValType → Option Trouble
value_test s ty = first_of (named s (value_names ty)) (must (is_some (value_of ty)) (Unsupported unsupported.SharedType))

abbrev pub value_named : Sight → ValType → Option Trouble
value_named s ty = named s (value_names ty)

abbrev pub written_test : Sight → BlockType → Option Trouble
written_test s ty = first_of (named s (block_names ty)) (first_of (block_test s ty) (words_rule (Block ty)))

-- a `select` names one type
abbrev pub select_test : Sight → List ValType → Option Trouble
select_test s tys =
    first_of (tests_of (value_named s) tys) (first_of (must (length tys == 1) (Unsupported unsupported.Select)) (must (list_all (λ ty. is_some (value_of ty)) tys) (Unsupported unsupported.SharedType)))

-- a cast that branches to a label, from one heap type to another
abbrev pub cast_test : Sight → List ℕ → ℕ → HeapType → HeapType → Option Trouble
cast_test s ids n from to =
    first_of (label_test ids n) (first_of (named s (heap_names from)) (first_of (named s (heap_names to)) (first_of (words_rule (Heap from)) (words_rule (Heap to)))))

-- a block with handlers
abbrev pub try_test : Sight → List ℕ → BlockType → List Clause → Option Trouble
try_test s ids ty clauses = first_of (named s (block_names ty)) (first_of (tests_of (clause_test s ids) clauses) (first_of (block_test s ty) (words_rule (Block ty))))

-- ---- operators that name one label: `rethrow` by its number, branches by the sequence

abbrev pub labelled_at : OpCode → ℕ → ℕ → Option Instr
labelled_at code n k = if code.prefix == 0 && code.number == 0x09 then Some (instrs.Rethrow n) else branch_at code k
