-- Lemmas: where each id is its own number, each piece of a text is written; so the locals that are declared are those that a body means.
use Rattle.std.specs.Prelude.{ℕ, ◌≡◌, List, [], ◌∷◌, Option, Some, None, Ok, Err, refl, slice_get}
use Rattle.walrus_body_names.specs.walrus_body_writer.Spelled.{AreWritten, IsWritten, Text, block, cast, clause, clauses, label, opening, type_in, written, written_instr}
use Rattle.walrus_body_names.specs.walrus_pairing.Looks.{Or, ◌>>=◌}
use Rattle.walrus_body_names.specs.walrus_pairing.Types.{written_heap, written_value}
use Rattle.walrus_body_names.specs.walrus_pairing.Write.{bare_code, constant, either, heap, memory_op, numeric, object_op, of_code, operator_at, plain_at, select, variable}
use Rattle.walrus_body_names.specs.walrus_pairing.walrus_forms.declared.value.HeapType.{HeapType}
use Rattle.walrus_body_names.specs.walrus_pairing.walrus_forms.declared.value.HeapType.TheVariants.{Abstract, Shared, Concrete, Exact}
use Rattle.walrus_body_names.specs.walrus_pairing.walrus_forms.declared.value.RefType.{RefType}
use Rattle.walrus_body_names.specs.walrus_pairing.walrus_forms.declared.value.ValType.{ValType}
use Rattle.walrus_body_names.specs.walrus_pairing.walrus_forms.declared.value.ValType.TheVariants.{I32, I64, F32, F64, V128, Ref}
use Rattle.walrus_body_names.specs.walrus_pairing.walrus_instr.declared.instr.Instr.{Instr}
use Rattle.walrus_body_names.specs.walrus_pairing.walrus_instr.declared.instr.Instr.TheVariants as instrs
use Rattle.walrus_body_names.specs.walrus_pairing.walrus_instr.declared.instr.TryTableCatch.{TryTableCatch}
use Rattle.walrus_body_names.specs.walrus_pairing.walrus_instr.declared.instr.TryTableCatch.TheVariants as parts
use Rattle.walrus_body_names.specs.walrus_pairing.walrus_instr.declared.instr.Value.{Value as Constant}
use Rattle.walrus_body_names.specs.walrus_pairing.walrus_instr.declared.instr.Value.TheVariants as constants
use Rattle.walrus_body_names.specs.walrus_pairing.walrus_instr.declared.seq.InstrSeq.{InstrSeq}
use Rattle.walrus_body_names.specs.walrus_pairing.walrus_instr.declared.seq.InstrSeqType.{InstrSeqType}
use Rattle.walrus_body_names.specs.walrus_pairing.walrus_instr.declared.seq.InstrSeqType.TheVariants.{Simple, MultiValue}
use Rattle.walrus_body_names.specs.walrus_pairing.walrus_operators.wasm_operators.Operators.{Seen}
use Rattle.walrus_body_names.specs.walrus_pairing.walrus_operators.wasm_operators.declared.op_code.OpCode.{OpCode}
use Rattle.walrus_body_names.specs.walrus_pairing.wasm_operators.Items.{Types}
use Rattle.walrus_body_names.specs.walrus_tree.Text.{Piece, Operator, Else, Catch, CatchAll, Delegate, End, operators}
use Rattle.walrus_body_laws.specs.EmissionLaws.{LocalsAreMeant}
use Rattle.walrus_pairing.specs.Laws.{all}
use Rattle.walrus_parse_laws.specs.walrus_meaning.walrus_module.walrus_builder.Functions.{seqs_of}
use Rattle.walrus_parse_gc_laws.specs.Numbers.{UsedLocalsAreMeant}

-- ---- an answer that is no refusal

abbrev IsGiven : {A : Type 0} → Or A → Type 0
IsGiven (Ok x) = Unit {0}
IsGiven (Err e) = ⊥

then_given : {A B : Type 0} (o : Or A) (f : A → Or B) → IsGiven o → ((x : A) → IsGiven (f x)) → IsGiven (o >>= f)
then_given (Ok x) f h k = k x
then_given (Err e) f h k = absurd h

then_written : {A : Type 0} (o : Or A) (f : A → Or (Option Seen)) → IsGiven o → ((x : A) → IsWritten (f x)) → IsWritten (o >>= f)
then_written (Ok x) f h k = k x
then_written (Err e) f h k = absurd h

-- ---- types

heap_given : (ty : HeapType) → IsGiven (written_heap (all Types) ty)
heap_given (Abstract ty) = tt
heap_given (Shared ty) = tt
heap_given (Concrete id) = tt
heap_given (Exact id) = tt

value_given : (ty : ValType) → IsGiven (written_value (all Types) ty)
value_given I32 = tt
value_given I64 = tt
value_given F32 = tt
value_given F64 = tt
value_given V128 = tt
value_given (Ref ty) = then_given (written_heap (all Types) ty.heap_type) _ (heap_given ty.heap_type) (λ h. tt)

block_given : (ty : InstrSeqType) → IsGiven (block all ty)
block_given (Simple None) = tt
block_given (Simple (Some ty)) = then_given (written_value (all Types) ty) _ (value_given ty) (λ v. tt)
block_given (MultiValue id) = tt

-- ---- plain instructions

either_written : (x y : Or (Option Seen)) → IsWritten x → IsWritten y → IsWritten (either x y)
either_written (Ok None) y h k = k
either_written (Ok (Some s)) y h k = tt
either_written (Err e) y h k = absurd h

code_written : (code : Option OpCode) → IsWritten (of_code code)
code_written None = tt
code_written (Some code) = tt

constant_written : (value : Constant) → IsWritten (constant value)
constant_written (constants.I32 z) = tt
constant_written (constants.I64 z) = tt
constant_written (constants.F32 bits) = tt
constant_written (constants.F64 bits) = tt
constant_written (constants.V128 bits) = tt

numeric_written : (i : Instr) → IsWritten (numeric i)
numeric_written (instrs.Const value) = constant_written value
numeric_written i = tt

variable_written : (i : Instr) → IsWritten (variable all i)
variable_written (instrs.Call func) = tt
variable_written i = tt

memory_written : (i : Instr) → IsWritten (memory_op all i)
memory_written (instrs.MemorySize memory) = tt
memory_written i = tt

heap_written : (code : OpCode) (ty : HeapType) → IsWritten (heap all code ty)
heap_written code ty = then_written (written_heap (all Types) ty) _ (heap_given ty) (λ h. tt)

object_written : (i : Instr) → IsWritten (object_op all i)
object_written (instrs.RefNull ty) = heap_written _ ty.heap_type
object_written (instrs.RefTest ty) = heap_written _ ty.heap_type
object_written (instrs.RefCast ty) = heap_written _ ty.heap_type
object_written i = tt

select_written : (i : Instr) → IsWritten (select all i)
select_written (instrs.Select (Some ty)) = then_written (written_value (all Types) ty) _ (value_given ty) (λ v. tt)
select_written i = tt

plain_written : (i : Instr) → IsWritten (operator_at all i)
unfolding operator_at
plain_written i =
    either_written (plain_at all i) (select all i)
    (either_written (of_code (bare_code i)) (either (numeric i) (either (variable all i) (either (memory_op all i) (object_op all i)))) (code_written (bare_code i))
    (either_written (numeric i) (either (variable all i) (either (memory_op all i) (object_op all i))) (numeric_written i)
    (either_written (variable all i) (either (memory_op all i) (object_op all i)) (variable_written i)
    (either_written (memory_op all i) (object_op all i) (memory_written i) (object_written i)))))
    (select_written i)

-- ---- those that hold sequences or labels

clause_given : (number : ℕ → ℕ) (c : TryTableCatch) → IsGiven (clause all number c)
clause_given number (parts.Catch tag k) = tt
clause_given number (parts.CatchRef tag k) = tt
clause_given number (parts.CatchAll k) = tt
clause_given number (parts.CatchAllRef k) = tt

clauses_given : (number : ℕ → ℕ) (cs : List TryTableCatch) → IsGiven (clauses all number cs)
clauses_given number [] = tt
clauses_given number (c ∷ cs) =
    then_given (clause all number c) _ (clause_given number c) (λ first. then_given (clauses all number cs) _ (clauses_given number cs) (λ rest. tt))

opening_written : (b : List InstrSeq) (code k : ℕ) → IsWritten (opening all b code k)
opening_written b code k = then_written (block all (type_in (slice_get b k))) _ (block_given (type_in (slice_get b k))) (λ ty. tt)

cast_written : (code : ℕ) (number : ℕ → ℕ) (k : ℕ) (from to : RefType) → IsWritten (cast all code number k from to)
cast_written code number k from to =
    then_written (written_heap (all Types) from.heap_type) _ (heap_given from.heap_type) (λ source.
    then_written (written_heap (all Types) to.heap_type) _ (heap_given to.heap_type) (λ target. tt))

instr_written : (b : List InstrSeq) (number : ℕ → ℕ) (i : Instr) → IsWritten (written_instr all b number i)
instr_written b number (instrs.Block k) = opening_written b 0x02 k
instr_written b number (instrs.Loop k) = opening_written b 0x03 k
instr_written b number (instrs.IfElse k other) = opening_written b 0x04 k
instr_written b number (instrs.Try k catches) = opening_written b 0x06 k
instr_written b number (instrs.TryTable k catches) =
    then_written (block all (type_in (slice_get b k))) _ (block_given (type_in (slice_get b k))) (λ ty. then_written (clauses all number catches.items) _ (clauses_given number catches.items) (λ cs. tt))
instr_written b number (instrs.Br k) = tt
instr_written b number (instrs.BrIf k) = tt
instr_written b number (instrs.BrTable other ks) = tt
instr_written b number (instrs.BrOnNull k) = tt
instr_written b number (instrs.BrOnNonNull k) = tt
instr_written b number (instrs.BrOnCast k from to) = cast_written 24 number k from to
instr_written b number (instrs.BrOnCastFail k from to) = cast_written 25 number k from to
instr_written b number (instrs.Rethrow depth) = tt
instr_written b number i = plain_written i

-- ---- texts

piece_written : (b : List InstrSeq) (p : Piece) → IsWritten (written all b p)
piece_written b (Operator around i) = instr_written b (label around) i
piece_written b Else = tt
piece_written b (Catch tag) = tt
piece_written b CatchAll = tt
piece_written b (Delegate depth) = tt
piece_written b End = tt

all_written : (b : List InstrSeq) (t : Text) → AreWritten all b t
all_written b [] = tt
all_written b (p ∷ ps) = (piece_written b p.0, all_written b ps)

some_is : (n k : ℕ) → Some n ≡ Some k → k ≡ n
some_is n k e = cc

pub used_meant : LocalsAreMeant → UsedLocalsAreMeant
used_meant meant local locals used same =
    meant (λ space n. n) all (λ space id n e. some_is id n e) (λ n. refl) local (all_written (seqs_of local.builder) (operators (seqs_of local.builder) 0)) locals used same
