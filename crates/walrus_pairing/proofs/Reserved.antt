-- Where a reserved byte can stand: what is seen of an operator tells that it has none, unless its items begin with a byte.
use Rattle.std.proofs.Common.{ℕ, ◌≡◌, Bool, true, false, Option, Some, None, Result, Ok, Err, List, ◌∷◌, refl, ap, ◌∙◌}
use Rattle.walrus_operators.specs.declared.immediates.Immediates.{Immediates}
use Rattle.walrus_operators.specs.declared.immediates.Immediates.TheVariants as imm
use Rattle.walrus_operators.specs.declared.operator.Operator.{Operator}
use Rattle.walrus_operators.specs.Immediates.{items_of}
use Rattle.walrus_operators.specs.wasm_operators.Items.{Space, Types, Memories, Item, Byte}
use Rattle.walrus_operators.specs.wasm_operators.declared.op_code.OpCode.{OpCode}
use Rattle.walrus_operators.specs.wasm_operators.Operators.{Seen}
use Rattle.walrus_forms.specs.declared.value.HeapType.{HeapType}
use Rattle.walrus_forms.specs.declared.value.ValType.{ValType}
use Rattle.walrus_codes.specs.walrus_instr.declared.instr.Value.{Value as Constant}
use Rattle.walrus_codes.specs.walrus_instr.declared.instr.Value.TheVariants as constants
use Rattle.walrus_codes.specs.walrus_instr.declared.instr.Instr.{Instr}
use Rattle.walrus_codes.specs.walrus_instr.declared.instr.Instr.TheVariants as instrs
use Rattle.walrus_codes.specs.walrus_instr.declared.memory.MemArg.{MemArg}
use Rattle.walrus_codes.specs.Access.{simd_lane}
use Rattle.walrus_pairing.specs.declared.error.PairError.{PairError}
use Rattle.walrus_pairing.specs.Looks.{Look, Or, ◌>>=◌, found}
use Rattle.walrus_pairing.specs.Types.{written_heap}
use Rattle.walrus_pairing.specs.Seen.{as_seen, is_reserved, has_reserved_byte, is_fence}
use Rattle.walrus_pairing.specs.Answers.{selected}
use Rattle.walrus_pairing.specs.Write.{one, two, counted, access, heap, bare_code, constant, variable, memory_op, object_op}

abbrev is_byte : List Item → Bool
is_byte (Byte b ∷ items) = true
is_byte _ = false

abbrev has_byte : Or (Option Seen) → Bool
has_byte (Ok (Some op)) = is_byte op.items
has_byte _ = false

of_items : (m : Immediates) → is_byte (items_of m) ≡ false → is_reserved m ≡ false
of_items imm.Zero h = h
of_items _ h = refl

of_seen : (r : Result (Option Operator) PairError) → has_byte (as_seen r) ≡ false → has_reserved_byte r ≡ false
of_seen (Ok (Some op)) h = of_items op.immediates h
of_seen (Ok None) h = refl
of_seen (Err e) h = refl

pub has_none : (r : Result (Option Operator) PairError) (x : Or (Option Seen)) → as_seen r ≡ x → has_byte x ≡ false → has_reserved_byte r ≡ false
has_none r x e h = of_seen r (ap has_byte e ∙ h)

bound : {A : Type 0} (o : Or A) (f : A → Or (Option Seen)) → ((x : A) → has_byte (f x) ≡ false) → has_byte (o >>= f) ≡ false
bound (Ok x) f h = h x
bound (Err e) f h = refl

in_one : (look : Look) (code : OpCode) (space : Space) (id : ℕ) → has_byte (one look code space id) ≡ false
in_one look code space id = bound (found look space id) _ (λ n. refl)

in_two : (look : Look) (code : OpCode) (first : Space) (id : ℕ) (second : Space) (other : ℕ) → has_byte (two look code first id second other) ≡ false
in_two look code first id second other = bound (found look first id) _ (λ m. bound (found look second other) _ (λ n. refl))

in_counted : (look : Look) (code : OpCode) (space : Space) (id : ℕ) (count : ℕ) → has_byte (counted look code space id count) ≡ false
in_counted look code space id count = bound (found look space id) _ (λ n. refl)

in_access : (look : Look) (code : OpCode) (memory : ℕ) (arg : MemArg) (lane : Option ℕ) → has_byte (access look code memory arg lane) ≡ false
in_access look code memory arg lane = bound (found look Memories memory) _ (λ n. refl)

in_heap : (look : Look) (code : OpCode) (ty : HeapType) → has_byte (heap look code ty) ≡ false
in_heap look code ty = bound (written_heap (look Types) ty) _ (λ h. refl)

in_constant : (value : Constant) → has_byte (constant value) ≡ false
in_constant (constants.I32 z) = refl
in_constant (constants.I64 z) = refl
in_constant (constants.F32 bits) = refl
in_constant (constants.F64 bits) = refl
in_constant (constants.V128 bits) = refl

pub of_one : (look : Look) (code : OpCode) (space : Space) (id : ℕ) (r : Result (Option Operator) PairError) → as_seen r ≡ one look code space id → has_reserved_byte r ≡ false
of_one look code space id r e = has_none r _ e (in_one look code space id)

pub of_access : (look : Look) (code : OpCode) (memory : ℕ) (arg : MemArg) (lane : Option ℕ) (r : Result (Option Operator) PairError) → as_seen r ≡ access look code memory arg lane → has_reserved_byte r ≡ false
of_access look code memory arg lane r e = has_none r _ e (in_access look code memory arg lane)

pub of_constant : (value : Constant) (r : Result (Option Operator) PairError) → as_seen r ≡ constant value → has_reserved_byte r ≡ false
of_constant value r e = has_none r (constant value) e (in_constant value)

pub in_variable : (look : Look) (i : Instr) → has_byte (variable look i) ≡ false
in_variable look (instrs.Throw tag) = in_one look _ _ tag
in_variable look (instrs.Call func) = in_one look _ _ func
in_variable look (instrs.CallIndirect ty table) = in_two look _ _ ty _ table
in_variable look (instrs.ReturnCall func) = in_one look _ _ func
in_variable look (instrs.ReturnCallIndirect ty table) = in_two look _ _ ty _ table
in_variable look (instrs.CallRef ty) = in_one look _ _ ty
in_variable look (instrs.ReturnCallRef ty) = in_one look _ _ ty
in_variable look (instrs.LocalGet local) = in_one look _ _ local
in_variable look (instrs.LocalSet local) = in_one look _ _ local
in_variable look (instrs.LocalTee local) = in_one look _ _ local
in_variable look (instrs.GlobalGet global) = in_one look _ _ global
in_variable look (instrs.GlobalSet global) = in_one look _ _ global
in_variable look (instrs.TableGet table) = in_one look _ _ table
in_variable look (instrs.TableSet table) = in_one look _ _ table
in_variable look (instrs.RefFunc func) = in_one look _ _ func
in_variable look (instrs.TableInit table elem) = in_two look _ _ elem _ table
in_variable look (instrs.ElemDrop elem) = in_one look _ _ elem
in_variable look (instrs.TableCopy src dst) = in_two look _ _ dst _ src
in_variable look (instrs.TableGrow table) = in_one look _ _ table
in_variable look (instrs.TableSize table) = in_one look _ _ table
in_variable look (instrs.TableFill table) = in_one look _ _ table
in_variable look _ = refl

pub in_memory : (look : Look) (i : Instr) → has_byte (memory_op look i) ≡ false
in_memory look (instrs.Load memory kind arg) = in_access look _ memory arg None
in_memory look (instrs.Store memory kind arg) = in_access look _ memory arg None
in_memory look (instrs.LoadSimd memory kind arg) = in_access look _ memory arg (simd_lane kind)
in_memory look (instrs.MemorySize memory) = in_one look _ _ memory
in_memory look (instrs.MemoryGrow memory) = in_one look _ _ memory
in_memory look (instrs.MemoryInit memory segment) = in_two look _ _ segment _ memory
in_memory look (instrs.DataDrop segment) = in_one look _ _ segment
in_memory look (instrs.MemoryCopy src dst) = in_two look _ _ dst _ src
in_memory look (instrs.MemoryFill memory) = in_one look _ _ memory
in_memory look (instrs.AtomicNotify memory arg) = in_access look _ memory arg None
in_memory look (instrs.AtomicWait memory arg sixty_four) = in_access look _ memory arg None
in_memory look (instrs.AtomicRmw memory change width arg) = in_access look _ memory arg None
in_memory look (instrs.Cmpxchg memory width arg) = in_access look _ memory arg None
in_memory look _ = refl

pub in_object : (look : Look) (i : Instr) → has_byte (object_op look i) ≡ false
in_object look (instrs.RefNull ty) = in_heap look _ ty.heap_type
in_object look (instrs.RefTest ty) = in_heap look _ ty.heap_type
in_object look (instrs.RefCast ty) = in_heap look _ ty.heap_type
in_object look (instrs.StructNew ty) = in_one look _ _ ty
in_object look (instrs.StructNewDefault ty) = in_one look _ _ ty
in_object look (instrs.StructGet ty field) = in_counted look _ _ ty field
in_object look (instrs.StructGetS ty field) = in_counted look _ _ ty field
in_object look (instrs.StructGetU ty field) = in_counted look _ _ ty field
in_object look (instrs.StructSet ty field) = in_counted look _ _ ty field
in_object look (instrs.ArrayNew ty) = in_one look _ _ ty
in_object look (instrs.ArrayNewDefault ty) = in_one look _ _ ty
in_object look (instrs.ArrayNewFixed ty size) = in_counted look _ _ ty size
in_object look (instrs.ArrayNewData ty segment) = in_two look _ _ ty _ segment
in_object look (instrs.ArrayNewElem ty elem) = in_two look _ _ ty _ elem
in_object look (instrs.ArrayGet ty) = in_one look _ _ ty
in_object look (instrs.ArrayGetS ty) = in_one look _ _ ty
in_object look (instrs.ArrayGetU ty) = in_one look _ _ ty
in_object look (instrs.ArraySet ty) = in_one look _ _ ty
in_object look (instrs.ArrayFill ty) = in_one look _ _ ty
in_object look (instrs.ArrayCopy src dst) = in_two look _ _ dst _ src
in_object look (instrs.ArrayInitData ty segment) = in_two look _ _ ty _ segment
in_object look (instrs.ArrayInitElem ty elem) = in_two look _ _ ty _ elem
in_object look _ = refl

pub of_bare : (i : Instr) (code : OpCode) → Some code ≡ bare_code i → false ≡ is_fence i
of_bare instrs.AtomicFence code e = cc
of_bare _ code e = refl

pub of_selected : (i : Instr) (ty : ValType) → Some ty ≡ selected i → false ≡ is_fence i
of_selected instrs.AtomicFence ty e = cc
of_selected _ ty e = refl
