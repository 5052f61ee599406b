-- Types of instructions and types of operators: what is written for each, and what each is read as. Names are sent through a look-up.
use Rattle.std.specs.Prelude.{ℕ, true, false, List, [], ◌∷◌, Option, Ok, Err}
use Rattle.std.specs.Option.{ok_or}
use Rattle.wasm_ref_types.specs.declared.heap.AbstractHeapType.{AbstractHeapType as WrittenAbstract}
use Rattle.wasm_ref_types.specs.declared.heap.AbstractHeapType.TheVariants as written
use Rattle.wasm_ref_types.specs.declared.heap.HeapType.{HeapType as WrittenHeap}
use Rattle.wasm_ref_types.specs.declared.heap.HeapType.TheVariants.{Abstract as WAbstract, Concrete as WConcrete, Exact as WExact}
use Rattle.wasm_ref_types.specs.declared.index.UnpackedIndex.{UnpackedIndex}
use Rattle.wasm_ref_types.specs.declared.index.UnpackedIndex.TheVariants.{Module, RecGroup, Id}
use Rattle.wasm_ref_types.specs.declared.value.ValType.{ValType as WrittenValue}
use Rattle.wasm_ref_types.specs.declared.value.ValType.TheVariants.{I32 as WI32, I64 as WI64, F32 as WF32, F64 as WF64, V128 as WV128, Ref as WRef}
use Rattle.wasm_ref_types.specs.Reference.{reference}
use Rattle.walrus_forms.specs.declared.value.AbstractHeapType.{AbstractHeapType}
use Rattle.walrus_forms.specs.declared.value.AbstractHeapType.TheVariants as kinds
use Rattle.walrus_forms.specs.declared.value.HeapType.{HeapType}
use Rattle.walrus_forms.specs.declared.value.HeapType.TheVariants.{Abstract, Shared, Concrete, Exact}
use Rattle.walrus_forms.specs.declared.value.ValType.{ValType}
use Rattle.walrus_forms.specs.declared.value.ValType.TheVariants.{I32, I64, F32, F64, V128, Ref}
use Rattle.walrus_index_maps.specs.declared.space.Space.TheVariants as spaces
use Rattle.walrus_pairing.specs.declared.error.PairError.TheVariants as errors
use Rattle.walrus_pairing.specs.Looks.{Or, ◌>>=◌}

-- what a type is sent to
abbrev pub type_of : (ℕ → Option ℕ) → ℕ → Or ℕ
type_of types n = ok_or (types n) (errors.Unknown spaces.«Type»)

-- ---- what is written

abbrev pub written_abstract : AbstractHeapType → WrittenAbstract
written_abstract kinds.Func = written.Func
written_abstract kinds.Extern = written.Extern
written_abstract kinds.Any = written.Any
written_abstract kinds.None = written.None
written_abstract kinds.NoExtern = written.NoExtern
written_abstract kinds.NoFunc = written.NoFunc
written_abstract kinds.Eq = written.Eq
written_abstract kinds.Struct = written.Struct
written_abstract kinds.Array = written.Array
written_abstract kinds.I31 = written.I31
written_abstract kinds.Exn = written.Exn
written_abstract kinds.NoExn = written.NoExn

abbrev pub written_heap : (ℕ → Option ℕ) → HeapType → Or WrittenHeap
written_heap types (Abstract ty) = Ok (WAbstract false (written_abstract ty))
written_heap types (Shared ty) = Ok (WAbstract true (written_abstract ty))
written_heap types (Concrete id) = type_of types id >>= λ n. Ok (WConcrete (Module n))
written_heap types (Exact id) = type_of types id >>= λ n. Ok (WExact (Module n))

abbrev pub written_value : (ℕ → Option ℕ) → ValType → Or WrittenValue
written_value types I32 = Ok WI32
written_value types I64 = Ok WI64
written_value types F32 = Ok WF32
written_value types F64 = Ok WF64
written_value types V128 = Ok WV128
written_value types (Ref ty) = written_heap types ty.heap_type >>= λ heap. Ok (WRef (reference ty.nullable heap))

-- ---- what is read

abbrev pub read_abstract : WrittenAbstract → Or AbstractHeapType
read_abstract written.Func = Ok kinds.Func
read_abstract written.Extern = Ok kinds.Extern
read_abstract written.Any = Ok kinds.Any
read_abstract written.None = Ok kinds.None
read_abstract written.NoExtern = Ok kinds.NoExtern
read_abstract written.NoFunc = Ok kinds.NoFunc
read_abstract written.Eq = Ok kinds.Eq
read_abstract written.Struct = Ok kinds.Struct
read_abstract written.Array = Ok kinds.Array
read_abstract written.I31 = Ok kinds.I31
read_abstract written.Exn = Ok kinds.Exn
read_abstract written.NoExn = Ok kinds.NoExn
read_abstract written.Cont = Err errors.ContinuationType
read_abstract written.NoCont = Err errors.ContinuationType

-- the type that an index of the module names; other indices name none
abbrev pub read_index : (ℕ → Option ℕ) → UnpackedIndex → Or ℕ
read_index types (Module n) = type_of types n
read_index types (RecGroup n) = Err (errors.Unknown spaces.«Type»)
read_index types (Id id) = Err (errors.Unknown spaces.«Type»)

abbrev pub read_heap : (ℕ → Option ℕ) → WrittenHeap → Or HeapType
read_heap types (WAbstract false ty) = read_abstract ty >>= λ kind. Ok (Abstract kind)
read_heap types (WAbstract true ty) = read_abstract ty >>= λ kind. Ok (Shared kind)
read_heap types (WConcrete index) = read_index types index >>= λ id. Ok (Concrete id)
read_heap types (WExact index) = read_index types index >>= λ id. Ok (Exact id)

abbrev pub read_value : (ℕ → Option ℕ) → WrittenValue → Or ValType
read_value types WI32 = Ok I32
read_value types WI64 = Ok I64
read_value types WF32 = Ok F32
read_value types WF64 = Ok F64
read_value types WV128 = Ok V128
read_value types (WRef ty) = read_heap types ty.heap_type >>= λ heap. Ok (Ref (record { nullable = ty.nullable; heap_type = heap }))

abbrev pub named_heap : (ℕ → Option ℕ) → WrittenHeap → Or (Unit {0})
named_heap types (WAbstract _ _) = Ok tt
named_heap types (WConcrete index) = read_index types index >>= λ _. Ok tt
named_heap types (WExact index) = read_index types index >>= λ _. Ok tt

-- each type that value types name is one of the module's
abbrev pub named_value : (ℕ → Option ℕ) → WrittenValue → Or (Unit {0})
named_value types (WRef ty) = named_heap types ty.heap_type
named_value types _ = Ok tt

abbrev pub named : (ℕ → Option ℕ) → List WrittenValue → Or (Unit {0})
named types [] = Ok tt
named types (ty ∷ tys) = named_value types ty >>= λ _. named types tys
