-- Types as they are read, in the words of types whose names are indices of a module.
use Rattle.std.specs.Prelude.{◌≡◌, true, false, Option, Some, None, refl}
use Rattle.std.specs.Option.{option_map}
use Rattle.std.proofs.Common.{ap, sym, ◌∙◌}
use Rattle.wasm_operators.specs.wasm_ref_types.declared.heap.AbstractHeapType.{AbstractHeapType as ReadAbstract}
use Rattle.wasm_operators.specs.wasm_ref_types.declared.heap.AbstractHeapType.TheVariants as from
use Rattle.wasm_operators.specs.wasm_ref_types.declared.heap.HeapType.{HeapType as ReadHeap}
use Rattle.wasm_operators.specs.wasm_ref_types.declared.heap.HeapType.TheVariants.{Abstract as FromAbstract, Concrete as FromConcrete, Exact as FromExact}
use Rattle.wasm_operators.specs.wasm_ref_types.declared.index.UnpackedIndex.TheVariants.{Module, RecGroup, Id}
use Rattle.wasm_operators.specs.wasm_ref_types.declared.value.ValType.{ValType as ReadValue}
use Rattle.wasm_operators.specs.wasm_ref_types.declared.value.ValType.TheVariants as values
use Rattle.wasm_operators.specs.wasm_ref_types.Reference.{Reference, reference}
use Rattle.walrus_forms.specs.declared.value.AbstractHeapType.{AbstractHeapType}
use Rattle.walrus_forms.specs.declared.value.AbstractHeapType.TheVariants as into
use Rattle.walrus_forms.specs.declared.value.HeapType.{HeapType}
use Rattle.walrus_forms.specs.declared.value.HeapType.TheVariants.{Abstract, Shared, Concrete, Exact}
use Rattle.walrus_forms.specs.declared.value.RefType.{RefType}
use Rattle.walrus_forms.specs.declared.value.ValType.{ValType}
use Rattle.walrus_forms.specs.declared.value.ValType.TheVariants.{I32, I64, F32, F64, V128, Ref}

-- continuations have no place in modules of this project
abbrev pub abstract_of : ReadAbstract → Option AbstractHeapType
abstract_of from.Func = Some into.Func
abstract_of from.Extern = Some into.Extern
abstract_of from.Any = Some into.Any
abstract_of from.None = Some into.None
abstract_of from.NoExtern = Some into.NoExtern
abstract_of from.NoFunc = Some into.NoFunc
abstract_of from.Eq = Some into.Eq
abstract_of from.Struct = Some into.Struct
abstract_of from.Array = Some into.Array
abstract_of from.I31 = Some into.I31
abstract_of from.Exn = Some into.Exn
abstract_of from.NoExn = Some into.NoExn
abstract_of from.Cont = None
abstract_of from.NoCont = None

abbrev pub heap_of : ReadHeap → Option HeapType
heap_of (FromAbstract false ty) = option_map Abstract (abstract_of ty)
heap_of (FromAbstract true ty) = option_map Shared (abstract_of ty)
heap_of (FromConcrete (Module index)) = Some (Concrete index)
heap_of (FromConcrete (RecGroup index)) = None
heap_of (FromConcrete (Id id)) = None
heap_of (FromExact (Module index)) = Some (Exact index)
heap_of (FromExact (RecGroup index)) = None
heap_of (FromExact (Id id)) = None

abbrev pub ref_of : Reference → Option RefType
ref_of r = option_map (λ h. record { nullable = r.nullable; heap_type = h }) (heap_of r.heap_type)

abbrev pub value_of : ReadValue → Option ValType
value_of values.I32 = Some I32
value_of values.I64 = Some I64
value_of values.F32 = Some F32
value_of values.F64 = Some F64
value_of values.V128 = Some V128
value_of (values.Ref r) = option_map Ref (ref_of r)

-- ---- what was told stands for one type alone

abbrev pub abstract_from : AbstractHeapType → ReadAbstract
abstract_from into.Func = from.Func
abstract_from into.Extern = from.Extern
abstract_from into.Any = from.Any
abstract_from into.None = from.None
abstract_from into.NoExtern = from.NoExtern
abstract_from into.NoFunc = from.NoFunc
abstract_from into.Eq = from.Eq
abstract_from into.Struct = from.Struct
abstract_from into.Array = from.Array
abstract_from into.I31 = from.I31
abstract_from into.Exn = from.Exn
abstract_from into.NoExn = from.NoExn

abbrev pub heap_from : HeapType → ReadHeap
heap_from (Abstract ty) = FromAbstract false (abstract_from ty)
heap_from (Shared ty) = FromAbstract true (abstract_from ty)
heap_from (Concrete index) = FromConcrete (Module index)
heap_from (Exact index) = FromExact (Module index)

abbrev pub ref_from : RefType → Reference
ref_from r = reference r.nullable (heap_from r.heap_type)

abbrev pub value_from : ValType → ReadValue
value_from I32 = values.I32
value_from I64 = values.I64
value_from F32 = values.F32
value_from F64 = values.F64
value_from V128 = values.V128
value_from (Ref r) = values.Ref (ref_from r)

some_is : {A B : Type 0} (f : A → B) (x : A) (y : B) → option_map f (Some x) ≡ Some y → f x ≡ y
some_is f x y e = cc

none_is : {A B P : Type 0} (f : A → B) (y : B) → option_map f None ≡ Some y → P
none_is f y e = absurd cc

-- each was told of what it stands for
mapped_told : {A B C : Type 0} (f : A → B) (back : A → C) (whole : B → C) (o : Option A) (c : C) (y : B) → ((x : A) → whole (f x) ≡ back x) → ((x : A) → o ≡ Some x → c ≡ back x)
    → option_map f o ≡ Some y → c ≡ whole y
mapped_told f back whole None c y same told e = none_is f y e
mapped_told f back whole (Some x) c y same told e = told x refl ∙ sym (same x) ∙ ap whole (some_is f x y e)

abbrev pub IsSome : {A : Type 0} → A → A → Type 0
IsSome {A} x y = (let some : A → Option A = λ x. Some x in some x ≡ some y)

some_same : {A : Type 0} (x y : A) → IsSome x y → x ≡ y
some_same x y e = cc

none_some : {A P : Type 0} (y : A) → (let none : Option A = None in none ≡ Some y) → P
none_some y e = absurd cc

abstract_told : (x : ReadAbstract) (y : AbstractHeapType) → abstract_of x ≡ Some y → x ≡ abstract_from y
abstract_told from.Func y e = ap abstract_from (some_same into.Func y e)
abstract_told from.Extern y e = ap abstract_from (some_same into.Extern y e)
abstract_told from.Any y e = ap abstract_from (some_same into.Any y e)
abstract_told from.None y e = ap abstract_from (some_same into.None y e)
abstract_told from.NoExtern y e = ap abstract_from (some_same into.NoExtern y e)
abstract_told from.NoFunc y e = ap abstract_from (some_same into.NoFunc y e)
abstract_told from.Eq y e = ap abstract_from (some_same into.Eq y e)
abstract_told from.Struct y e = ap abstract_from (some_same into.Struct y e)
abstract_told from.Array y e = ap abstract_from (some_same into.Array y e)
abstract_told from.I31 y e = ap abstract_from (some_same into.I31 y e)
abstract_told from.Exn y e = ap abstract_from (some_same into.Exn y e)
abstract_told from.NoExn y e = ap abstract_from (some_same into.NoExn y e)
abstract_told from.Cont y e = none_some y e
abstract_told from.NoCont y e = none_some y e

pub heap_told : (x : ReadHeap) (y : HeapType) → heap_of x ≡ Some y → x ≡ heap_from y
heap_told (FromAbstract false ty) y e =
    mapped_told Abstract (λ a. FromAbstract false (abstract_from a)) heap_from (abstract_of ty) (FromAbstract false ty) y (λ a. refl)
    (λ a h. ap (λ (t : ReadAbstract). FromAbstract false t) (abstract_told ty a h)) e
heap_told (FromAbstract true ty) y e =
    mapped_told Shared (λ a. FromAbstract true (abstract_from a)) heap_from (abstract_of ty) (FromAbstract true ty) y (λ a. refl)
    (λ a h. ap (λ (t : ReadAbstract). FromAbstract true t) (abstract_told ty a h)) e
heap_told (FromConcrete (Module index)) y e = ap heap_from (some_same (Concrete index) y e)
heap_told (FromConcrete (RecGroup index)) y e = none_some y e
heap_told (FromConcrete (Id id)) y e = none_some y e
heap_told (FromExact (Module index)) y e = ap heap_from (some_same (Exact index) y e)
heap_told (FromExact (RecGroup index)) y e = none_some y e
heap_told (FromExact (Id id)) y e = none_some y e

pub ref_told : (x : Reference) (y : RefType) → ref_of x ≡ Some y → x ≡ ref_from y
ref_told x y e =
    mapped_told (λ h. record { nullable = x.nullable; heap_type = h }) (λ h. reference x.nullable (heap_from h)) ref_from (heap_of x.heap_type) x y (λ h. refl)
    (λ h k. ap (λ (t : ReadHeap). reference x.nullable t) (heap_told x.heap_type h k)) e

pub value_told : (x : ReadValue) (y : ValType) → value_of x ≡ Some y → x ≡ value_from y
value_told values.I32 y e = ap value_from (some_same I32 y e)
value_told values.I64 y e = ap value_from (some_same I64 y e)
value_told values.F32 y e = ap value_from (some_same F32 y e)
value_told values.F64 y e = ap value_from (some_same F64 y e)
value_told values.V128 y e = ap value_from (some_same V128 y e)
value_told (values.Ref r) y e =
    mapped_told Ref (λ r. values.Ref (ref_from r)) value_from (ref_of r) (values.Ref r) y (λ r. refl)
    (λ s k. ap (λ (t : Reference). values.Ref t) (ref_told r s k)) e

pub ref_once : (x y : Reference) (z : RefType) → ref_of x ≡ Some z → ref_of y ≡ Some z → x ≡ y
ref_once x y z e f = ref_told x z e ∙ sym (ref_told y z f)

pub value_once : (x y : ReadValue) (z : ValType) → value_of x ≡ Some z → value_of y ≡ Some z → x ≡ y
value_once x y z e f = value_told x z e ∙ sym (value_told y z f)

-- a value type that is told stands for one that is read
abbrev pub ValuesAreTold : Type 0
ValuesAreTold = (x y : ReadValue) (z : ValType) → value_of x ≡ Some z → value_of y ≡ Some z → x ≡ y
