-- A call at each index that a type names, in the order of its bytes, up to the first that is refused. What a call that is not
-- refused leaves stands in the index's place; nothing else changes.
use Rattle.std.specs.Prelude.{◌≡◌, ◌⊎◌, List, [], ◌∷◌, Result, Ok, Err}
use Rattle.wasm_ref_types.specs.declared.index.UnpackedIndex.{UnpackedIndex}
use Rattle.wasm_ref_types.specs.declared.heap.HeapType.{HeapType}
use Rattle.wasm_ref_types.specs.declared.heap.HeapType.TheVariants.{Abstract, Concrete, Exact}
use Rattle.wasm_ref_types.specs.declared.value.ValType.{ValType}
use Rattle.wasm_ref_types.specs.declared.value.ValType.TheVariants.{I32, I64, F32, F64, V128, Ref}
use Rattle.wasm_ref_types.specs.Reference.{Reference, reference}
use Rattle.wasm_composite_types.specs.declared.field.StorageType.{StorageType}
use Rattle.wasm_composite_types.specs.declared.field.StorageType.TheVariants.{I8, I16, Val}
use Rattle.wasm_composite_types.specs.declared.field.FieldType.{FieldType}
use Rattle.wasm_composite_types.specs.declared.form.CompositeInnerType.{CompositeInnerType}
use Rattle.wasm_composite_types.specs.declared.form.CompositeInnerType.TheVariants.{Func, Array, Struct, Cont}
use Rattle.wasm_composite_types.specs.declared.form.FuncType.{FuncType}

-- `call f i r g j`: a call in the state f at the index i may answer r, and leave the state g and the index j
module _ {F E : Type 0} (call : F → UnpackedIndex → Result (Unit {0}) E → F → UnpackedIndex → Type 0) where
  -- nothing is called
  abbrev pub Keeps : {X : Type 0} → F → X → Result (Unit {0}) E → F → X → Type 0
  Keeps f x r g y = (r ≡ Ok tt) × (g ≡ f) × (y ≡ x)

  -- a call, whose index stays where it is refused
  abbrev pub VisitsIndex : F → UnpackedIndex → Result (Unit {0}) E → F → UnpackedIndex → Type 0
  VisitsIndex f i (Ok u) g j = call f i (Ok u) g j
  VisitsIndex f i (Err e) g j = ((k : UnpackedIndex) × call f i (Err e) g k) × (j ≡ i)

  -- the one, and then the other unless the first was refused
  abbrev pub VisitsBoth : {X Y : Type 0} → (F → X → Result (Unit {0}) E → F → X → Type 0) → (F → Y → Result (Unit {0}) E → F → Y → Type 0) → F → X → Y → Result (Unit {0}) E → F → X → Y → Type 0
  VisitsBoth First Later f x y r g x' y' =
      ((h : F) × First f x (Ok tt) h x' × Later h y r g y')
      ⊎ ((e : E) × First f x (Err e) g x' × (r ≡ Err e) × (y' ≡ y))

  -- each of a list in its order, up to one that is refused
  abbrev pub VisitsEach : {X : Type 0} → (F → X → Result (Unit {0}) E → F → X → Type 0) → F → List X → Result (Unit {0}) E → F → List X → Type 0
  VisitsEach One f [] r g ys = Keeps f [] r g ys
  VisitsEach One f (x ∷ xs) r g [] = ⊥
  VisitsEach One f (x ∷ xs) r g (y ∷ ys) =
      ((h : F) × One f x (Ok tt) h y × VisitsEach One h xs r g ys)
      ⊎ ((e : E) × One f x (Err e) g y × (r ≡ Err e) × (ys ≡ xs))

  abbrev pub VisitsHeap : F → HeapType → Result (Unit {0}) E → F → HeapType → Type 0
  VisitsHeap f (Abstract shared ty) r g new = Keeps f (Abstract shared ty) r g new
  VisitsHeap f (Concrete i) r g new = (j : UnpackedIndex) × VisitsIndex f i r g j × (new ≡ Concrete j)
  VisitsHeap f (Exact i) r g new = (j : UnpackedIndex) × VisitsIndex f i r g j × (new ≡ Exact j)

  abbrev pub VisitsReference : F → Reference → Result (Unit {0}) E → F → Reference → Type 0
  VisitsReference f ty r g new = (heap : HeapType) × VisitsHeap f ty.heap_type r g heap × (new ≡ reference ty.nullable heap)

  abbrev pub VisitsValue : F → ValType → Result (Unit {0}) E → F → ValType → Type 0
  VisitsValue f I32 r g new = Keeps f I32 r g new
  VisitsValue f I64 r g new = Keeps f I64 r g new
  VisitsValue f F32 r g new = Keeps f F32 r g new
  VisitsValue f F64 r g new = Keeps f F64 r g new
  VisitsValue f V128 r g new = Keeps f V128 r g new
  VisitsValue f (Ref ty) r g new = (ref : Reference) × VisitsReference f ty r g ref × (new ≡ Ref ref)

  abbrev pub VisitsStorage : F → StorageType → Result (Unit {0}) E → F → StorageType → Type 0
  VisitsStorage f I8 r g new = Keeps f I8 r g new
  VisitsStorage f I16 r g new = Keeps f I16 r g new
  VisitsStorage f (Val ty) r g new = (value : ValType) × VisitsValue f ty r g value × (new ≡ Val value)

  abbrev pub VisitsField : F → FieldType → Result (Unit {0}) E → F → FieldType → Type 0
  VisitsField f field r g new = VisitsStorage f field.element_type r g new.element_type × (new.mutable ≡ field.mutable)

  abbrev pub VisitsFunc : F → FuncType → Result (Unit {0}) E → F → FuncType → Type 0
  VisitsFunc f ty r g new = VisitsBoth (VisitsEach VisitsValue) (VisitsEach VisitsValue) f ty.params ty.results r g new.params new.results

  abbrev pub VisitsForm : F → CompositeInnerType → Result (Unit {0}) E → F → CompositeInnerType → Type 0
  VisitsForm f (Func ty) r g new = (func : FuncType) × VisitsFunc f ty r g func × (new ≡ Func func)
  VisitsForm f (Array ty) r g new = (field : FieldType) × VisitsField f ty.0 r g field × (new ≡ Array (record { 0 = field }))
  VisitsForm f (Struct ty) r g new = (fields : List FieldType) × VisitsEach VisitsField f ty.fields r g fields × (new ≡ Struct (record { fields = fields }))
  VisitsForm f (Cont ty) r g new = (j : UnpackedIndex) × VisitsIndex f ty.0 r g j × (new ≡ Cont (record { 0 = j }))
