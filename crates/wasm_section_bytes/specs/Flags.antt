-- The flags with which segments are written: 0, or 4 for references to functions, exactly where the table is number 0 and of 32 bits; 0 for memory 0.
use Rattle.std.specs.Prelude.{ℕ, ◌≡◌, ◌==◌, ◌&&◌, Bool, true, false, not, List, if◌then◌else◌, refl}
use Rattle.std.proofs.Common.{ap, sym, ◌∙◌, inl, inr}
use Rattle.std.proofs.lemmas.Bool.{cases_Bool, eqb-true}
use Rattle.walrus_forms.specs.declared.value.AbstractHeapType.{AbstractHeapType}
use Rattle.walrus_forms.specs.declared.value.AbstractHeapType.TheVariants as heaps
use Rattle.walrus_forms.specs.declared.value.HeapType.{HeapType}
use Rattle.walrus_forms.specs.declared.value.HeapType.TheVariants.{Abstract, Shared, Concrete, Exact}
use Rattle.walrus_forms.specs.declared.value.RefType.{RefType}
use Rattle.walrus_forms.specs.Values.{nullable}
use Rattle.wasm_grammar.specs.Modules.{Expr, Mode, Passive, Declared, Active, Elements, Functions, Expressions, Element, Segment}
use Rattle.wasm_sections.specs.Segments.{ActiveFunctions, PassiveFunctions, FunctionsInto, DeclaredFunctions, ActiveExpressions, PassiveExpressions, ExpressionsInto, DeclaredExpressions, ElementEntry, element_of, ActiveData, PassiveData, DataInto, DataEntry, segment_of}

abbrev pub is_func : AbstractHeapType → Bool
is_func heaps.Func = true
is_func _ = false

abbrev pub is_func_heap : HeapType → Bool
is_func_heap (Abstract ty) = is_func ty
is_func_heap _ = false

-- the type of references to functions, null among them
abbrev pub is_funcref : RefType → Bool
is_funcref ty = ty.nullable && is_func_heap ty.heap_type

-- wide: the table of this number has 64 bits
abbrev pub functions_entry : (ℕ → Bool) → Mode → List ℕ → ElementEntry
functions_entry wide Passive ns = (1, PassiveFunctions (tt, ns))
functions_entry wide Declared ns = (3, DeclaredFunctions (tt, ns))
functions_entry wide (Active n offset) ns = if n == 0 && not (wide 0) then (0, ActiveFunctions (offset, ns)) else (2, FunctionsInto ((n, offset), (tt, ns)))

abbrev pub expressions_entry : (ℕ → Bool) → Mode → RefType → List Expr → ElementEntry
expressions_entry wide Passive ty es = (5, PassiveExpressions (ty, es))
expressions_entry wide Declared ty es = (7, DeclaredExpressions (ty, es))
expressions_entry wide (Active n offset) ty es =
    if n == 0 && not (wide 0) && is_funcref ty then (4, ActiveExpressions (offset, es)) else (6, ExpressionsInto ((n, offset), (ty, es)))

abbrev pub items_entry : (ℕ → Bool) → Mode → Elements → ElementEntry
items_entry wide mode (Functions ns) = functions_entry wide mode ns
items_entry wide mode (Expressions ty es) = expressions_entry wide mode ty es

abbrev pub entry_of_element : (ℕ → Bool) → Element → ElementEntry
entry_of_element wide e = items_entry wide e.mode e.items

-- no data segment is declared: where one is, it is written as a passive one
abbrev pub bytes_entry : Mode → List ℕ → DataEntry
bytes_entry Passive bytes = (1, PassiveData bytes)
bytes_entry Declared bytes = (1, PassiveData bytes)
bytes_entry (Active n offset) bytes = if n == 0 then (0, ActiveData (offset, bytes)) else (2, DataInto ((n, offset), bytes))

abbrev pub entry_of_segment : Segment → DataEntry
entry_of_segment x = bytes_entry x.mode x.bytes

abbrev pub IsNotDeclared : Mode → Type 0
IsNotDeclared Declared = ⊥
IsNotDeclared _ = Unit {0}

-- what is written so is that segment
pub record FlagsTell : Type 0 where
  pub elements : (wide : ℕ → Bool) (e : Element) → element_of (entry_of_element wide e).1 ≡ e
  pub segments : (x : Segment) → IsNotDeclared x.mode → segment_of (entry_of_segment x).1 ≡ x

-- ---- proofs

and_parts : (a b : Bool) → (a && b) ≡ true → (a ≡ true) × (b ≡ true)
and_parts true b e = (refl, e)
and_parts false b e = absurd cc

func_is : (ty : AbstractHeapType) → is_func ty ≡ true → ty ≡ heaps.Func
func_is heaps.Func e = refl
func_is _ e = absurd cc

func_heap_is : (ty : HeapType) → is_func_heap ty ≡ true → ty ≡ Abstract heaps.Func
func_heap_is (Abstract ty) e = ap Abstract (func_is ty e)
func_heap_is (Shared ty) e = absurd cc
func_heap_is (Concrete n) e = absurd cc
func_heap_is (Exact n) e = absurd cc

funcref_is : (ty : RefType) → is_funcref ty ≡ true → ty ≡ nullable heaps.Func
funcref_is ty e =
    let p = and_parts ty.nullable (is_func_heap ty.heap_type) e in
    ap (λ (n : Bool). record { nullable = n; heap_type = ty.heap_type }) p.0 ∙ ap (λ (h : HeapType). record { nullable = true; heap_type = h }) (func_heap_is ty.heap_type p.1)

functions_tell : (wide : ℕ → Bool) (mode : Mode) (ns : List ℕ) → element_of (functions_entry wide mode ns).1 ≡ record { mode = mode; items = Functions ns }
functions_tell wide Passive ns = refl
functions_tell wide Declared ns = refl
functions_tell wide (Active n offset) ns = elim (cases_Bool (n == 0 && not (wide 0))) [
  | inl is ↦
      let zero = eqb-true n 0 (and_parts (n == 0) (not (wide 0)) is).0 in
      rw is (ap (λ (n : ℕ). record { mode = Active n offset; items = Functions ns }) (sym zero))
  | inr other ↦ rw other refl
]

expressions_tell : (wide : ℕ → Bool) (mode : Mode) (ty : RefType) (es : List Expr) → element_of (expressions_entry wide mode ty es).1 ≡ record { mode = mode; items = Expressions ty es }
expressions_tell wide Passive ty es = refl
expressions_tell wide Declared ty es = refl
expressions_tell wide (Active n offset) ty es = elim (cases_Bool (n == 0 && not (wide 0) && is_funcref ty)) [
  | inl is ↦
      let p = and_parts (n == 0 && not (wide 0)) (is_funcref ty) is in
      let zero = eqb-true n 0 (and_parts (n == 0) (not (wide 0)) p.0).0 in
      let ref = funcref_is ty p.1 in
      rw is (ap (λ (n : ℕ). record { mode = Active n offset; items = Expressions (nullable heaps.Func) es }) (sym zero)
      ∙ ap (λ (t : RefType). record { mode = Active n offset; items = Expressions t es }) (sym ref))
  | inr other ↦ rw other refl
]

items_tell : (wide : ℕ → Bool) (mode : Mode) (items : Elements) → element_of (items_entry wide mode items).1 ≡ record { mode = mode; items = items }
items_tell wide mode (Functions ns) = functions_tell wide mode ns
items_tell wide mode (Expressions ty es) = expressions_tell wide mode ty es

bytes_tell : (mode : Mode) (bytes : List ℕ) → IsNotDeclared mode → segment_of (bytes_entry mode bytes).1 ≡ record { mode = mode; bytes = bytes }
bytes_tell Passive bytes h = refl
bytes_tell Declared bytes h = absurd h
bytes_tell (Active n offset) bytes h = elim (cases_Bool (n == 0)) [
  | inl is ↦ rw is (ap (λ (n : ℕ). record { mode = Active n offset; bytes = bytes }) (sym (eqb-true n 0 is)))
  | inr other ↦ rw other refl
]

pub flags_tell : FlagsTell
flags_tell = record { elements = λ wide e. items_tell wide e.mode e.items; segments = λ x h. bytes_tell x.mode x.bytes h }
