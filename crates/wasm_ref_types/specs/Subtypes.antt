-- Matching of abstract heap types (Core Specification, validation: matching heap types).
use Rattle.std.specs.Prelude.{◌≡◌, List, [], ◌∷◌}
use Rattle.wasm_ref_types.specs.declared.heap.AbstractHeapType.{AbstractHeapType}
use Rattle.wasm_ref_types.specs.declared.heap.AbstractHeapType.TheVariants as kinds

-- the rules that are stated of pairs of types
pub data IsDirectlyBelow : AbstractHeapType → AbstractHeapType → Type 0 where
  none_i31 : IsDirectlyBelow kinds.None kinds.I31
  none_struct : IsDirectlyBelow kinds.None kinds.Struct
  none_array : IsDirectlyBelow kinds.None kinds.Array
  i31_eq : IsDirectlyBelow kinds.I31 kinds.Eq
  struct_eq : IsDirectlyBelow kinds.Struct kinds.Eq
  array_eq : IsDirectlyBelow kinds.Array kinds.Eq
  eq_any : IsDirectlyBelow kinds.Eq kinds.Any
  nofunc_func : IsDirectlyBelow kinds.NoFunc kinds.Func
  noextern_extern : IsDirectlyBelow kinds.NoExtern kinds.Extern
  noexn_exn : IsDirectlyBelow kinds.NoExn kinds.Exn
  nocont_cont : IsDirectlyBelow kinds.NoCont kinds.Cont

-- a type is below itself, and below what a type is below that it is directly below
pub data IsBelow : AbstractHeapType → AbstractHeapType → Type 0 where
  itself : (a : AbstractHeapType) → IsBelow a a
  above : (a b c : AbstractHeapType) → IsDirectlyBelow a b → IsBelow b c → IsBelow a c

-- the laws of a partial order
pub record IsPartialOrder {A : Type 0} (Below : A → A → Type 0) : Type 0 where
  pub reflexive : (a : A) → Below a a
  pub transitive : (a b c : A) → Below a b → Below b c → Below a c
  pub antisymmetric : (a b : A) → Below a b → Below b a → a ≡ b

-- the types that each type is below
abbrev pub supertypes : AbstractHeapType → List AbstractHeapType
supertypes kinds.Func = kinds.Func ∷ []
supertypes kinds.Extern = kinds.Extern ∷ []
supertypes kinds.Any = kinds.Any ∷ []
supertypes kinds.None = kinds.None ∷ kinds.I31 ∷ kinds.Struct ∷ kinds.Array ∷ kinds.Eq ∷ kinds.Any ∷ []
supertypes kinds.NoExtern = kinds.NoExtern ∷ kinds.Extern ∷ []
supertypes kinds.NoFunc = kinds.NoFunc ∷ kinds.Func ∷ []
supertypes kinds.Eq = kinds.Eq ∷ kinds.Any ∷ []
supertypes kinds.Struct = kinds.Struct ∷ kinds.Eq ∷ kinds.Any ∷ []
supertypes kinds.Array = kinds.Array ∷ kinds.Eq ∷ kinds.Any ∷ []
supertypes kinds.I31 = kinds.I31 ∷ kinds.Eq ∷ kinds.Any ∷ []
supertypes kinds.Exn = kinds.Exn ∷ []
supertypes kinds.NoExn = kinds.NoExn ∷ kinds.Exn ∷ []
supertypes kinds.Cont = kinds.Cont ∷ []
supertypes kinds.NoCont = kinds.NoCont ∷ kinds.Cont ∷ []
