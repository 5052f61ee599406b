-- What a type's list of supertypes says.
use Rattle.std.proofs.Common.{ℕ, ◌<◌, ◌≤◌, ◌≡◌, arith, Bool, true, false, ◌||◌, List, [], ◌∷◌, refl, subst}
use Rattle.std.specs.List.{list_any}
use denote.Enum.Bare.{same_true}
use Rattle.std.proofs.Common.{rules}
use Rattle.wasm_ref_types.specs.declared.heap.AbstractHeapType.{AbstractHeapType}
use Rattle.wasm_ref_types.specs.declared.heap.AbstractHeapType.TheVariants as kinds
use Rattle.wasm_ref_types.specs.contracts.heap.AbstractHeapType.{the_type}
use Rattle.wasm_ref_types.specs.contracts.heap.AbstractHeapTypePartialEq.TheImpl.{ghosts as abstract_eq}
use Rattle.wasm_ref_types.specs.Subtypes.{IsDirectlyBelow, none_i31, none_struct, none_array, i31_eq, struct_eq, array_eq, eq_any, nofunc_func, noextern_extern, noexn_exn, nocont_cont, IsBelow, itself, above, supertypes}

same : (x y : AbstractHeapType) → abstract_eq.eq x y ≡ true → x ≡ y
same x y e = same_true the_type (search rules) x y e

-- whether a list has a type
abbrev pub has : List AbstractHeapType → AbstractHeapType → Bool
has types wanted = list_any (λ ty. abstract_eq.eq ty wanted) types

-- what all types of a list meet
abbrev Each : (AbstractHeapType → Type 0) → List AbstractHeapType → Type 0
Each P [] = Unit {0}
Each P (ty ∷ types) = P ty × Each P types

all_below : (a : AbstractHeapType) → Each (IsBelow a) (supertypes a)
all_below kinds.Func = (itself kinds.Func, tt)
all_below kinds.Extern = (itself kinds.Extern, tt)
all_below kinds.Any = (itself kinds.Any, tt)
all_below kinds.None = (itself kinds.None, (above _ _ _ none_i31 (itself kinds.I31), (above _ _ _ none_struct (itself kinds.Struct), (above _ _ _ none_array (itself kinds.Array), (above _ _ _ none_i31 (above _ _ _ i31_eq (itself kinds.Eq)), (above _ _ _ none_i31 (above _ _ _ i31_eq (above _ _ _ eq_any (itself kinds.Any))), tt))))))
all_below kinds.NoExtern = (itself kinds.NoExtern, (above _ _ _ noextern_extern (itself kinds.Extern), tt))
all_below kinds.NoFunc = (itself kinds.NoFunc, (above _ _ _ nofunc_func (itself kinds.Func), tt))
all_below kinds.Eq = (itself kinds.Eq, (above _ _ _ eq_any (itself kinds.Any), tt))
all_below kinds.Struct = (itself kinds.Struct, (above _ _ _ struct_eq (itself kinds.Eq), (above _ _ _ struct_eq (above _ _ _ eq_any (itself kinds.Any)), tt)))
all_below kinds.Array = (itself kinds.Array, (above _ _ _ array_eq (itself kinds.Eq), (above _ _ _ array_eq (above _ _ _ eq_any (itself kinds.Any)), tt)))
all_below kinds.I31 = (itself kinds.I31, (above _ _ _ i31_eq (itself kinds.Eq), (above _ _ _ i31_eq (above _ _ _ eq_any (itself kinds.Any)), tt)))
all_below kinds.Exn = (itself kinds.Exn, tt)
all_below kinds.NoExn = (itself kinds.NoExn, (above _ _ _ noexn_exn (itself kinds.Exn), tt))
all_below kinds.Cont = (itself kinds.Cont, tt)
all_below kinds.NoCont = (itself kinds.NoCont, (above _ _ _ nocont_cont (itself kinds.Cont), tt))

first_or : (G : Type 0) (first later : Bool) → (first ≡ true → G) → (later ≡ true → G) → (first || later) ≡ true → G
first_or G true later f g e = f refl
first_or G false later f g e = g e

found : (a b : AbstractHeapType) (types : List AbstractHeapType) → Each (IsBelow a) types → has types b ≡ true → IsBelow a b
found a b [] h e = absurd cc
found a b (ty ∷ types) h e = first_or (IsBelow a b) (abstract_eq.eq ty b) (has types b) (λ is. subst (IsBelow a) (same ty b is) h.0) (λ is. found a b types h.1 is) e

pub sound : (a b : AbstractHeapType) → has (supertypes a) b ≡ true → IsBelow a b
sound a b e = found a b (supertypes a) (all_below a) e

reaches_itself : (a : AbstractHeapType) → has (supertypes a) a ≡ true
reaches_itself kinds.Func = refl
reaches_itself kinds.Extern = refl
reaches_itself kinds.Any = refl
reaches_itself kinds.None = refl
reaches_itself kinds.NoExtern = refl
reaches_itself kinds.NoFunc = refl
reaches_itself kinds.Eq = refl
reaches_itself kinds.Struct = refl
reaches_itself kinds.Array = refl
reaches_itself kinds.I31 = refl
reaches_itself kinds.Exn = refl
reaches_itself kinds.NoExn = refl
reaches_itself kinds.Cont = refl
reaches_itself kinds.NoCont = refl

-- each type of the second list is in the first
abbrev Holds : List AbstractHeapType → List AbstractHeapType → Type 0
Holds types others = Each (λ ty. has types ty ≡ true) others

holds_above : (a b : AbstractHeapType) → IsDirectlyBelow a b → Holds (supertypes a) (supertypes b)
holds_above _ _ none_i31 = (refl, (refl, (refl, tt)))
holds_above _ _ none_struct = (refl, (refl, (refl, tt)))
holds_above _ _ none_array = (refl, (refl, (refl, tt)))
holds_above _ _ i31_eq = (refl, (refl, tt))
holds_above _ _ struct_eq = (refl, (refl, tt))
holds_above _ _ array_eq = (refl, (refl, tt))
holds_above _ _ eq_any = (refl, tt)
holds_above _ _ nofunc_func = (refl, tt)
holds_above _ _ noextern_extern = (refl, tt)
holds_above _ _ noexn_exn = (refl, tt)
holds_above _ _ nocont_cont = (refl, tt)

moves : (types others : List AbstractHeapType) (c : AbstractHeapType) → Holds types others → has others c ≡ true → has types c ≡ true
moves types [] c h e = absurd cc
moves types (ty ∷ others) c h e =
    first_or (has types c ≡ true) (abstract_eq.eq ty c) (has others c)
    (λ is. subst (λ (x : AbstractHeapType). has types x ≡ true) (same ty c is) h.0) (λ is. moves types others c h.1 is) e

pub complete : (a b : AbstractHeapType) → IsBelow a b → has (supertypes a) b ≡ true
complete _ _ (itself a) = reaches_itself a
complete _ _ (above a b c d h) = moves (supertypes a) (supertypes b) c (holds_above a b d) (complete b c h)

-- ---- a partial order

pub transitive : (a b c : AbstractHeapType) → IsBelow a b → IsBelow b c → IsBelow a c
transitive _ _ c (itself a) h = h
transitive _ _ c (above a m b d g) h = above a m c d (transitive m b c g h)

-- how far a type is below the greatest of its hierarchy
abbrev depth : AbstractHeapType → ℕ
depth kinds.Func = 0
depth kinds.Extern = 0
depth kinds.Any = 0
depth kinds.None = 3
depth kinds.NoExtern = 1
depth kinds.NoFunc = 1
depth kinds.Eq = 1
depth kinds.Struct = 2
depth kinds.Array = 2
depth kinds.I31 = 2
depth kinds.Exn = 0
depth kinds.NoExn = 1
depth kinds.Cont = 0
depth kinds.NoCont = 1

deeper : (a b : AbstractHeapType) → IsDirectlyBelow a b → depth b < depth a
deeper _ _ none_i31 = omega arith
deeper _ _ none_struct = omega arith
deeper _ _ none_array = omega arith
deeper _ _ i31_eq = omega arith
deeper _ _ struct_eq = omega arith
deeper _ _ array_eq = omega arith
deeper _ _ eq_any = omega arith
deeper _ _ nofunc_func = omega arith
deeper _ _ noextern_extern = omega arith
deeper _ _ noexn_exn = omega arith
deeper _ _ nocont_cont = omega arith

not_above : (a b : AbstractHeapType) → IsBelow a b → depth b ≤ depth a
not_above _ _ (itself a) = omega arith
not_above _ _ (above a b c d h) = let p = deeper a b d in let q = not_above b c h in omega arith

pub antisymmetric : (a b : AbstractHeapType) → IsBelow a b → IsBelow b a → a ≡ b
antisymmetric _ _ (itself a) h = refl
antisymmetric _ _ (above a b c d g) h = let p = deeper a b d in let q = not_above b c g in let r = not_above c a h in absurd (omega arith)
