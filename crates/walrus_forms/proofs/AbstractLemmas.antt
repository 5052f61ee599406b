-- Equality of abstract heap types.
use Rattle.std.proofs.Common.{◌≡◌, true, refl, rules}
use denote.Enum.Bare.{same_true}
use Rattle.walrus_forms.specs.declared.value.AbstractHeapType.{AbstractHeapType}
use Rattle.walrus_forms.specs.declared.value.AbstractHeapType.TheVariants.{Func, Extern, Any, None, NoExtern, NoFunc, Eq, Struct, Array, I31, Exn, NoExn}
use Rattle.walrus_forms.specs.contracts.value.AbstractHeapType.{the_type}
use Rattle.walrus_forms.specs.contracts.value.AbstractHeapTypePartialEq.TheImpl.{ghosts as abstract_eq}

pub abstract-same : (x y : AbstractHeapType) → abstract_eq.eq x y ≡ true → x ≡ y
abstract-same x y e = same_true the_type (search rules) x y e

pub abstract-itself : (x : AbstractHeapType) → abstract_eq.eq x x ≡ true
abstract-itself Func = refl
abstract-itself Extern = refl
abstract-itself Any = refl
abstract-itself None = refl
abstract-itself NoExtern = refl
abstract-itself NoFunc = refl
abstract-itself Eq = refl
abstract-itself Struct = refl
abstract-itself Array = refl
abstract-itself I31 = refl
abstract-itself Exn = refl
abstract-itself NoExn = refl
