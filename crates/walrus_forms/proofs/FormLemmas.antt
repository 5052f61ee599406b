-- Equality and order of composite types in code are those of their forms.
use Rattle.std.proofs.Common.{◌≡◌, refl}
use Rattle.walrus_forms.specs.declared.composite.CompositeType.{CompositeType}
use Rattle.walrus_forms.specs.declared.composite.CompositeType.TheVariants.{Function, Struct, Array}
use Rattle.walrus_forms.specs.contracts.composite.CompositeTypePartialEq.TheImpl.{ghosts as composite_eq}
use Rattle.walrus_forms.specs.contracts.composite.CompositeTypeOrd.TheImpl.{ghosts as composite_ord}
use Rattle.walrus_forms.specs.Forms.{form_of}
use Rattle.walrus_forms.specs.Same.{same_form}
use Rattle.walrus_forms.specs.Order.{form_cmp}

pub composite_eq-forms : (a b : CompositeType) → composite_eq.eq a b ≡ same_form (form_of a) (form_of b)
composite_eq-forms (Function a) (Function b) = refl
composite_eq-forms (Function a) (Struct b) = refl
composite_eq-forms (Function a) (Array b) = refl
composite_eq-forms (Struct a) (Function b) = refl
composite_eq-forms (Struct a) (Struct b) = refl
composite_eq-forms (Struct a) (Array b) = refl
composite_eq-forms (Array a) (Function b) = refl
composite_eq-forms (Array a) (Struct b) = refl
composite_eq-forms (Array a) (Array b) = refl

pub composite_ord-forms : (a b : CompositeType) → composite_ord.cmp a b ≡ form_cmp (form_of a) (form_of b)
composite_ord-forms (Function a) (Function b) = refl
composite_ord-forms (Function a) (Struct b) = refl
composite_ord-forms (Function a) (Array b) = refl
composite_ord-forms (Struct a) (Function b) = refl
composite_ord-forms (Struct a) (Struct b) = refl
composite_ord-forms (Struct a) (Array b) = refl
composite_ord-forms (Array a) (Function b) = refl
composite_ord-forms (Array a) (Struct b) = refl
composite_ord-forms (Array a) (Array b) = refl
