-- A call at each index that a type names, in the order of its bytes, up to the first that is refused. What a call that is not
-- refused leaves stands in the index's place; nothing else changes.
use Rattle.std.specs.Prelude.{◌≡◌, Option, Some, None, Result}
use Rattle.wasm_composite_types.specs.wasm_ref_types.declared.index.UnpackedIndex.{UnpackedIndex}
use Rattle.wasm_types.specs.declared.subtype.SubType.{SubType}
use Rattle.wasm_composite_types.specs.Remap.{Keeps, VisitsIndex, VisitsBoth, VisitsEach, VisitsForm}
use Rattle.wasm_types.specs.Groups.{Group}

-- `call f i r g j`: a call in the state f at the index i may answer r, and leave the state g and the index j
module _ {F E : Type 0} (call : F → UnpackedIndex → Result (Unit {0}) E → F → UnpackedIndex → Type 0) where
  abbrev pub VisitsSupertype : F → Option UnpackedIndex → Result (Unit {0}) E → F → Option UnpackedIndex → Type 0
  VisitsSupertype f None r g new = Keeps call f None r g new
  VisitsSupertype f (Some i) r g new = (j : UnpackedIndex) × VisitsIndex call f i r g j × (new ≡ Some j)

  -- the supertype first, then the form
  abbrev pub VisitsSub : F → SubType → Result (Unit {0}) E → F → SubType → Type 0
  VisitsSub f ty r g new =
      VisitsBoth call VisitsSupertype (VisitsForm call) f ty.supertype_idx ty.composite_type.inner r g new.supertype_idx new.composite_type.inner
      × (new.is_final ≡ ty.is_final) × (new.composite_type.shared ≡ ty.composite_type.shared)

  abbrev pub VisitsGroup : F → Group → Result (Unit {0}) E → F → Group → Type 0
  VisitsGroup f group r g new = VisitsEach call VisitsSub f group.types r g new.types × (new.explicit ≡ group.explicit) × (new.offsets ≡ group.offsets)
