-- Types are equal exactly where they are one.
use Rattle.std.proofs.Common.{◌≡◌, ◌&&◌, Bool, true, List, Option, Some, None, refl, ap, ◌∙◌}
use Rattle.std.specs.Bool.{beq}
use Rattle.std.specs.Option.{option_eq}
use Rattle.std.specs.Cmp.Lexicographic.{pointwise}
use Rattle.std.proofs.lemmas.Bool.{and_parts}
use Rattle.wasm_composite_types.specs.wasm_ref_types.declared.index.UnpackedIndex.{UnpackedIndex}
use Rattle.wasm_composite_types.specs.wasm_ref_types.Indices.{index_eq}
use Rattle.wasm_composite_types.proofs.wasm_ref_types.Same.{index-same}
use Rattle.wasm_composite_types.specs.declared.form.CompositeType.{CompositeType}
use Rattle.wasm_types.specs.declared.subtype.SubType.{SubType}
use Rattle.wasm_composite_types.specs.contracts.form.CompositeInnerTypePartialEq.TheImpl.{ghosts as form_eq}
use Rattle.wasm_types.specs.contracts.subtype.SubTypePartialEq.TheImpl.{ghosts as sub_eq}
use Rattle.wasm_composite_types.proofs.Equal.{bool_same, items_same, composite_same}

option_same : (a b : Option UnpackedIndex) → option_eq index_eq a b ≡ true → a ≡ b
option_same None None e = refl
option_same None (Some b) e = absurd cc
option_same (Some a) None e = absurd cc
option_same (Some a) (Some b) e = ap Some (index-same a b e)

make_sub : Bool → Option UnpackedIndex → CompositeType → SubType
make_sub final supertype composite = record { is_final = final; supertype_idx = supertype; composite_type = composite }

pub sub_same : (a b : SubType) → sub_eq.eq a b ≡ true → a ≡ b
unfolding make_sub
sub_same a b e =
    let parts = and_parts (beq a.is_final b.is_final) (option_eq index_eq a.supertype_idx b.supertype_idx && (form_eq.eq a.composite_type.inner b.composite_type.inner && beq a.composite_type.shared b.composite_type.shared)) e in
    let later = and_parts (option_eq index_eq a.supertype_idx b.supertype_idx) (form_eq.eq a.composite_type.inner b.composite_type.inner && beq a.composite_type.shared b.composite_type.shared) parts.1 in
    ap (λ (f : Bool). make_sub f a.supertype_idx a.composite_type) (bool_same a.is_final b.is_final parts.0)
    ∙ ap (λ (s : Option UnpackedIndex). make_sub b.is_final s a.composite_type) (option_same a.supertype_idx b.supertype_idx later.0)
    ∙ ap (λ (c : CompositeType). make_sub b.is_final b.supertype_idx c) (composite_same a.composite_type b.composite_type later.1)

-- equal lists of types are one
pub types_same : (xs ys : List SubType) → pointwise sub_eq.eq xs ys ≡ true → xs ≡ ys
types_same = items_same sub_eq.eq sub_same
