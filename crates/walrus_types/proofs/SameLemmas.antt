-- Equality of types in code is equality of their kinds.
use Rattle.std.proofs.Common.{◌≡◌, ℕ, Bool, refl, ap, ◌∙◌, Option, Some, None, ◌&&◌, nat_eq}
use Rattle.std.specs.Bool.{beq}
use Rattle.std.specs.Option.{option_eq}
use Rattle.std.proofs.Math.Bool.{and-true}
use Rattle.walrus_type_arenas.specs.walrus_type_index.walrus_items.declared.subtype.Type.{«Type» as TypeItem}
use Rattle.walrus_type_arenas.specs.walrus_type_index.walrus_items.contracts.subtype.TypePartialEq.TheImpl.{ghosts as type_eq}
use Rattle.walrus_type_arenas.proofs.walrus_type_index.walrus_forms.FormLemmas.{composite_eq-forms}
use Rattle.walrus_type_arenas.specs.walrus_type_index.walrus_items.walrus_arena.contracts.id.IdPartialEq.TheImpl as id_impl
use Rattle.walrus_type_arenas.specs.walrus_type_index.walrus_items.walrus_arena.contracts.id.TypeSpace.{the_row as type_space}
use Rattle.walrus_type_arenas.specs.walrus_type_index.walrus_items.walrus_forms.Forms.{form_of}
use Rattle.walrus_type_arenas.specs.walrus_type_index.walrus_items.Items.{kind_of}
use Rattle.walrus_type_arenas.specs.walrus_type_index.walrus_items.walrus_forms.Same.{same_form, same_kind}

id_eq-nat : (x y : ℕ) → (id_impl.eq-value type_space).it x y ≡ nat_eq x y
id_eq-nat x y = and-true (nat_eq x y)

option_eq-ids : (a b : Option ℕ) → option_eq (id_impl.eq-value type_space).it a b ≡ option_eq nat_eq a b
option_eq-ids None None = refl
option_eq-ids None (Some y) = refl
option_eq-ids (Some x) None = refl
option_eq-ids (Some x) (Some y) = id_eq-nat x y

pub type_eq-kinds : (a b : TypeItem) → type_eq.eq a b ≡ same_kind (kind_of a) (kind_of b)
type_eq-kinds a b =
    ap (λ (t : Bool). t && (beq a.is_final b.is_final && (option_eq (id_impl.eq-value type_space).it a.supertype b.supertype && beq a.entry b.entry))) (composite_eq-forms a.kind b.kind)
    ∙ ap (λ (t : Bool). same_form (form_of a.kind) (form_of b.kind) && (beq a.is_final b.is_final && (t && beq a.entry b.entry))) (option_eq-ids a.supertype b.supertype)
