-- The order of types in code is the order of their kinds.
use Rattle.std.proofs.Common.{◌≡◌, ◌∙◌, ℕ, Option, Some, None, refl, ap}
use Rattle.std.specs.declared.cmp.Ordering.{Ordering}
use Rattle.std.specs.declared.cmp.Ordering.TheVariants.{Less, Equal, Greater}
use Rattle.std.specs.Ordering.{ordering_then, bool_cmp, nat_cmp}
use Rattle.std.specs.Option.{option_cmp}
use Rattle.walrus_items.specs.walrus_arena.contracts.id.IdOrd.TheImpl as id_impl
use Rattle.walrus_items.specs.walrus_arena.contracts.id.TypeSpace.{the_row as type_space}
use Rattle.walrus_items.specs.declared.subtype.Type.{«Type» as TypeItem}
use Rattle.walrus_items.specs.contracts.subtype.TypeOrd.TheImpl.{ghosts as type_ord}
use Rattle.walrus_items.proofs.walrus_forms.FormLemmas.{composite_ord-forms}
use Rattle.walrus_items.specs.walrus_forms.Forms.{form_of}
use Rattle.walrus_items.specs.Items.{kind_of}
use Rattle.walrus_items.specs.walrus_forms.Order.{form_cmp, kind_cmp}

then-equal : (o : Ordering) → ordering_then o Equal ≡ o
then-equal Less = refl
then-equal Equal = refl
then-equal Greater = refl

id_cmp-nat : (x y : ℕ) → (id_impl.cmp-value type_space).it x y ≡ nat_cmp x y
id_cmp-nat x y = then-equal (nat_cmp x y)

option_cmp-ids : (a b : Option ℕ) → option_cmp (id_impl.cmp-value type_space).it a b ≡ option_cmp nat_cmp a b
option_cmp-ids None None = refl
option_cmp-ids None (Some y) = refl
option_cmp-ids (Some x) None = refl
option_cmp-ids (Some x) (Some y) = id_cmp-nat x y

pub type_ord-kinds : (a b : TypeItem) → type_ord.cmp a b ≡ kind_cmp (kind_of a) (kind_of b)
type_ord-kinds a b =
    ap (λ (o : Ordering). ordering_then o (ordering_then (bool_cmp a.is_final b.is_final)
    (ordering_then (option_cmp (id_impl.cmp-value type_space).it a.supertype b.supertype) (bool_cmp a.entry b.entry)))) (composite_ord-forms a.kind b.kind)
    ∙ ap (λ (o : Ordering). ordering_then (form_cmp (form_of a.kind) (form_of b.kind)) (ordering_then (bool_cmp a.is_final b.is_final)
    (ordering_then o (bool_cmp a.entry b.entry)))) (option_cmp-ids a.supertype b.supertype)
