-- Lemmas: an item that is where it was has its name.
use Rattle.std.specs.Prelude.{ℕ, zero, suc, ◌≡◌, List, [], ◌∷◌, ◌++◌, IsSome, Option, Some, None, slice_index_or, refl}
use Rattle.std.specs.Option.{option_and_then}
use Rattle.std.proofs.Common.{ap, sym, ◌∙◌, subst}
use Rattle.std.proofs.lemmas.Bool.{false≢true}
use Rattle.wasm_formats.specs.declared.fault.Space.{Space}
use Rattle.wasm_formats.specs.declared.fault.Space.TheVariants as spaces
use Rattle.walrus_arena.specs.Arena.{item_at}
use Rattle.walrus_module.specs.Parts.{Module}
use Rattle.walrus_module_items.specs.declared.data.Data.{Data}
use Rattle.walrus_module_items.specs.declared.element.Element.{Element}
use Rattle.walrus_module_items.specs.declared.function.Function.{Function}
use Rattle.walrus_module_items.specs.declared.global.Global.{Global}
use Rattle.walrus_module_items.specs.declared.memory.Memory.{Memory}
use Rattle.walrus_module_items.specs.declared.table.Table.{Table}
use Rattle.walrus_module_items.specs.declared.tag.Tag.{Tag}
use Rattle.walrus_types.specs.Items.{Item as TypeItem}
use Rattle.walrus_types.specs.Table.{type_at}
use Rattle.walrus_emit_customs.specs.Names.{text}
use Rattle.walrus_customs_laws.specs.Items.{name_in}
use Rattle.walrus_customs_laws.specs.Read.{LivesIn}
use Rattle.walrus_customs_laws.specs.Stays.{DeclaringKeepsNames, PartsKeepNames}

some_in : {T : Type 0} (o : Option T) → IsSome o → (x : T) × (o ≡ Some x)
some_in None some = absurd (false≢true some)
some_in (Some x) some = (x, refl)

module _ {T : Type 0} (called : T → Option (List ℕ)) where
  is_some_so : (o : Option T) (x : T) → o ≡ Some x → IsSome o
  is_some_so o x e = subst IsSome (sym e) refl

  -- of an item that was there before
  stayed : (o p : Option T) → ((x : T) → p ≡ Some x → o ≡ Some x) → IsSome p → IsSome o × (option_and_then called p ≡ option_and_then called o)
  stayed o p only some =
      let x = some_in p some in
      let same : o ≡ p = only x.0 x.1 ∙ sym x.1 in
      (is_some_so o x.0 (only x.0 x.1), ap (option_and_then called) (sym same))

pub parts_keep : PartsKeepNames
parts_keep m pushed n h spaces.«Type» id some = stayed (λ (ty : TypeItem). ty.name) (type_at m.types id) (type_at n.types id) (h.types.only id) some
parts_keep m pushed n h spaces.Function id some = stayed (λ (f : Function). text f.name) (item_at m.funcs id) (item_at n.funcs id) (h.funcs.only id) some
parts_keep m pushed n h spaces.Table id some = stayed (λ (t : Table). text t.name) (item_at m.tables id) (item_at n.tables id) (h.tables.only id) some
parts_keep m pushed n h spaces.Memory id some = stayed (λ (x : Memory). text x.name) (item_at m.memories id) (item_at n.memories id) (h.memories.only id) some
parts_keep m pushed n h spaces.Global id some = stayed (λ (g : Global). text g.name) (item_at m.globals id) (item_at n.globals id) (h.globals.only id) some
parts_keep m pushed n h spaces.Element id some = stayed (λ (e : Element). text e.name) (item_at m.elements id) (item_at n.elements id) (h.elements.only id) some
parts_keep m pushed n h spaces.Data id some = stayed (λ (d : Data). text d.name) (item_at m.data_segments id) (item_at n.data_segments id) (h.data_segments.only id) some
parts_keep m pushed n h spaces.Tag id some = stayed (λ (t : Tag). text t.name) (item_at m.tags id) (item_at n.tags id) (h.tags.only id) some
parts_keep m pushed n h spaces.Local id some = absurd some
parts_keep m pushed n h spaces.Label id some = absurd some

-- ---- a segment behind the others

in_front : {T : Type 0} (xs ys : List (Option T)) (n : ℕ) (x : T) → slice_index_or xs n None ≡ Some x → slice_index_or (xs ++ ys) n None ≡ slice_index_or xs n None
in_front [] ys n x e = absurd cc
in_front (o ∷ xs) ys zero x e = refl
in_front (o ∷ xs) ys (suc n) x e = in_front xs ys n x e

added : (m n : Module) (more : List (Option Element)) → n ≡ record m { elements = n.elements } → n.elements.slots ≡ m.elements.slots ++ more
    → (space : Space) (id : ℕ) → LivesIn m space id → name_in n space id ≡ name_in m space id
added m n more e behind spaces.«Type» id some = ap (λ (k : Module). name_in k spaces.«Type» id) e
added m n more e behind spaces.Function id some = ap (λ (k : Module). name_in k spaces.Function id) e
added m n more e behind spaces.Table id some = ap (λ (k : Module). name_in k spaces.Table id) e
added m n more e behind spaces.Memory id some = ap (λ (k : Module). name_in k spaces.Memory id) e
added m n more e behind spaces.Global id some = ap (λ (k : Module). name_in k spaces.Global id) e
added m n more e behind spaces.Element id some =
    let x = some_in (item_at m.elements id) some in
    ap (option_and_then (λ (e : Element). text e.name)) (ap (λ (l : List (Option Element)). slice_index_or l id None) behind ∙ in_front m.elements.slots more id x.0 x.1)
added m n more e behind spaces.Data id some = ap (λ (k : Module). name_in k spaces.Data id) e
added m n more e behind spaces.Tag id some = ap (λ (k : Module). name_in k spaces.Tag id) e
added m n more e behind spaces.Local id some = refl
added m n more e behind spaces.Label id some = refl

pub declaring_keeps : DeclaringKeepsNames
declaring_keeps [] m n e space id some = ap (λ (k : Module). name_in k space id) e
declaring_keeps (f ∷ functions) m n h space id some = added m n _ h.0 h.1.added space id some
