-- What is added of an item is what it refers to.
use Rattle.std.proofs.Common.{◌≡◌, ◌⊎◌, ◌++◌, ℕ, List, [], ◌∷◌, Option, Some, None, Contains, refl, sym, subst, inl, inr}
use Rattle.std.specs.Prelude.{IsSome}
use Rattle.wasm_formats.specs.declared.fault.Space.{Space}
use Rattle.wasm_formats.specs.declared.fault.Space.TheVariants as spaces
use Rattle.walrus_arena.specs.Arena.{item_at, IsLive}
use Rattle.walrus_used.specs.walrus_module_items.declared.function.Function.{Function}
use Rattle.walrus_used.specs.walrus_module_items.Functions.{type_of}
use Rattle.walrus_used.specs.walrus_module.Parts.{Module}
use Rattle.walrus_used.specs.walrus_references.References.{KindNames, Named, Refers, RefersIn, function_items, named_by}
use Rattle.walrus_roots.specs.declared.item.Item.{Item}
use Rattle.walrus_roots.specs.Items.{item}
use Rattle.walrus_reasons.specs.Added.{Adds}
use Rattle.walrus_reasons.specs.Segments.{listed_for_memory, listed_for_table}
use Rattle.walrus_reasons.proofs.AddedLemmas.{adds_list, adds_none, adds_same, adds_then, none_in}
use Rattle.walrus_reasons.proofs.SegmentLemmas.{memory_is, table_is}

module _ (m : Module) (id : ℕ) where
  abbrev Own : Option Function → Item → Type 0
  Own o y = Contains (named_by function_items o) y ⊎ Named o (λ f. KindNames f.kind y)

  pub function_adds : (f : Function) (a b c : List Item) → item_at m.funcs id ≡ Some f → b ≡ a ++ item spaces.Type (type_of f.kind) ∷ [] → Adds (KindNames f.kind) b c → Adds (RefersIn m spaces.Function id) a c
  function_adds f a b c at ty body =
      adds_same (Own (Some f)) (Own (item_at m.funcs id)) a c (λ y. (λ h. subst (λ o. Own o y) (sym at) h, λ h. subst (λ o. Own o y) at h))
      (adds_then (λ y. Contains (function_items f) y) (KindNames f.kind) a b c (adds_list (function_items f) a b ty) body)

  none_own : (o : Option Function) (y : Item) → (IsSome o → ⊥) → Own o y → ⊥
  none_own None y dead (inl c) = none_in y c
  none_own None y dead (inr h) = h
  none_own (Some f) y dead h = dead refl

  pub function_dead : (a : List Item) → (IsLive m.funcs id → ⊥) → Adds (RefersIn m spaces.Function id) a a
  function_dead a dead = adds_none (Own (item_at m.funcs id)) a a (λ y h. none_own (item_at m.funcs id) y dead h) refl

-- an item of a space
pub in_space : (m : Module) (x : Item) (s : Space) (a b : List Item) → x.space ≡ s → Adds (RefersIn m s x.id) a b → Adds (Refers m x) a b
in_space m x s a b is h = subst (λ (s : Space). Adds (RefersIn m s x.id) a b) (sym is) h

module _ (m : Module) (id : ℕ) (a b : List Item) where
  pub table_adds : b ≡ a ++ named_by (listed_for_table m id) (item_at m.tables id) → Adds (RefersIn m spaces.Table id) a b
  table_adds added = adds_same (λ y. Contains (named_by (listed_for_table m id) (item_at m.tables id)) y) (RefersIn m spaces.Table id) a b (table_is m id) (adds_list (named_by (listed_for_table m id) (item_at m.tables id)) a b added)

  pub memory_adds : b ≡ a ++ named_by (listed_for_memory m id) (item_at m.memories id) → Adds (RefersIn m spaces.Memory id) a b
  memory_adds added = adds_same (λ y. Contains (named_by (listed_for_memory m id) (item_at m.memories id)) y) (RefersIn m spaces.Memory id) a b (memory_is m id) (adds_list (named_by (listed_for_memory m id) (item_at m.memories id)) a b added)

  pub label_adds : b ≡ a → Adds (RefersIn m spaces.Label id) a b
  label_adds same = adds_none (RefersIn m spaces.Label id) a b (λ y h. h) same
