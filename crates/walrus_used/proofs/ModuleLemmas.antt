-- What is met of functions and types.
use Rattle.std.proofs.Common.{◌≡◌, ◌∙◌, ◌⊎◌, ℕ, Bool, true, false, List, [], Option, Some, None, Contains, refl, sym, subst, inl, inr, arith}
use Rattle.std.specs.Prelude.{◌↔◌, IsSome}
use Rattle.std.specs.List.{fold}
use Rattle.std.proofs.lemmas.Bool.{false≢true}
use Rattle.wasm_formats.specs.declared.fault.Space.{Space}
use Rattle.wasm_formats.specs.declared.fault.Space.TheVariants as spaces
use Rattle.walrus_arena.specs.Arena.{item_at, IsLive}
use Rattle.walrus_references.specs.walrus_module_items.declared.function.Function.{Function}
use Rattle.walrus_references.specs.walrus_module_items.Functions.{type_of}
use Rattle.walrus_references.specs.walrus_module.Parts.{Module}
use Rattle.walrus_roots.specs.declared.item.Item.{Item}
use Rattle.walrus_roots.specs.Items.{item}
use Rattle.walrus_marks.specs.Marks.{State, meet}
use Rattle.walrus_marks.specs.Chains.{Meets}
use Rattle.walrus_references.specs.References.{KindNames, Named, named_by, type_items, function_items}
use Rattle.walrus_references.specs.walrus_module.Items.{written_type}
use Rattle.walrus_used.specs.Looks.{Looks, LooksIn, LooksInGroup}
use Rattle.walrus_used.proofs.MeetsLemmas.{meets_list, meets_none, meets_same, meets_then}

module _ (m : Module) (id : ℕ) where
  pub type_meets : (a b c : State) → b ≡ fold meet a (named_by type_items (written_type m.types id)) → Meets (LooksInGroup m.types id) b c → Meets (LooksIn m [] spaces.Type id) a c
  type_meets a b c own group =
      meets_then (λ y. Contains (named_by type_items (written_type m.types id)) y) (LooksInGroup m.types id) a b c (meets_list (named_by type_items (written_type m.types id)) a b own) group

  abbrev Own : Option Function → Item → Type 0
  Own o y = Contains (named_by function_items o) y ⊎ Named o (λ f. KindNames f.kind y)

  pub function_meets : (f : Function) (a b c : State) → item_at m.funcs id ≡ Some f → b ≡ meet a (item spaces.Type (type_of f.kind)) → Meets (KindNames f.kind) b c → Meets (LooksIn m [] spaces.Function id) a c
  function_meets f a b c at ty body =
      meets_same (Own (Some f)) (Own (item_at m.funcs id)) a c (λ y. (λ h. subst (λ o. Own o y) (sym at) h, λ h. subst (λ o. Own o y) at h))
      (meets_then (λ y. Contains (function_items f) y) (KindNames f.kind) a b c (meets_list (function_items f) a b ty) body)

  none_own : (o : Option Function) (y : Item) → (IsSome o → ⊥) → Own o y → ⊥
  none_own None y dead (inl c) = omega (arith, c.1)
  none_own None y dead (inr h) = h
  none_own (Some f) y dead h = dead refl

  pub function_dead : (a : State) → (IsLive m.funcs id → ⊥) → Meets (LooksIn m [] spaces.Function id) a a
  function_dead a dead = meets_none (Own (item_at m.funcs id)) a a (λ y h. none_own (item_at m.funcs id) y dead h) refl

-- a test that fails
pub not_live : {P : Type 0} (r : Bool) → (r ≡ true) ↔ P → r ≡ false → P → ⊥
not_live r is failed p = false≢true (sym failed ∙ is.1 p)

-- an item of the space of types
pub at_type : (m : Module) (active : List (List Item)) (x : Item) (id : ℕ) (a c : State) → x.space ≡ spaces.Type → id ≡ x.id → Meets (LooksIn m [] spaces.Type id) a c → Meets (Looks m active x) a c
at_type m active x id a c space same met =
    subst (λ (s : Space). Meets (LooksIn m active s x.id) a c) (sym space) (subst (λ (k : ℕ). Meets (LooksIn m active spaces.Type k) a c) same met)
