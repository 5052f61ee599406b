-- A function of the module's own: what was linked stays so.
use Rattle.std.proofs.Common.{◌≡◌, ℕ, [], ◌∷◌, ◌++◌, Option, Some, None, Contains, refl, sym, subst, inl, inr}
use Rattle.walrus_arena.specs.Arena.{Arena, item_at}
use Rattle.walrus_linked.specs.walrus_module_items.declared.function.Function.{Function}
use Rattle.wasm_formats.specs.declared.fault.Space.{Space}
use Rattle.wasm_formats.specs.declared.fault.Space.TheVariants as spaces
use Rattle.walrus_linked.specs.walrus_module.Parts.{Module}
use Rattle.walrus_roots.specs.declared.item.Item.{Item}
use Rattle.walrus_marks.specs.Named.{items_of}
use Rattle.walrus_linked.specs.walrus_module.Items.{Lives}
use Rattle.walrus_linked.specs.Names.{named_by, function_names}
use Rattle.walrus_linked.specs.Linked.{IsLinked, IsWhole, function_import}
use Rattle.walrus_linked.proofs.SlotLemmas.{pushed_at}
use Rattle.walrus_linked.proofs.PushLemmas.{says_kept, live_kept}
use Rattle.walrus_module_laws.proofs.PushLemmas.{says_at, named_at, or_new}
use Rattle.walrus_module_laws.proofs.ChangeLemmas.{InSpace, after_change}

abbrev says : Function → Option ℕ
says x = function_import x.kind

module _ (m : Module) (xs : Arena Function) (x0 : Function) (adds : xs.slots ≡ m.funcs.slots ++ Some x0 ∷ []) (own : says x0 ≡ None) where
  abbrev n : Module
  n = record m { funcs = xs }

  pub in_space : ((y : Item) → Contains (items_of (function_names m.locals x0)) y → Lives n y) → (s : Space) → InSpace m n s
  in_space new spaces.Type = record { import_kept = λ id i h. h; import_at = λ id i h. h; lives_kept = λ id h. h; named = λ id h y has. inl (h, has) }
  in_space new spaces.Function = record {
    import_kept = says_kept m.funcs xs x0 adds says;
    import_at = says_at m.funcs xs x0 adds says own;
    lives_kept = live_kept m.funcs xs x0 adds;
    named = λ id h y has. or_new (named_at m.funcs xs x0 adds (λ (o : Option Function). Contains (items_of (named_by (function_names m.locals) o)) y) id h has) (new y);
  }
  in_space new spaces.Table = record { import_kept = λ id i h. h; import_at = λ id i h. h; lives_kept = λ id h. h; named = λ id h y has. inl (h, has) }
  in_space new spaces.Memory = record { import_kept = λ id i h. h; import_at = λ id i h. h; lives_kept = λ id h. h; named = λ id h y has. inl (h, has) }
  in_space new spaces.Tag = record { import_kept = λ id i h. h; import_at = λ id i h. h; lives_kept = λ id h. h; named = λ id h y has. inl (h, has) }
  in_space new spaces.Global = record { import_kept = λ id i h. h; import_at = λ id i h. h; lives_kept = λ id h. h; named = λ id h y has. inl (h, has) }
  in_space new spaces.Element = record { import_kept = λ id i h. h; import_at = λ id i h. h; lives_kept = λ id h. h; named = λ id h y has. inl (h, has) }
  in_space new spaces.Data = record { import_kept = λ id i h. h; import_at = λ id i h. h; lives_kept = λ id h. h; named = λ id h y has. inl (h, has) }
  in_space new spaces.Local = record { import_kept = λ id i h. h; import_at = λ id i h. h; lives_kept = λ id h. h; named = λ id h y has. inl (h, has) }
  in_space new spaces.Label = record { import_kept = λ id i h. h; import_at = λ id i h. h; lives_kept = λ id h. h; named = λ id h y has. inl (h, has) }

  whole : ((f : ℕ) (function : Function) → item_at m.funcs f ≡ Some function → IsWhole m.types function.kind) → IsWhole m.types x0.kind
      → (f : ℕ) (function : Function) → item_at xs f ≡ Some function → IsWhole m.types function.kind
  whole l is f function h = elim (pushed_at m.funcs xs x0 adds function f h) as (λ _. IsWhole m.types function.kind) [
    | inl k ↦ l f function k
    | inr k ↦ let W : Function → Type 0 = λ g. IsWhole m.types g.kind in subst W (sym k.1) is
  ]

  pub function_added : IsWhole m.types x0.kind → ((y : Item) → Contains (items_of (function_names m.locals x0)) y → Lives n y) → IsLinked m → IsLinked n
  function_added is new l =
      after_change m n (record { imports_same = refl; spaces = in_space new; whole = whole l.whole is; exported = λ e export at. inl at; start_same = refl; grouped = l.grouped }) l
