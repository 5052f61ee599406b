-- A table of the module's own: what was linked stays so.
use Rattle.std.proofs.Common.{◌≡◌, ℕ, [], ◌∷◌, ◌++◌, Option, Some, None, Contains, refl, inl}
use Rattle.walrus_arena.specs.Arena.{Arena}
use Rattle.walrus_linked.specs.walrus_module_items.declared.table.Table.{Table}
use Rattle.wasm_formats.specs.declared.fault.Space.{Space}
use Rattle.wasm_formats.specs.declared.fault.Space.TheVariants as spaces
use Rattle.walrus_linked.specs.walrus_module.Parts.{Module}
use Rattle.walrus_roots.specs.declared.item.Item.{Item}
use Rattle.walrus_marks.specs.Named.{items_of}
use Rattle.walrus_linked.specs.walrus_module.Items.{Lives}
use Rattle.walrus_linked.specs.Names.{named_by, table_names}
use Rattle.walrus_linked.specs.Linked.{IsLinked}
use Rattle.walrus_linked.proofs.PushLemmas.{says_kept, live_kept}
use Rattle.walrus_module_laws.proofs.PushLemmas.{says_at, named_at, or_new}
use Rattle.walrus_module_laws.proofs.ChangeLemmas.{InSpace, after_change}

abbrev says : Table → Option ℕ
says x = x.import

module _ (m : Module) (xs : Arena Table) (x0 : Table) (adds : xs.slots ≡ m.tables.slots ++ Some x0 ∷ []) (own : says x0 ≡ None) where
  abbrev n : Module
  n = record m { tables = xs }

  pub in_space : ((y : Item) → Contains (items_of (table_names x0)) y → Lives n y) → (s : Space) → InSpace m n s
  in_space new spaces.Type = record { import_kept = λ id i h. h; import_at = λ id i h. h; lives_kept = λ id h. h; named = λ id h y has. inl (h, has) }
  in_space new spaces.Function = record { import_kept = λ id i h. h; import_at = λ id i h. h; lives_kept = λ id h. h; named = λ id h y has. inl (h, has) }
  in_space new spaces.Table = record {
    import_kept = says_kept m.tables xs x0 adds says;
    import_at = says_at m.tables xs x0 adds says own;
    lives_kept = live_kept m.tables xs x0 adds;
    named = λ id h y has. or_new (named_at m.tables xs x0 adds (λ (o : Option Table). Contains (items_of (named_by table_names o)) y) id h has) (new y);
  }
  in_space new spaces.Memory = record { import_kept = λ id i h. h; import_at = λ id i h. h; lives_kept = λ id h. h; named = λ id h y has. inl (h, has) }
  in_space new spaces.Tag = record { import_kept = λ id i h. h; import_at = λ id i h. h; lives_kept = λ id h. h; named = λ id h y has. inl (h, has) }
  in_space new spaces.Global = record { import_kept = λ id i h. h; import_at = λ id i h. h; lives_kept = λ id h. h; named = λ id h y has. inl (h, has) }
  in_space new spaces.Element = record { import_kept = λ id i h. h; import_at = λ id i h. h; lives_kept = λ id h. h; named = λ id h y has. inl (h, has) }
  in_space new spaces.Data = record { import_kept = λ id i h. h; import_at = λ id i h. h; lives_kept = λ id h. h; named = λ id h y has. inl (h, has) }
  in_space new spaces.Local = record { import_kept = λ id i h. h; import_at = λ id i h. h; lives_kept = λ id h. h; named = λ id h y has. inl (h, has) }
  in_space new spaces.Label = record { import_kept = λ id i h. h; import_at = λ id i h. h; lives_kept = λ id h. h; named = λ id h y has. inl (h, has) }

  pub table_added : ((y : Item) → Contains (items_of (table_names x0)) y → Lives n y) → IsLinked m → IsLinked n
  table_added new l =
      after_change m n (record { imports_same = refl; spaces = in_space new; whole = l.whole; exported = λ e export at. inl at; start_same = refl; grouped = l.grouped }) l
