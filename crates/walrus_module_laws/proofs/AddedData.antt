-- A data segment of the module's own: what was linked stays so.
use Rattle.std.proofs.Common.{◌≡◌, List, [], ◌∷◌, ◌++◌, Option, Some, Contains, refl, inl}
use Rattle.walrus_arena.specs.Arena.{Arena}
use Rattle.walrus_walks.specs.Events.{Event}
use Rattle.walrus_linked.specs.walrus_module_items.declared.data.Data.{Data}
use Rattle.wasm_formats.specs.declared.fault.Space.{Space}
use Rattle.wasm_formats.specs.declared.fault.Space.TheVariants as spaces
use Rattle.walrus_linked.specs.walrus_module.Parts.{Module}
use Rattle.walrus_roots.specs.declared.item.Item.{Item}
use Rattle.walrus_marks.specs.Named.{items_of}
use Rattle.walrus_linked.specs.walrus_module.Items.{Lives}
use Rattle.walrus_linked.specs.Names.{named_by, data_kind_names}
use Rattle.walrus_linked.specs.Linked.{IsLinked}
use Rattle.walrus_linked.proofs.PushLemmas.{live_kept}
use Rattle.walrus_module_laws.proofs.PushLemmas.{named_at, or_new}
use Rattle.walrus_module_laws.proofs.ChangeLemmas.{InSpace, after_change}

abbrev data_names : Data → List Event
data_names d = data_kind_names d.kind

module _ (m : Module) (xs : Arena Data) (x0 : Data) (adds : xs.slots ≡ m.data_segments.slots ++ Some x0 ∷ []) where
  abbrev n : Module
  n = record m { data_segments = xs }

  pub in_space : ((y : Item) → Contains (items_of (data_names x0)) y → Lives n y) → (s : Space) → InSpace m n s
  in_space new spaces.Type = record { import_kept = λ id i h. h; import_at = λ id i h. h; lives_kept = λ id h. h; named = λ id h y has. inl (h, has) }
  in_space new spaces.Function = record { import_kept = λ id i h. h; import_at = λ id i h. h; lives_kept = λ id h. h; named = λ id h y has. inl (h, has) }
  in_space new spaces.Table = record { import_kept = λ id i h. h; import_at = λ id i h. h; lives_kept = λ id h. h; named = λ id h y has. inl (h, has) }
  in_space new spaces.Memory = record { import_kept = λ id i h. h; import_at = λ id i h. h; lives_kept = λ id h. h; named = λ id h y has. inl (h, has) }
  in_space new spaces.Tag = record { import_kept = λ id i h. h; import_at = λ id i h. h; lives_kept = λ id h. h; named = λ id h y has. inl (h, has) }
  in_space new spaces.Global = record { import_kept = λ id i h. h; import_at = λ id i h. h; lives_kept = λ id h. h; named = λ id h y has. inl (h, has) }
  in_space new spaces.Element = record { import_kept = λ id i h. h; import_at = λ id i h. h; lives_kept = λ id h. h; named = λ id h y has. inl (h, has) }
  in_space new spaces.Data = record {
    import_kept = λ id i h. h;
    import_at = λ id i h. h;
    lives_kept = live_kept m.data_segments xs x0 adds;
    named = λ id h y has. or_new (named_at m.data_segments xs x0 adds (λ (o : Option Data). Contains (items_of (named_by data_names o)) y) id h has) (new y);
  }
  in_space new spaces.Local = record { import_kept = λ id i h. h; import_at = λ id i h. h; lives_kept = λ id h. h; named = λ id h y has. inl (h, has) }
  in_space new spaces.Label = record { import_kept = λ id i h. h; import_at = λ id i h. h; lives_kept = λ id h. h; named = λ id h y has. inl (h, has) }

  pub data_added : ((y : Item) → Contains (items_of (data_names x0)) y → Lives n y) → IsLinked m → IsLinked n
  data_added new l =
      after_change m n (record { imports_same = refl; spaces = in_space new; whole = l.whole; exported = λ e export at. inl at; start_same = refl; grouped = l.grouped }) l
