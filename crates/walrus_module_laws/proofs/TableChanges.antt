-- A table that is deleted or written: what was linked stays so.
use Rattle.std.proofs.Common.{◌≡◌, ◌∙◌, ℕ, Option, Some, None, Contains, slice_set, refl, sym, ap, inl, arith}
use Rattle.walrus_arena.specs.Arena.{Arena, item_at}
use Rattle.walrus_linked.specs.walrus_module_items.declared.table.Table.{Table}
use Rattle.wasm_formats.specs.declared.fault.Space.{Space}
use Rattle.wasm_formats.specs.declared.fault.Space.TheVariants as spaces
use Rattle.walrus_linked.specs.walrus_module.Parts.{Module}
use Rattle.walrus_roots.specs.declared.item.Item.{Item}
use Rattle.walrus_roots.specs.Items.{item}
use Rattle.walrus_marks.specs.Named.{items_of}
use Rattle.walrus_linked.specs.walrus_module.Items.{Lives}
use Rattle.walrus_linked.specs.Names.{named_by, table_names}
use Rattle.walrus_linked.specs.Linked.{IsLinked}
use Rattle.walrus_module_laws.proofs.PushLemmas.{or_new}
use Rattle.walrus_module_laws.proofs.ChangeLemmas.{InSpace, after_change}
use Rattle.walrus_module_laws.specs.Changes.{IsUnnamed}
use Rattle.walrus_module_laws.proofs.SlotLemmas.{says_at, says_kept, live_at, live_kept, holds_at, says_same, set_live, set_holds}
use Rattle.walrus_module_laws.proofs.DropLemmas.{InDrop, apart, after_drop}

abbrev says : Table → Option ℕ
says = λ (x : Table). x.import

module _ (m : Module) (xs : Arena Table) (k : ℕ) (is : xs.slots ≡ slice_set m.tables.slots k None) where
  abbrev left : Module
  left = record m { tables = xs }

  left_in : (s : Space) → InDrop m left (λ x. x ≡ item spaces.Table k) s
  left_in spaces.Type = record { import_at = λ id i h. h; import_kept = λ id i other h. h; lives_at = λ id h. (h, apart spaces.Type spaces.Table (λ e. absurd (omega (arith, e))) id k); lives_kept = λ id other h. h; named = λ id h y has. has }
  left_in spaces.Function = record { import_at = λ id i h. h; import_kept = λ id i other h. h; lives_at = λ id h. (h, apart spaces.Function spaces.Table (λ e. absurd (omega (arith, e))) id k); lives_kept = λ id other h. h; named = λ id h y has. has }
  left_in spaces.Table = record {
    import_at = says_at m.tables.slots xs.slots k is says;
    import_kept = λ id i other h. says_kept m.tables.slots xs.slots k is says id i (λ e. other (ap (item spaces.Table) e)) h;
    lives_at = λ id h. let a = live_at m.tables.slots xs.slots k is id h in (a.0, λ e. a.1 (ap (λ (x : Item). x.id) e));
    lives_kept = λ id other h. live_kept m.tables.slots xs.slots k is id (λ e. other (ap (item spaces.Table) e)) h;
    named = λ id h y has. holds_at m.tables.slots xs.slots k is (λ (o : Option Table). Contains (items_of (named_by (table_names) o)) y) id h has;
  }
  left_in spaces.Memory = record { import_at = λ id i h. h; import_kept = λ id i other h. h; lives_at = λ id h. (h, apart spaces.Memory spaces.Table (λ e. absurd (omega (arith, e))) id k); lives_kept = λ id other h. h; named = λ id h y has. has }
  left_in spaces.Tag = record { import_at = λ id i h. h; import_kept = λ id i other h. h; lives_at = λ id h. (h, apart spaces.Tag spaces.Table (λ e. absurd (omega (arith, e))) id k); lives_kept = λ id other h. h; named = λ id h y has. has }
  left_in spaces.Global = record { import_at = λ id i h. h; import_kept = λ id i other h. h; lives_at = λ id h. (h, apart spaces.Global spaces.Table (λ e. absurd (omega (arith, e))) id k); lives_kept = λ id other h. h; named = λ id h y has. has }
  left_in spaces.Element = record { import_at = λ id i h. h; import_kept = λ id i other h. h; lives_at = λ id h. (h, apart spaces.Element spaces.Table (λ e. absurd (omega (arith, e))) id k); lives_kept = λ id other h. h; named = λ id h y has. has }
  left_in spaces.Data = record { import_at = λ id i h. h; import_kept = λ id i other h. h; lives_at = λ id h. (h, apart spaces.Data spaces.Table (λ e. absurd (omega (arith, e))) id k); lives_kept = λ id other h. h; named = λ id h y has. has }
  left_in spaces.Local = record { import_at = λ id i h. h; import_kept = λ id i other h. h; lives_at = λ id h. (h, apart spaces.Local spaces.Table (λ e. absurd (omega (arith, e))) id k); lives_kept = λ id other h. h; named = λ id h y has. has }
  left_in spaces.Label = record { import_at = λ id i h. h; import_kept = λ id i other h. h; lives_at = λ id h. (h, apart spaces.Label spaces.Table (λ e. absurd (omega (arith, e))) id k); lives_kept = λ id other h. h; named = λ id h y has. has }

  pub deleted : IsUnnamed m (item spaces.Table k) → IsLinked m → IsLinked left
  deleted none l = after_drop m left (λ x. x ≡ item spaces.Table k) (record { imports_same = refl; exports_same = refl; start_same = refl; spaces = left_in; grouped = l.grouped; whole = l.whole }) none l

module _ (m : Module) (xs : Arena Table) (k : ℕ) (old new : Table) (at : item_at m.tables k ≡ Some old) (is : xs.slots ≡ slice_set m.tables.slots k (Some new)) (same : says new ≡ says old) where
  abbrev n : Module
  n = record m { tables = xs }

  in_space : ((y : Item) → Contains (items_of ((table_names) new)) y → Lives n y) → (s : Space) → InSpace m n s
  in_space lives spaces.Type = record { import_kept = λ id i h. h; import_at = λ id i h. h; lives_kept = λ id h. h; named = λ id h y has. inl (h, has) }
  in_space lives spaces.Function = record { import_kept = λ id i h. h; import_at = λ id i h. h; lives_kept = λ id h. h; named = λ id h y has. inl (h, has) }
  in_space lives spaces.Table = record {
    import_kept = λ id i h. says_same m.tables.slots xs.slots k old new at is says same id ∙ h;
    import_at = λ id i h. sym (says_same m.tables.slots xs.slots k old new at is says same id) ∙ h;
    lives_kept = set_live m.tables.slots xs.slots k old new at is;
    named = λ id h y has. or_new (set_holds m.tables.slots xs.slots k old new at is (λ (o : Option Table). Contains (items_of (named_by (table_names) o)) y) id h has) (lives y);
  }
  in_space lives spaces.Memory = record { import_kept = λ id i h. h; import_at = λ id i h. h; lives_kept = λ id h. h; named = λ id h y has. inl (h, has) }
  in_space lives spaces.Tag = record { import_kept = λ id i h. h; import_at = λ id i h. h; lives_kept = λ id h. h; named = λ id h y has. inl (h, has) }
  in_space lives spaces.Global = record { import_kept = λ id i h. h; import_at = λ id i h. h; lives_kept = λ id h. h; named = λ id h y has. inl (h, has) }
  in_space lives spaces.Element = record { import_kept = λ id i h. h; import_at = λ id i h. h; lives_kept = λ id h. h; named = λ id h y has. inl (h, has) }
  in_space lives spaces.Data = record { import_kept = λ id i h. h; import_at = λ id i h. h; lives_kept = λ id h. h; named = λ id h y has. inl (h, has) }
  in_space lives spaces.Local = record { import_kept = λ id i h. h; import_at = λ id i h. h; lives_kept = λ id h. h; named = λ id h y has. inl (h, has) }
  in_space lives spaces.Label = record { import_kept = λ id i h. h; import_at = λ id i h. h; lives_kept = λ id h. h; named = λ id h y has. inl (h, has) }

  pub written : ((y : Item) → Contains (items_of ((table_names) new)) y → Lives n y) → IsLinked m → IsLinked n
  written lives l = after_change m n (record { imports_same = refl; spaces = in_space lives; whole = l.whole; exported = λ e export h. inl h; start_same = refl; grouped = l.grouped }) l
