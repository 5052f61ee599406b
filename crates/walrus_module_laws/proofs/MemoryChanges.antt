-- A memory that is deleted or written: what was linked stays so.
use Rattle.std.proofs.Common.{◌≡◌, ◌∙◌, ℕ, Option, Some, None, slice_set, refl, sym, ap, inl, arith}
use Rattle.walrus_arena.specs.Arena.{Arena, item_at}
use Rattle.walrus_linked.specs.walrus_module_items.declared.memory.Memory.{Memory}
use Rattle.wasm_formats.specs.declared.fault.Space.{Space}
use Rattle.wasm_formats.specs.declared.fault.Space.TheVariants as spaces
use Rattle.walrus_linked.specs.walrus_module.Parts.{Module}
use Rattle.walrus_roots.specs.declared.item.Item.{Item}
use Rattle.walrus_roots.specs.Items.{item}
use Rattle.walrus_linked.specs.Linked.{IsLinked}
use Rattle.walrus_module_laws.proofs.ChangeLemmas.{InSpace, after_change, none_has}
use Rattle.walrus_module_laws.specs.Changes.{IsUnnamed}
use Rattle.walrus_module_laws.proofs.SlotLemmas.{says_at, says_kept, live_at, live_kept, says_same, set_live}
use Rattle.walrus_module_laws.proofs.DropLemmas.{InDrop, apart, after_drop}

abbrev says : Memory → Option ℕ
says = λ (x : Memory). x.import

module _ (m : Module) (xs : Arena Memory) (k : ℕ) (is : xs.slots ≡ slice_set m.memories.slots k None) where
  abbrev left : Module
  left = record m { memories = xs }

  left_in : (s : Space) → InDrop m left (λ x. x ≡ item spaces.Memory k) s
  left_in spaces.Type = record { import_at = λ id i h. h; import_kept = λ id i other h. h; lives_at = λ id h. (h, apart spaces.Type spaces.Memory (λ e. absurd (omega (arith, e))) id k); lives_kept = λ id other h. h; named = λ id h y has. has }
  left_in spaces.Function = record { import_at = λ id i h. h; import_kept = λ id i other h. h; lives_at = λ id h. (h, apart spaces.Function spaces.Memory (λ e. absurd (omega (arith, e))) id k); lives_kept = λ id other h. h; named = λ id h y has. has }
  left_in spaces.Table = record { import_at = λ id i h. h; import_kept = λ id i other h. h; lives_at = λ id h. (h, apart spaces.Table spaces.Memory (λ e. absurd (omega (arith, e))) id k); lives_kept = λ id other h. h; named = λ id h y has. has }
  left_in spaces.Memory = record {
    import_at = says_at m.memories.slots xs.slots k is says;
    import_kept = λ id i other h. says_kept m.memories.slots xs.slots k is says id i (λ e. other (ap (item spaces.Memory) e)) h;
    lives_at = λ id h. let a = live_at m.memories.slots xs.slots k is id h in (a.0, λ e. a.1 (ap (λ (x : Item). x.id) e));
    lives_kept = λ id other h. live_kept m.memories.slots xs.slots k is id (λ e. other (ap (item spaces.Memory) e)) h;
    named = λ id h y has. has;
  }
  left_in spaces.Tag = record { import_at = λ id i h. h; import_kept = λ id i other h. h; lives_at = λ id h. (h, apart spaces.Tag spaces.Memory (λ e. absurd (omega (arith, e))) id k); lives_kept = λ id other h. h; named = λ id h y has. has }
  left_in spaces.Global = record { import_at = λ id i h. h; import_kept = λ id i other h. h; lives_at = λ id h. (h, apart spaces.Global spaces.Memory (λ e. absurd (omega (arith, e))) id k); lives_kept = λ id other h. h; named = λ id h y has. has }
  left_in spaces.Element = record { import_at = λ id i h. h; import_kept = λ id i other h. h; lives_at = λ id h. (h, apart spaces.Element spaces.Memory (λ e. absurd (omega (arith, e))) id k); lives_kept = λ id other h. h; named = λ id h y has. has }
  left_in spaces.Data = record { import_at = λ id i h. h; import_kept = λ id i other h. h; lives_at = λ id h. (h, apart spaces.Data spaces.Memory (λ e. absurd (omega (arith, e))) id k); lives_kept = λ id other h. h; named = λ id h y has. has }
  left_in spaces.Local = record { import_at = λ id i h. h; import_kept = λ id i other h. h; lives_at = λ id h. (h, apart spaces.Local spaces.Memory (λ e. absurd (omega (arith, e))) id k); lives_kept = λ id other h. h; named = λ id h y has. has }
  left_in spaces.Label = record { import_at = λ id i h. h; import_kept = λ id i other h. h; lives_at = λ id h. (h, apart spaces.Label spaces.Memory (λ e. absurd (omega (arith, e))) id k); lives_kept = λ id other h. h; named = λ id h y has. has }

  pub deleted : IsUnnamed m (item spaces.Memory k) → IsLinked m → IsLinked left
  deleted none l = after_drop m left (λ x. x ≡ item spaces.Memory k) (record { imports_same = refl; exports_same = refl; start_same = refl; spaces = left_in; grouped = l.grouped; whole = l.whole }) none l

module _ (m : Module) (xs : Arena Memory) (k : ℕ) (old new : Memory) (at : item_at m.memories k ≡ Some old) (is : xs.slots ≡ slice_set m.memories.slots k (Some new)) (same : says new ≡ says old) where
  abbrev n : Module
  n = record m { memories = xs }

  in_space : (s : Space) → InSpace m n s
  in_space spaces.Type = record { import_kept = λ id i h. h; import_at = λ id i h. h; lives_kept = λ id h. h; named = λ id h y has. inl (h, has) }
  in_space spaces.Function = record { import_kept = λ id i h. h; import_at = λ id i h. h; lives_kept = λ id h. h; named = λ id h y has. inl (h, has) }
  in_space spaces.Table = record { import_kept = λ id i h. h; import_at = λ id i h. h; lives_kept = λ id h. h; named = λ id h y has. inl (h, has) }
  in_space spaces.Memory = record {
    import_kept = λ id i h. says_same m.memories.slots xs.slots k old new at is says same id ∙ h;
    import_at = λ id i h. sym (says_same m.memories.slots xs.slots k old new at is says same id) ∙ h;
    lives_kept = set_live m.memories.slots xs.slots k old new at is;
    named = λ id h y has. none_has y has;
  }
  in_space spaces.Tag = record { import_kept = λ id i h. h; import_at = λ id i h. h; lives_kept = λ id h. h; named = λ id h y has. inl (h, has) }
  in_space spaces.Global = record { import_kept = λ id i h. h; import_at = λ id i h. h; lives_kept = λ id h. h; named = λ id h y has. inl (h, has) }
  in_space spaces.Element = record { import_kept = λ id i h. h; import_at = λ id i h. h; lives_kept = λ id h. h; named = λ id h y has. inl (h, has) }
  in_space spaces.Data = record { import_kept = λ id i h. h; import_at = λ id i h. h; lives_kept = λ id h. h; named = λ id h y has. inl (h, has) }
  in_space spaces.Local = record { import_kept = λ id i h. h; import_at = λ id i h. h; lives_kept = λ id h. h; named = λ id h y has. inl (h, has) }
  in_space spaces.Label = record { import_kept = λ id i h. h; import_at = λ id i h. h; lives_kept = λ id h. h; named = λ id h y has. inl (h, has) }

  pub written : IsLinked m → IsLinked n
  written l = after_change m n (record { imports_same = refl; spaces = in_space; whole = l.whole; exported = λ e export h. inl h; start_same = refl; grouped = l.grouped }) l
