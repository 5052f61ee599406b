-- A memory of the module's own: what was linked stays so.
use Rattle.std.proofs.Common.{◌≡◌, ℕ, [], ◌∷◌, ◌++◌, Option, Some, None, refl, inl}
use Rattle.walrus_arena.specs.Arena.{Arena}
use Rattle.walrus_linked.specs.walrus_module_items.declared.memory.Memory.{Memory}
use Rattle.wasm_formats.specs.declared.fault.Space.{Space}
use Rattle.wasm_formats.specs.declared.fault.Space.TheVariants as spaces
use Rattle.walrus_linked.specs.walrus_module.Parts.{Module}
use Rattle.walrus_linked.specs.Linked.{IsLinked}
use Rattle.walrus_linked.proofs.PushLemmas.{says_kept, live_kept}
use Rattle.walrus_module_laws.proofs.PushLemmas.{says_at}
use Rattle.walrus_module_laws.proofs.ChangeLemmas.{InSpace, after_change, none_has}

abbrev says : Memory → Option ℕ
says x = x.import

module _ (m : Module) (xs : Arena Memory) (x0 : Memory) (adds : xs.slots ≡ m.memories.slots ++ Some x0 ∷ []) (own : says x0 ≡ None) where
  abbrev n : Module
  n = record m { memories = xs }

  pub in_space : (s : Space) → InSpace m n s
  in_space spaces.Type = record { import_kept = λ id i h. h; import_at = λ id i h. h; lives_kept = λ id h. h; named = λ id h y has. inl (h, has) }
  in_space spaces.Function = record { import_kept = λ id i h. h; import_at = λ id i h. h; lives_kept = λ id h. h; named = λ id h y has. inl (h, has) }
  in_space spaces.Table = record { import_kept = λ id i h. h; import_at = λ id i h. h; lives_kept = λ id h. h; named = λ id h y has. inl (h, has) }
  in_space spaces.Memory = record {
    import_kept = says_kept m.memories xs x0 adds says;
    import_at = says_at m.memories xs x0 adds says own;
    lives_kept = live_kept m.memories xs x0 adds;
    named = λ id h y has. none_has y has;
  }
  in_space spaces.Tag = record { import_kept = λ id i h. h; import_at = λ id i h. h; lives_kept = λ id h. h; named = λ id h y has. inl (h, has) }
  in_space spaces.Global = record { import_kept = λ id i h. h; import_at = λ id i h. h; lives_kept = λ id h. h; named = λ id h y has. inl (h, has) }
  in_space spaces.Element = record { import_kept = λ id i h. h; import_at = λ id i h. h; lives_kept = λ id h. h; named = λ id h y has. inl (h, has) }
  in_space spaces.Data = record { import_kept = λ id i h. h; import_at = λ id i h. h; lives_kept = λ id h. h; named = λ id h y has. inl (h, has) }
  in_space spaces.Local = record { import_kept = λ id i h. h; import_at = λ id i h. h; lives_kept = λ id h. h; named = λ id h y has. inl (h, has) }
  in_space spaces.Label = record { import_kept = λ id i h. h; import_at = λ id i h. h; lives_kept = λ id h. h; named = λ id h y has. inl (h, has) }

  pub memory_added : IsLinked m → IsLinked n
  memory_added l =
      after_change m n (record { imports_same = refl; spaces = in_space; whole = l.whole; exported = λ e export at. inl at; start_same = refl; grouped = l.grouped }) l
