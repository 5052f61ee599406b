-- What the iterators of a collection give.
use Rattle.std.specs.Prelude.{◌≡◌, ℕ, length, Some, Contains, slice_get}
use Rattle.std.specs.List.Sorted.{IsStrictlyIncreasing}
use Rattle.walrus_arena.specs.Arena.{Arena, item_at, live_count, entries, ids}
use Rattle.walrus_module_items.specs.walrus_local_function.declared.local_function.LocalFunction.{LocalFunction}
use Rattle.walrus_module_items.specs.declared.function.Function.{Function}
use Rattle.walrus_module_items.specs.Functions.{local_of}
use Rattle.walrus_linked.specs.walrus_collections.LookUps.{items, local_entries}

-- the items are the live ones, each once, by rising id: those of the ids at the same places
pub record ItemsAreLive {T : Type 0} (a : Arena T) : Type 0 where
  pub each : (id : ℕ) (x : T) → item_at a id ≡ Some x → (k : ℕ) × (slice_get (ids a) k ≡ Some id) × (slice_get (items a) k ≡ Some x)
  pub only : (k : ℕ) (x : T) → slice_get (items a) k ≡ Some x → (id : ℕ) × (slice_get (ids a) k ≡ Some id) × (item_at a id ≡ Some x)
  pub rising : IsStrictlyIncreasing (ids a)
  pub counted : length (items a) ≡ live_count a

-- the functions with a body are given, each under its id
pub record LocalsAreLive (a : Arena Function) : Type 0 where
  pub each : (id : ℕ) (f : Function) (local : LocalFunction) → item_at a id ≡ Some f → local_of f.kind ≡ Some local → Contains (local_entries (entries a)) (id, local)
  pub only : (id : ℕ) (local : LocalFunction) → Contains (local_entries (entries a)) (id, local) → (f : Function) × (item_at a id ≡ Some f) × (local_of f.kind ≡ Some local)
