-- Which types are dropped.
use Rattle.std.specs.Prelude.{◌≡◌, ◌<◌, ◌↔◌, ℕ, true, List, Some, Contains}
use Rattle.walrus_items.specs.Items.{Group}
use Rattle.walrus_types.specs.Table.{Table, group_at}
use Rattle.walrus_refusals.specs.walrus_used.Counts.{past_types}

-- where a member of an explicit group stays, all stay
abbrev pub AreClosed : (ℕ → Type 0) → Table → Type 0
AreClosed stays t = (place : ℕ) (group : Group) → group_at t place ≡ Some group → group.explicit ≡ true → (i j : ℕ) → Contains group.types i → Contains group.types j → stays i → stays j

-- these are the ids up to the highest live type that don't stay
abbrev pub AreUnkept : (ℕ → Type 0) → Table → List ℕ → Type 0
AreUnkept stays t ids = (id : ℕ) → Contains ids id ↔ ((id < past_types t) × (stays id → ⊥))
