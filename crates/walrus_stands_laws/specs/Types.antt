-- The types that are written of a module that was read, once what isn't kept is deleted: each is listed by its place among those that were read, at its index.
use Rattle.std.specs.Prelude.{ℕ, ◌≡◌, List, map, Option, Some, IsSome, slice_get}
use Rattle.walrus_forms.specs.Records.{TypeGroup}
use Rattle.walrus_forms.specs.Renaming.{index_at}
use Rattle.walrus_meaning.specs.Meaning.{type_ids}
use Rattle.walrus_module.specs.Items.{written_type}
use Rattle.walrus_types.specs.Emission.{IsEmission}
use Rattle.walrus_types.specs.Inverse.{AreInverse}
use Rattle.walrus_types.specs.Table.{Table}
use Rattle.walrus_types.specs.TypeLaws.{AreGrouped}
use Rattle.walrus_kept_types_laws.specs.Placed.{place_among, placed_indices}
use Rattle.walrus_kept_types_laws.specs.Written.{AreLeft}

-- by these ids, just those that are written
pub record ListsTypes (ids : List ℕ) (t : Table) (listed : List ℕ) (renames : ℕ → ℕ) : Type 0 where
  pub each : (place id : ℕ) → slice_get ids place ≡ Some id → IsSome (written_type t id) → slice_get listed (renames place) ≡ Some place
  pub only : (i place : ℕ) → slice_get listed i ≡ Some place → (id : ℕ) × (slice_get ids place ≡ Some id) × IsSome (written_type t id)

abbrev pub LeftTypesAreListed : Type 0
LeftTypesAreListed = (old new : Table) → AreGrouped old → AreGrouped new → AreLeft old new → (out : List TypeGroup) (indices : List (Option ℕ)) (order : List ℕ) → IsEmission new out indices → AreInverse order indices
    → (let ids = type_ids old in ListsTypes ids new (map (place_among ids) order) (index_at (placed_indices ids indices)))
