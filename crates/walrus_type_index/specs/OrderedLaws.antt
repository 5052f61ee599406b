-- What becomes of an index.
use Rattle.std.specs.Prelude.{◌≡◌, ℕ, Bool, true, false, not, ◌==◌, List, Option, Some, None, filter, slice_index_or, if◌then◌else◌}
use Rattle.walrus_items.specs.walrus_forms.Kinds.{Kind}
use Rattle.walrus_type_index.specs.Places.{Hashed, last_of, entered}
use Rattle.walrus_type_index.specs.Ordered.{IsIndex, IsOrdered, IsLast, lives_at}

abbrev pub PutsBack : Type 0
PutsBack = (id : ℕ) (index : List Hashed) (kinds : List (Option Kind)) → IsOrdered (Some id) index kinds → IsOrdered None (entered kinds id index) kinds

abbrev pub Lends : Type 0
Lends = (id : ℕ) (index : List Hashed) (kinds : List (Option Kind)) → IsOrdered None index kinds → lives_at kinds id ≡ true
    → IsOrdered (Some id) (filter (λ x. not (x.id == id)) index) kinds

abbrev pub Writes : Type 0
Writes = (id : ℕ) (index : List Hashed) (old new : List (Option Kind)) → IsOrdered (Some id) index old
    → ((other : ℕ) → (id == other) ≡ false → slice_index_or old other None ≡ slice_index_or new other None) → lives_at new id ≡ true → IsOrdered (Some id) index new

abbrev pub Dies : Type 0
Dies = (id : ℕ) (index : List Hashed) (old new : List (Option Kind)) → IsOrdered (Some id) index old
    → ((other : ℕ) → (id == other) ≡ false → slice_index_or old other None ≡ slice_index_or new other None) → lives_at new id ≡ false → IsOrdered None index new

abbrev pub Sweeps : Type 0
Sweeps = (dies : ℕ → Bool) (index : List Hashed) (old new : List (Option Kind)) → IsOrdered None index old
    → ((id : ℕ) → slice_index_or new id None ≡ (if dies id then None else slice_index_or old id None)) → IsOrdered None (filter (λ x. not (dies x.id)) index) new

abbrev pub IsBorn : Type 0
IsBorn = (id : ℕ) (index : List Hashed) (old new : List (Option Kind)) → IsOrdered None index old → lives_at old id ≡ false
    → ((other : ℕ) → (id == other) ≡ false → slice_index_or old other None ≡ slice_index_or new other None) → lives_at new id ≡ true → IsOrdered (Some id) index new

abbrev pub FindsLast : Type 0
FindsLast = (kinds : List (Option Kind)) (kind : Kind) (own : Bool) (index : List Hashed) → IsIndex kinds index
    → (id : ℕ) → last_of kinds kind own index ≡ Some id → IsLast kinds kind own index id
