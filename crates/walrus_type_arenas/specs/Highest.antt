-- The highest of some ids.
use Rattle.std.specs.Prelude.{ℕ, false, List, Option, Some, None, slice_index_or, max, if◌then◌else◌}
use Rattle.std.specs.Option.{option_map_or}
use Rattle.walrus_type_index.specs.walrus_items.walrus_forms.Kinds.{Kind}
use Rattle.walrus_type_index.specs.walrus_items.walrus_forms.Same.{same_kind}

-- the higher of two ids that may be there
abbrev pub later_of : Option ℕ → Option ℕ → Option ℕ
later_of (Some a) (Some b) = Some (max a b)
later_of (Some a) None = Some a
later_of None b = b

-- the id, if its type lives and has this kind
abbrev pub if_of_kind : List (Option Kind) → Kind → Option ℕ → Option ℕ
if_of_kind kinds kind None = None
if_of_kind kinds kind (Some id) = if option_map_or (λ k. same_kind k kind) (slice_index_or kinds id None) false then Some id else None
