-- The places by which entries are sorted.
use Rattle.std.specs.Prelude.{◌≡◌, ◌+◌, List, Option, Some, slice_get, take, count_by, is_none}
use Rattle.walrus_type_order.specs.declared.order.Place.{Place}

-- the place of one of these entries: its key, and the count of the anchors up to it
pub record IsPlaceIn {T : Type 0} (entries : List (Option T)) (p : Place T) : Type 0 where
  pub key : slice_get entries p.position ≡ Some p.key
  pub anchors : p.anchors ≡ count_by is_none (take (p.position + 1) entries)
