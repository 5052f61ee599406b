use Rattle.std.proofs.Common.{◌≡◌, take}
use Rattle.walrus_index_maps.specs.Views.{ids}
use Rattle.walrus_types_into.specs.Into.{with_types}
use Rattle.walrus_types_into.proofs.into.push_types.Given as goal

abbrev pub invariant-loop-ty : goal.invariant-loop-ty
invariant-loop-ty l = ids l.maps ≡ with_types (take l.ty-index l.types) (ids l.fn.maps)
