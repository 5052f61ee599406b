use Rattle.std.proofs.Common.{◌≡◌, slice_get, drop}
use Rattle.walrus_index_maps.specs.Views.{ids}
use Rattle.walrus_pairing.specs.Types.{named}
use Rattle.walrus_pairing.proofs.to_instr.named_types.Given as goal

abbrev pub invariant-loop-ty : goal.invariant-loop-ty
invariant-loop-ty l = named (slice_get (ids l.maps).types) (drop l.ty-index l.types) ≡ named (slice_get (ids l.maps).types) l.types
