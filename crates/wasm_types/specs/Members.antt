-- How a group holds its types.
use Rattle.std.specs.Prelude.{◌≡◌, true, false, [], ◌∷◌, length}
use Rattle.wasm_types.specs.declared.group.Members.{Members}
use Rattle.wasm_types.specs.declared.group.Members.TheVariants.{Implicit, Explicit}
use Rattle.wasm_types.specs.Groups.{Group}

abbrev pub group_of : Members → Group
group_of (Implicit offset ty) = record { explicit = false; types = ty ∷ []; offsets = offset ∷ [] }
group_of (Explicit offsets types) = record { explicit = true; types = types.items; offsets = offsets.items }

-- each type has its offset
abbrev pub IsPaired : Group → Type 0
IsPaired group = length group.offsets ≡ length group.types
