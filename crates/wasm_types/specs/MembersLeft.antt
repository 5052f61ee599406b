-- The types of a group that are left to hand out, with their offsets.
use Rattle.std.specs.Prelude.{ℕ, ◌≡◌, List, length, zip}
use Rattle.std.specs.Option.{option_to_list}
use Rattle.std.specs.Vec.Iter.{into_iter_items}
use Rattle.wasm_types.specs.declared.subtype.SubType.{SubType}
use Rattle.wasm_types.specs.declared.into_types.MembersLeft.{MembersLeft}
use Rattle.wasm_types.specs.declared.into_types.MembersLeft.TheVariants.{Implicit, Explicit}

abbrev pub members_left : MembersLeft → List (ℕ × SubType)
members_left (Implicit member) = option_to_list member
members_left (Explicit offsets types) = zip (into_iter_items offsets) (into_iter_items types)

-- each type has its offset
abbrev pub IsPaired : MembersLeft → Type 0
IsPaired (Implicit _) = Unit {0}
IsPaired (Explicit offsets types) = length (into_iter_items offsets) ≡ length (into_iter_items types)
