-- Laws of sets of names.
use Rattle.std.specs.Prelude.{List, ◌<◌, ◌^◌, ◌≡◌, ◌&&◌, ◌||◌, not, if◌then◌else◌, ◌==◌}
use Rattle.std.specs.List.{list_any}
use Rattle.wasm_features.specs.declared.WasmFeatures.{WasmFeatures}
use Rattle.wasm_features.specs.Features.{Feature, has, place, features_of}
use Rattle.wasm_features.specs.Sets.{HasExactly, IsNamed, union, intersection, difference, symmetric_difference, complement}

-- the set of a list has the list's names and no other
abbrev pub ListIsSet : Type 0
ListIsSet = (names : List Feature) → HasExactly (features_of names) (λ name. list_any (λ other. place other == place name) names)

-- a set is its names
abbrev pub SetIsItsNames : Type 0
SetIsItsNames = (a b : WasmFeatures) → IsNamed a → IsNamed b → ((name : Feature) → has a name ≡ has b name) → a ≡ b

-- each operation by names
abbrev pub UnionByNames : Type 0
UnionByNames = (a b : WasmFeatures) → HasExactly (union a b) (λ name. has a name || has b name)

abbrev pub IntersectionByNames : Type 0
IntersectionByNames = (a b : WasmFeatures) → HasExactly (intersection a b) (λ name. has a name && has b name)

abbrev pub DifferenceByNames : Type 0
DifferenceByNames =
    (a b : WasmFeatures) → b.bits < 2 ^ 32 → HasExactly (difference a b) (λ name. has a name && not (has b name))

abbrev pub SymmetricDifferenceByNames : Type 0
SymmetricDifferenceByNames =
    (a b : WasmFeatures) → HasExactly (symmetric_difference a b) (λ name. if has a name then not (has b name) else has b name)

abbrev pub ComplementByNames : Type 0
ComplementByNames = (a : WasmFeatures) → a.bits < 2 ^ 32 → HasExactly (complement a) (λ name. not (has a name))
