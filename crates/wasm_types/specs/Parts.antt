-- How many parts a group has, each of which takes a byte at least: subtypes, supertypes, fields, parameters and results.
use Rattle.std.specs.Prelude.{ℕ, ◌+◌, ◌≤◌, ◌<◌, ◌≡◌, List, [], ◌∷◌, length, All, Ok}
use Rattle.std.specs.Option.{option_len}
use Rattle.wasm_features.specs.declared.WasmFeatures.{WasmFeatures}
use Rattle.wasm_composite_types.specs.declared.form.CompositeInnerType.{CompositeInnerType}
use Rattle.wasm_composite_types.specs.declared.form.CompositeInnerType.TheVariants.{Func, Array, Struct, Cont}
use Rattle.wasm_types.specs.declared.subtype.SubType.{SubType}
use Rattle.wasm_types.specs.Readings.{Listed, group_at}

-- the parameters and results of a function, the fields of a structure, the one of an array
abbrev pub form_parts : CompositeInnerType → ℕ
form_parts (Func ty) = length ty.params + length ty.results
form_parts (Struct ty) = length ty.fields
form_parts (Array ty) = 1
form_parts (Cont ty) = 0

-- the subtype itself, its supertype, and the parts of its form
abbrev pub sub_parts : SubType → ℕ
sub_parts ty = 1 + option_len ty.supertype_idx + form_parts ty.composite_type.inner

-- those of all subtypes
abbrev pub group_parts : List SubType → ℕ
group_parts [] = 0
group_parts (ty ∷ types) = sub_parts ty + group_parts types

-- a group that is read has at most as many parts as bytes were read for it
abbrev pub PartsTakeBytes : WasmFeatures → Type 0
PartsTakeBytes features = (bytes later : List ℕ) (group : Listed) → All (λ b. b < 256) bytes → group_at features bytes ≡ Ok (group, later) → group_parts group.types + length later ≤ length bytes
