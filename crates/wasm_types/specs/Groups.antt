-- Recursion groups as contracts see them (Core Specification, types: recursive types).
use Rattle.std.specs.Prelude.{ℕ, Bool, List}
use Rattle.wasm_types.specs.declared.subtype.SubType.{SubType}

-- whether it was written as a group, its types in their order, and the offset at which each was read
pub record Group : Type 0 where
  pub explicit : Bool
  pub types : List SubType
  pub offsets : List ℕ
