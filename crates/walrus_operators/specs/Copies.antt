-- When an operator is a copy of another: equal, but for the memory that its lists stand in.
use Rattle.std.specs.Prelude.{◌≡◌, ℕ}
use Rattle.std.specs.declared.alloc.Global.{Global}
use Rattle.std.specs.declared.vec.Vec.{Vec}
use Rattle.wasm_operators.specs.wasm_ref_types.declared.value.ValType.{ValType}
use Rattle.wasm_operators.specs.declared.clause.Clause.{Clause}
use Rattle.walrus_operators.specs.declared.immediates.Immediates.{Immediates}
use Rattle.walrus_operators.specs.declared.immediates.Immediates.TheVariants.{TryTable, BrTable, Select}
use Rattle.walrus_operators.specs.declared.operator.Operator.{Operator}

-- the same immediates
abbrev pub IsImmediatesCopy : Immediates → Immediates → Type 0
IsImmediatesCopy (TryTable ty clauses) copy = (more : Vec Clause Global) × (copy ≡ TryTable ty more) × (more.items ≡ clauses.items)
IsImmediatesCopy (BrTable labels otherwise) copy = (more : Vec ℕ Global) × (copy ≡ BrTable more otherwise) × (more.items ≡ labels.items)
IsImmediatesCopy (Select types) copy = (more : Vec ValType Global) × (copy ≡ Select more) × (more.items ≡ types.items)
IsImmediatesCopy immediates copy = copy ≡ immediates

-- the same code and the same immediates
pub record IsOperatorCopy (op copy : Operator) : Type 0 where
  pub code : copy.code ≡ op.code
  pub immediates : IsImmediatesCopy op.immediates copy.immediates
