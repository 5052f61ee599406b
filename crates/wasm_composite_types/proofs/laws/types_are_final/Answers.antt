use Rattle.wasm_composite_types.specs.Finals.{storage_final, field_final, func_final, array_final, struct_final, composite_final}
use Rattle.wasm_composite_types.proofs.laws.types_are_final.Goals as goal

pub returns-clause-storage : goal.returns-clause-storage
returns-clause-storage c = storage_final

pub returns-clause-field : goal.returns-clause-field
returns-clause-field c = field_final

pub returns-clause-function : goal.returns-clause-function
returns-clause-function c = func_final

pub returns-clause-array : goal.returns-clause-array
returns-clause-array c = array_final

pub returns-clause-structure : goal.returns-clause-structure
returns-clause-structure c = struct_final

pub returns-clause-composite : goal.returns-clause-composite
returns-clause-composite c = composite_final
