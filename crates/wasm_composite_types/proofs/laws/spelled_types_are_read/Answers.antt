use Rattle.wasm_composite_types.specs.TypesTaken.{storage_taken, field_taken, func_taken, array_taken, struct_taken, composite_taken}
use Rattle.wasm_composite_types.proofs.laws.spelled_types_are_read.Goals as goal

pub returns-clause-storage : goal.returns-clause-storage
returns-clause-storage c = storage_taken

pub returns-clause-field : goal.returns-clause-field
returns-clause-field c = field_taken

pub returns-clause-function : goal.returns-clause-function
returns-clause-function c = func_taken

pub returns-clause-array : goal.returns-clause-array
returns-clause-array c = array_taken

pub returns-clause-structure : goal.returns-clause-structure
returns-clause-structure c = struct_taken

pub returns-clause-composite : goal.returns-clause-composite
returns-clause-composite c = composite_taken
