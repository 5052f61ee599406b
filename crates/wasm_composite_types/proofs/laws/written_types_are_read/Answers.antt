use Rattle.wasm_composite_types.specs.Written.{storage_is_read, field_is_read, func_is_read, array_is_read, struct_is_read, composite_is_read}
use Rattle.wasm_composite_types.proofs.laws.written_types_are_read.Goals as goal

pub returns-clause-storage : goal.returns-clause-storage
returns-clause-storage c = storage_is_read

pub returns-clause-field : goal.returns-clause-field
returns-clause-field c = field_is_read

pub returns-clause-function : goal.returns-clause-function
returns-clause-function c = func_is_read

pub returns-clause-array : goal.returns-clause-array
returns-clause-array c = array_is_read

pub returns-clause-structure : goal.returns-clause-structure
returns-clause-structure c = struct_is_read

pub returns-clause-composite : goal.returns-clause-composite
returns-clause-composite c = composite_is_read
