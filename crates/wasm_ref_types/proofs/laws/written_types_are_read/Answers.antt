use Rattle.wasm_ref_types.specs.TypesTaken.{abstract_is_read, heap_is_read, reference_is_read, value_is_read}
use Rattle.wasm_ref_types.proofs.laws.written_types_are_read.Goals as goal

pub returns-clause-abstract_type : goal.returns-clause-abstract_type
returns-clause-abstract_type c = abstract_is_read

pub returns-clause-heap_type : goal.returns-clause-heap_type
returns-clause-heap_type c = heap_is_read

pub returns-clause-reference_type : goal.returns-clause-reference_type
returns-clause-reference_type c = reference_is_read

pub returns-clause-value_type : goal.returns-clause-value_type
returns-clause-value_type c = value_is_read
