use Rattle.wasm_ref_types.specs.TypesTaken.{abstract_taken, heap_taken, reference_taken, value_taken}
use Rattle.wasm_ref_types.proofs.laws.spelled_types_are_read.Goals as goal

pub returns-clause-abstract_type : goal.returns-clause-abstract_type
returns-clause-abstract_type c = abstract_taken

pub returns-clause-heap_type : goal.returns-clause-heap_type
returns-clause-heap_type c = heap_taken

pub returns-clause-reference_type : goal.returns-clause-reference_type
returns-clause-reference_type c = reference_taken

pub returns-clause-value_type : goal.returns-clause-value_type
returns-clause-value_type c = value_taken
