use Rattle.wasm_ref_types.specs.TypesFinal.{abstract_begins, heap_begins, reference_begins, value_begins}
use Rattle.wasm_ref_types.proofs.laws.types_are_final.Goals as goal

pub returns-clause-abstract_type : goal.returns-clause-abstract_type
returns-clause-abstract_type c = λ features. (abstract_begins features).final

pub returns-clause-heap_type : goal.returns-clause-heap_type
returns-clause-heap_type c = λ features. (heap_begins features).final

pub returns-clause-reference_type : goal.returns-clause-reference_type
returns-clause-reference_type c = λ features. (reference_begins features).final

pub returns-clause-value_type : goal.returns-clause-value_type
returns-clause-value_type c = λ features. (value_begins features).final
