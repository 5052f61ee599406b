use Rattle.wasm_ref_types.specs.TypesFinal.{abstract_begins, heap_begins, reference_begins, value_begins}
use Rattle.wasm_reader.specs.Spellings.{final_early}
use Rattle.wasm_ref_types.specs.ReadTypes.{abstract_at, heap_at, reference_at, value_at}
use Rattle.wasm_ref_types.proofs.laws.fronts_of_types_end_early.Goals as goal

pub returns-clause-abstract_type : goal.returns-clause-abstract_type
returns-clause-abstract_type c = λ features. final_early (abstract_at features) (abstract_begins features).final

pub returns-clause-heap_type : goal.returns-clause-heap_type
returns-clause-heap_type c = λ features. final_early (heap_at features) (heap_begins features).final

pub returns-clause-reference_type : goal.returns-clause-reference_type
returns-clause-reference_type c = λ features. final_early (reference_at features) (reference_begins features).final

pub returns-clause-value_type : goal.returns-clause-value_type
returns-clause-value_type c = λ features. final_early (value_at features) (value_begins features).final
