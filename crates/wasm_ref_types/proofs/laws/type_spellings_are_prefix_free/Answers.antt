use Rattle.wasm_ref_types.specs.TypesTaken.{abstract_taken, heap_taken, reference_taken, value_taken}
use Rattle.wasm_reader.specs.Spellings.{taken_free}
use Rattle.wasm_ref_types.specs.ReadTypes.{abstract_at, heap_at, reference_at, value_at}
use Rattle.wasm_ref_types.specs.TypeSpellings.{SpellsAbstract, SpellsHeap, SpellsReference, SpellsValue}
use Rattle.wasm_ref_types.proofs.laws.type_spellings_are_prefix_free.Goals as goal

pub returns-clause-abstract_type : goal.returns-clause-abstract_type
returns-clause-abstract_type c = λ features. taken_free (abstract_at features) (SpellsAbstract features) (abstract_taken features)

pub returns-clause-heap_type : goal.returns-clause-heap_type
returns-clause-heap_type c = λ features. taken_free (heap_at features) (SpellsHeap features) (heap_taken features)

pub returns-clause-reference_type : goal.returns-clause-reference_type
returns-clause-reference_type c = λ features. taken_free (reference_at features) (SpellsReference features) (reference_taken features)

pub returns-clause-value_type : goal.returns-clause-value_type
returns-clause-value_type c = λ features. taken_free (value_at features) (SpellsValue features) (value_taken features)
