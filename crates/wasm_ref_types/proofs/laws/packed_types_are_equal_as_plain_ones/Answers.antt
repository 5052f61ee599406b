use Rattle.wasm_ref_types.proofs.Same.{index-same, index-itself, reference-same, reference-itself}
use Rattle.wasm_ref_types.proofs.laws.packed_types_are_equal_as_plain_ones.Goals as goal

pub returns-clause-references : goal.returns-clause-references
returns-clause-references c = λ a b. (reference-same a b, reference-itself a b)

pub returns-clause-indices : goal.returns-clause-indices
returns-clause-indices c = λ a b. (index-same a b, index-itself a b)
