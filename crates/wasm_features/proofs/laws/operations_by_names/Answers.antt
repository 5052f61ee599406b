use Rattle.wasm_features.proofs.Names.{union_by_names, intersection_by_names, difference_by_names, symmetric_difference_by_names, complement_by_names}
use Rattle.wasm_features.proofs.laws.operations_by_names.Goals as goal

pub returns-clause-union : goal.returns-clause-union
returns-clause-union c = union_by_names

pub returns-clause-intersection : goal.returns-clause-intersection
returns-clause-intersection c = intersection_by_names

pub returns-clause-difference : goal.returns-clause-difference
returns-clause-difference c = difference_by_names

pub returns-clause-symmetric_difference : goal.returns-clause-symmetric_difference
returns-clause-symmetric_difference c = symmetric_difference_by_names

pub returns-clause-complement : goal.returns-clause-complement
returns-clause-complement c = complement_by_names
