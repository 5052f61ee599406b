use Rattle.wasm_ref_types.specs.wasm_reader.Spellings.{final_early}
use Rattle.wasm_composite_types.specs.Readings.{storage_at, field_at, func_at, array_at, struct_at, composite_at}
use Rattle.wasm_composite_types.specs.Finals.{storage_final, field_final, func_final, array_final, struct_final, composite_final}
use Rattle.wasm_composite_types.proofs.laws.fronts_of_types_end_early.Goals as goal

pub returns-clause-storage : goal.returns-clause-storage
returns-clause-storage c = λ features. final_early (storage_at features) (storage_final features)

pub returns-clause-field : goal.returns-clause-field
returns-clause-field c = λ features. final_early (field_at features) (field_final features)

pub returns-clause-function : goal.returns-clause-function
returns-clause-function c = λ features. final_early (func_at features) (func_final features)

pub returns-clause-array : goal.returns-clause-array
returns-clause-array c = λ features. final_early (array_at features) (array_final features)

pub returns-clause-structure : goal.returns-clause-structure
returns-clause-structure c = λ features. final_early (struct_at features) (struct_final features)

pub returns-clause-composite : goal.returns-clause-composite
returns-clause-composite c = λ features. final_early (composite_at features) (composite_final features)
