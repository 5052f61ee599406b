use Rattle.wasm_reader.specs.Spellings.{final_early}
use Rattle.wasm_types.specs.Readings.{sub_at, group_at}
use Rattle.wasm_types.specs.Finals.{sub_final, group_final}
use Rattle.wasm_types.proofs.laws.fronts_of_types_end_early.Goals as goal

pub returns-clause-subtype : goal.returns-clause-subtype
returns-clause-subtype c = λ features. final_early (sub_at features) (sub_final features)

pub returns-clause-group : goal.returns-clause-group
returns-clause-group c = λ features. final_early (group_at features) (group_final features)
