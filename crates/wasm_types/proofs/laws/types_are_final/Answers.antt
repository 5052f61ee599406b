use Rattle.wasm_types.specs.Finals.{sub_final, group_final}
use Rattle.wasm_types.proofs.laws.types_are_final.Goals as goal

pub returns-clause-subtype : goal.returns-clause-subtype
returns-clause-subtype c = sub_final

pub returns-clause-group : goal.returns-clause-group
returns-clause-group c = group_final
