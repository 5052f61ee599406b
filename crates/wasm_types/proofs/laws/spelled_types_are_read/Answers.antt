use Rattle.wasm_types.specs.TypesTaken.{sub_taken, group_taken}
use Rattle.wasm_types.proofs.laws.spelled_types_are_read.Goals as goal

pub returns-clause-subtype : goal.returns-clause-subtype
returns-clause-subtype c = sub_taken

pub returns-clause-group : goal.returns-clause-group
returns-clause-group c = group_taken
