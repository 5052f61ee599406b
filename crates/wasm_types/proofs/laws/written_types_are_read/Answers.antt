use Rattle.wasm_types.specs.Written.{sub_is_read, group_is_read}
use Rattle.wasm_types.proofs.laws.written_types_are_read.Goals as goal

pub returns-clause-subtype : goal.returns-clause-subtype
returns-clause-subtype c = sub_is_read

pub returns-clause-group : goal.returns-clause-group
returns-clause-group c = group_is_read
