use Rattle.wasm_merged_modules.proofs.Behind.{new_behind}
use Rattle.wasm_merged_modules.proofs.Missing.{missing_new, unfound_missing}
use Rattle.wasm_merged_modules.proofs.laws.new_kinds_stand_behind.Goals as goal

pub returns-clause-behind : goal.returns-clause-behind
returns-clause-behind c = new_behind c.parsing_carries_same.ensures c.same_kind_is_equality.ensures

pub returns-clause-missing : goal.returns-clause-missing
returns-clause-missing c = missing_new c.parsing_carries_same.ensures c.same_kind_is_equality.ensures

pub returns-clause-unfound : goal.returns-clause-unfound
returns-clause-unfound c = unfound_missing c.same_kind_is_equality.ensures
