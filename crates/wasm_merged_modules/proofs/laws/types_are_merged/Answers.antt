use Rattle.wasm_merged_modules.proofs.Merged.{none_behind, types_merged}
use Rattle.wasm_merged_modules.proofs.laws.types_are_merged.Goals as goal

pub returns-clause-none : goal.returns-clause-none
returns-clause-none c = none_behind c.parsing_carries_same.ensures

pub returns-clause-merged : goal.returns-clause-merged
returns-clause-merged c = types_merged c.parsing_carries_same.ensures
