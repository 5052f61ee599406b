use Rattle.wasm_merged_modules.proofs.Missing.{files_merged}
use Rattle.wasm_merged_modules.proofs.laws.merged_files_are_ruled.Goals as goal

pub returns : goal.returns
returns c = files_merged c.new_kinds_stand_behind.ensures.behind c.new_kinds_stand_behind.ensures.missing c.merged_modules_are_ruled.ensures
