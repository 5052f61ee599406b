use Rattle.wasm_rewritten.proofs.Ruled.{parts_ruled}
use Rattle.wasm_rewritten.proofs.laws.written_parts_are_ruled.Goals as goal

pub returns : goal.returns
returns c = parts_ruled c.read_files_are_picked.ensures c.files_name_their_locals.ensures c.read_files_are_orderly.ensures c.handlers_are_missing.ensures c.normal_forms_of_read_modules_are_ruled.ensures.rules c.new_kinds_stand_behind.ensures.behind c.new_kinds_stand_behind.ensures.missing c.kept_parts_are_ruled.ensures
