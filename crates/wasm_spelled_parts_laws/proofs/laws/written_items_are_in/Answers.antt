use Rattle.wasm_spelled_parts_laws.proofs.Written.{written_items}
use Rattle.wasm_spelled_parts_laws.proofs.laws.written_items_are_in.Goals as goal

pub returns : goal.returns
returns c = written_items c.read_items_are_in.ensures c.merged_items_are_in.ensures c.fitting_names_are_small.ensures c.renamed_operators_fit.ensures c.read_modules_are_ruled.ensures c.normal_forms_of_read_modules_are_ruled.ensures.rules c.handlers_are_missing.ensures c.new_kinds_stand_behind.ensures.behind c.new_kinds_stand_behind.ensures.missing c.read_files_are_picked.ensures c.files_name_their_locals.ensures c.read_files_are_orderly.ensures c.emitted_types_stand.ensures c.kept_is_closed.ensures
