use Rattle.wasm_spelled_parts_laws.proofs.Merged.{merged_items}
use Rattle.wasm_spelled_parts_laws.proofs.laws.merged_items_are_in.Goals as goal

pub returns : goal.returns
returns c = merged_items c.types_are_merged.ensures.none c.types_are_merged.ensures.merged c.normal_forms_of_read_modules_are_ruled.ensures.rules c.read_modules_are_ruled.ensures c.fitting_names_are_small.ensures c.renamed_operators_fit.ensures
