use Rattle.wasm_part.proofs.Handlers.{read_handlers}
use Rattle.wasm_part.proofs.laws.handlers_are_missing.Goals as goal

pub returns : goal.returns
returns c = read_handlers c.normal_operators_are_ruled.ensures.operators c.new_kinds_stand_behind.ensures.unfound c.parsing_carries_same.ensures c.normal_forms_of_read_modules_are_ruled.ensures.rules
