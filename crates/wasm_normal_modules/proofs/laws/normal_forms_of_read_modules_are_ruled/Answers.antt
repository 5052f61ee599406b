use Rattle.wasm_normal_modules.proofs.Reading.{bring_no_types, own_normal_ruled, read_modules_meet, read_modules_normal, rules_counted}
use Rattle.wasm_normal_modules.proofs.laws.normal_forms_of_read_modules_are_ruled.Goals as goal

pub returns-clause-own : goal.returns-clause-own
returns-clause-own c = own_normal_ruled c.normal_modules_are_ruled.ensures c.block_types_are_their_picks.ensures

pub returns-clause-plain : goal.returns-clause-plain
returns-clause-plain c = bring_no_types

pub returns-clause-counted : goal.returns-clause-counted
returns-clause-counted c = rules_counted

pub returns-clause-rules : goal.returns-clause-rules
returns-clause-rules c = read_modules_meet

pub returns-clause-ruled : goal.returns-clause-ruled
returns-clause-ruled c = read_modules_normal (own_normal_ruled c.normal_modules_are_ruled.ensures c.block_types_are_their_picks.ensures)
