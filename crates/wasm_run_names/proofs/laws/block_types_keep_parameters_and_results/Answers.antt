use Rattle.wasm_run_names.proofs.Picks.{picks_of_modules_keep, block_types_stand}
use Rattle.wasm_run_names.proofs.laws.block_types_keep_parameters_and_results.Goals as goal

pub returns-clause-picks : goal.returns-clause-picks
returns-clause-picks c = picks_of_modules_keep c.same_kind_is_equality.ensures

pub returns-clause-renamed : goal.returns-clause-renamed
returns-clause-renamed c = block_types_stand
