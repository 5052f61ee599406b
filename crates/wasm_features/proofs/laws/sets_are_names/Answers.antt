use Rattle.wasm_features.proofs.Names.{list_is_set, set_is_its_names}
use Rattle.wasm_features.proofs.laws.sets_are_names.Goals as goal

pub returns-clause-list : goal.returns-clause-list
returns-clause-list c = list_is_set

pub returns-clause-names : goal.returns-clause-names
returns-clause-names c = set_is_its_names
