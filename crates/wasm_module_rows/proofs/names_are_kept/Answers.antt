use Rattle.wasm_module_rows.proofs.NameLemmas.{names_kept}
use Rattle.wasm_module_rows.proofs.names_are_kept.Goals as goal

pub returns : goal.returns
returns c = names_kept
