use Rattle.wasm_module_rows.proofs.NamedModuleLemmas.{modules_are_named}
use Rattle.wasm_module_rows.proofs.modules_are_named.Goals as goal

pub returns : goal.returns
returns c = modules_are_named
