use Rattle.wasm_import_links.proofs.FullLemmas.{modules_full}
use Rattle.wasm_import_links.proofs.laws.read_modules_are_full.Goals as goal

pub returns : goal.returns
returns c = modules_full
