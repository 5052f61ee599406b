use Rattle.wasm_import_links.proofs.LinkLemmas.{modules_link}
use Rattle.wasm_import_links.proofs.laws.read_modules_link.Goals as goal

pub returns : goal.returns
returns c = modules_link
