use Rattle.wasm_canonical.proofs.Items.{items_fit}
use Rattle.wasm_canonical.proofs.laws.spelled_items_fit.Goals as goal

pub returns : goal.returns
returns c = items_fit c.ruled_bodies_fit.ensures c.short_files_fit.ensures c.due_contents_fit.ensures
