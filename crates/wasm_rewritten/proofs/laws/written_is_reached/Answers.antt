use Rattle.wasm_rewritten.proofs.Reached.{written_is_reached as law}
use Rattle.wasm_rewritten.proofs.laws.written_is_reached.Goals as goal

pub returns : goal.returns
returns c = law c.names_are_renamed.ensures
