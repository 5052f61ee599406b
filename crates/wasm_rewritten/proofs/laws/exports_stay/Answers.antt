use Rattle.wasm_rewritten.proofs.Exports.{exports_stay as law}
use Rattle.wasm_rewritten.proofs.laws.exports_stay.Goals as goal

pub returns : goal.returns
returns c = law c.read_modules_are_full.ensures
