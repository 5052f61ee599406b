use Rattle.wasm_canonical.proofs.Fits.{bodies_fit}
use Rattle.wasm_canonical.proofs.laws.ruled_bodies_fit.Goals as goal

pub returns : goal.returns
returns c = bodies_fit
