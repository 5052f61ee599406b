use Rattle.wasm_canonical.proofs.Sizes.{short_fits}
use Rattle.wasm_canonical.proofs.laws.short_files_fit.Goals as goal

pub returns : goal.returns
returns c = short_fits
