use Rattle.wasm_named_modules.proofs.Reading.{reading_names}
use Rattle.wasm_named_modules.proofs.laws.reading_names.Goals as goal

pub returns : goal.returns
returns c = reading_names
