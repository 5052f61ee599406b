use Rattle.wasm_ruled_modules.specs.Reading.{read_modules_are_ruled}
use Rattle.wasm_ruled_modules.proofs.laws.read_modules_are_ruled.Goals as goal

pub returns : goal.returns
returns c = read_modules_are_ruled
