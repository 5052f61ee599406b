use Rattle.wasm_inexact_modules.proofs.SpellLemmas.{read_bodies_are_inexact}
use Rattle.wasm_inexact_modules.proofs.laws.read_bodies_are_inexact.Goals as goal

pub returns : goal.returns
returns c = read_bodies_are_inexact
