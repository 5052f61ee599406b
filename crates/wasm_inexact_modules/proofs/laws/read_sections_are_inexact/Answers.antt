use Rattle.wasm_inexact_modules.proofs.SectionLemmas.{read_sections_are_inexact}
use Rattle.wasm_inexact_modules.proofs.laws.read_sections_are_inexact.Goals as goal

pub returns : goal.returns
returns c = read_sections_are_inexact
