use Rattle.wasm_composite_types.specs.wasm_reader.Spellings.{taken_free}
use Rattle.wasm_operators.specs.Readings.{items_at}
use Rattle.wasm_operators.specs.ItemSpellings.{SpellsForms}
use Rattle.wasm_operators.specs.ItemsTaken.{forms_taken}
use Rattle.wasm_operators.proofs.laws.spellings_of_immediates_are_prefix_free.Goals as goal

pub returns : goal.returns
returns c = λ features forms. taken_free (items_at features forms) (SpellsForms features forms) (forms_taken features forms)
