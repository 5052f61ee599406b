use Rattle.wasm_reader.specs.Finals.{text_final, string_final, unlimited_string_final, skipped_string_final}
use Rattle.wasm_reader.proofs.laws.names_are_final.Goals as goal

pub returns-clause-text : goal.returns-clause-text
returns-clause-text c = text_final

pub returns-clause-string : goal.returns-clause-string
returns-clause-string c = string_final

pub returns-clause-unlimited : goal.returns-clause-unlimited
returns-clause-unlimited c = unlimited_string_final

pub returns-clause-skipped : goal.returns-clause-skipped
returns-clause-skipped c = skipped_string_final
