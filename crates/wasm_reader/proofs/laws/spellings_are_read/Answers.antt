use Rattle.wasm_reader.specs.Vecs.{vec_taken}
use Rattle.wasm_reader.specs.Spellings.{run_taken, little_taken, sized_bytes_taken}
use Rattle.wasm_reader.specs.declared.error.ErrorKind.TheVariants.{TooLarge, TooLong}
use Rattle.wasm_reader.specs.Numbers.{unsigned, signed, Spells, unsigned_at}
use Rattle.wasm_reader.specs.Text.{SpellsName, string_at}
use Rattle.wasm_reader.specs.Spellings.{number_taken, string_taken, unlimited_string_taken}
use Rattle.wasm_reader.proofs.Taken.{byte_taken, u7_taken, size_taken, skipped_taken}
use Rattle.wasm_reader.proofs.laws.spellings_are_read.Goals as goal

pub returns-clause-unsigned : goal.returns-clause-unsigned
returns-clause-unsigned c = number_taken unsigned TooLarge

pub returns-clause-signed : goal.returns-clause-signed
returns-clause-signed c = number_taken signed TooLarge

pub returns-clause-s33 : goal.returns-clause-s33
returns-clause-s33 c = number_taken signed TooLong 33

pub returns-clause-string : goal.returns-clause-string
returns-clause-string c = string_taken

pub returns-clause-unlimited : goal.returns-clause-unlimited
returns-clause-unlimited c = unlimited_string_taken

pub returns-clause-run : goal.returns-clause-run
returns-clause-run c = run_taken

pub returns-clause-little : goal.returns-clause-little
returns-clause-little c = little_taken

pub returns-clause-sized : goal.returns-clause-sized
returns-clause-sized c = sized_bytes_taken

pub returns-clause-numbers : goal.returns-clause-numbers
returns-clause-numbers c = vec_taken (unsigned_at 32) (Spells unsigned 32) (number_taken unsigned TooLarge 32)

pub returns-clause-names : goal.returns-clause-names
returns-clause-names c = vec_taken string_at SpellsName string_taken

pub returns-clause-byte : goal.returns-clause-byte
returns-clause-byte c = byte_taken

pub returns-clause-u7 : goal.returns-clause-u7
returns-clause-u7 c = u7_taken

pub returns-clause-size : goal.returns-clause-size
returns-clause-size c = size_taken

pub returns-clause-skipped : goal.returns-clause-skipped
returns-clause-skipped c = skipped_taken
