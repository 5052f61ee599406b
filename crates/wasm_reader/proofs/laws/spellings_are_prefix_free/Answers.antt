use Rattle.wasm_reader.specs.Items.{vec_at, SpellsVec}
use Rattle.wasm_reader.specs.Vecs.{vec_taken}
use Rattle.wasm_reader.specs.Spellings.{run_taken, little_taken, sized_bytes_taken}
use Rattle.wasm_reader.specs.Reading.{byte_at, u7_at, bytes_at, little_at, SpellsRun, SpellsLittle}
use Rattle.wasm_reader.specs.Text.{sized_bytes_at, SpellsSized}
use Rattle.wasm_reader.specs.declared.error.ErrorKind.TheVariants.{TooLarge}
use Rattle.wasm_reader.specs.Numbers.{unsigned, signed, Spells, unsigned_at, signed_at}
use Rattle.wasm_reader.specs.Text.{SpellsName, SpellsText, size_at, string_at, unlimited_string_at, skipped_string_at}
use Rattle.wasm_reader.specs.Spellings.{number_taken, string_taken, unlimited_string_taken, taken_free}
use Rattle.wasm_reader.specs.SmallSpellings.{SpellsByte, SpellsU7, SpellsSize, SpellsSkipped}
use Rattle.wasm_reader.proofs.Taken.{byte_taken, u7_taken, size_taken, skipped_taken}
use Rattle.wasm_reader.proofs.laws.spellings_are_prefix_free.Goals as goal

pub returns-clause-unsigned : goal.returns-clause-unsigned
returns-clause-unsigned c = λ width. taken_free (unsigned_at width) (Spells unsigned width) (number_taken unsigned TooLarge width)

pub returns-clause-signed : goal.returns-clause-signed
returns-clause-signed c = λ width. taken_free (signed_at width) (Spells signed width) (number_taken signed TooLarge width)

pub returns-clause-name : goal.returns-clause-name
returns-clause-name c = taken_free string_at SpellsName string_taken

pub returns-clause-text : goal.returns-clause-text
returns-clause-text c = taken_free unlimited_string_at SpellsText unlimited_string_taken

pub returns-clause-run : goal.returns-clause-run
returns-clause-run c = λ size. taken_free (bytes_at size) (SpellsRun size) (run_taken size)

pub returns-clause-little : goal.returns-clause-little
returns-clause-little c = λ size. taken_free (little_at size) (SpellsLittle size) (little_taken size)

pub returns-clause-sized : goal.returns-clause-sized
returns-clause-sized c = taken_free sized_bytes_at SpellsSized sized_bytes_taken

pub returns-clause-numbers : goal.returns-clause-numbers
returns-clause-numbers c = λ limit. taken_free (vec_at limit (unsigned_at 32)) (SpellsVec limit (Spells unsigned 32)) (vec_taken (unsigned_at 32) (Spells unsigned 32) (number_taken unsigned TooLarge 32) limit)

pub returns-clause-names : goal.returns-clause-names
returns-clause-names c = λ limit. taken_free (vec_at limit string_at) (SpellsVec limit SpellsName) (vec_taken string_at SpellsName string_taken limit)

pub returns-clause-byte : goal.returns-clause-byte
returns-clause-byte c = taken_free byte_at SpellsByte byte_taken

pub returns-clause-u7 : goal.returns-clause-u7
returns-clause-u7 c = taken_free u7_at SpellsU7 u7_taken

pub returns-clause-size : goal.returns-clause-size
returns-clause-size c = λ limit. taken_free (size_at limit) (SpellsSize limit) (size_taken limit)

pub returns-clause-skipped : goal.returns-clause-skipped
returns-clause-skipped c = taken_free skipped_string_at SpellsSkipped skipped_taken
