use Rattle.wasm_reader.specs.Finals.{byte_final, u7_final, bytes_final, little_final, unsigned_final, signed_final, s33_final, size_final, string_final, unlimited_string_final, skipped_string_final, sized_bytes_final}
use Rattle.wasm_reader.specs.Spellings.{final_early}
use Rattle.wasm_reader.specs.Numbers.{unsigned_at, signed_at, s33_at}
use Rattle.wasm_reader.specs.Reading.{byte_at, u7_at, bytes_at, little_at}
use Rattle.wasm_reader.specs.Text.{size_at, string_at, unlimited_string_at, sized_bytes_at, skipped_string_at}
use Rattle.wasm_reader.proofs.laws.fronts_end_early.Goals as goal

pub returns-clause-unsigned : goal.returns-clause-unsigned
returns-clause-unsigned c = λ width. final_early (unsigned_at width) (unsigned_final width)

pub returns-clause-signed : goal.returns-clause-signed
returns-clause-signed c = λ width. final_early (signed_at width) (signed_final width)

pub returns-clause-s33 : goal.returns-clause-s33
returns-clause-s33 c = final_early s33_at s33_final

pub returns-clause-string : goal.returns-clause-string
returns-clause-string c = final_early string_at string_final

pub returns-clause-unlimited : goal.returns-clause-unlimited
returns-clause-unlimited c = final_early unlimited_string_at unlimited_string_final

pub returns-clause-sized : goal.returns-clause-sized
returns-clause-sized c = final_early sized_bytes_at sized_bytes_final

pub returns-clause-byte : goal.returns-clause-byte
returns-clause-byte c = final_early byte_at byte_final

pub returns-clause-u7 : goal.returns-clause-u7
returns-clause-u7 c = final_early u7_at u7_final

pub returns-clause-run : goal.returns-clause-run
returns-clause-run c = λ size. final_early (bytes_at size) (bytes_final size)

pub returns-clause-little : goal.returns-clause-little
returns-clause-little c = λ size. final_early (little_at size) (little_final size)

pub returns-clause-size : goal.returns-clause-size
returns-clause-size c = λ limit. final_early (size_at limit) (size_final limit)

pub returns-clause-skipped : goal.returns-clause-skipped
returns-clause-skipped c = final_early skipped_string_at skipped_string_final
