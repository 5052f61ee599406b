use Rattle.wasm_reader.specs.Finals.{byte_final, u7_final, bytes_final, little_final, sized_bytes_final}
use Rattle.wasm_reader.specs.Spellings.{next_grows}
use Rattle.wasm_reader.proofs.laws.bytes_are_final.Goals as goal

pub returns-clause-byte : goal.returns-clause-byte
returns-clause-byte c = byte_final

pub returns-clause-next : goal.returns-clause-next
returns-clause-next c = next_grows

pub returns-clause-u7 : goal.returns-clause-u7
returns-clause-u7 c = u7_final

pub returns-clause-bytes : goal.returns-clause-bytes
returns-clause-bytes c = bytes_final

pub returns-clause-little : goal.returns-clause-little
returns-clause-little c = little_final

pub returns-clause-sized : goal.returns-clause-sized
returns-clause-sized c = sized_bytes_final
