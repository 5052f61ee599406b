use Rattle.wasm_reader.specs.Numbers.{unsigned, signed}
use Rattle.wasm_reader.specs.Spelled.{spelled_short, spelled_unsigned, spelled_signed}
use Rattle.wasm_reader.proofs.laws.spellings_fit_their_width.Goals as goal

pub returns-clause-unsigned : goal.returns-clause-unsigned
returns-clause-unsigned c = spelled_unsigned

pub returns-clause-signed : goal.returns-clause-signed
returns-clause-signed c = spelled_signed

pub returns-clause-unsigned_size : goal.returns-clause-unsigned_size
returns-clause-unsigned_size c = spelled_short unsigned

pub returns-clause-signed_size : goal.returns-clause-signed_size
returns-clause-signed_size c = spelled_short signed
