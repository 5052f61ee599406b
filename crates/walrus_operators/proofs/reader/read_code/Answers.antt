use Rattle.wasm_operators.specs.wasm_reader.Cursor.{rest}
use Rattle.walrus_operators.proofs.Known.{code_next, kind_next}
use Rattle.walrus_operators.proofs.reader.read_code.Goals as goal

pub returns-clause-code : goal.returns-clause-code
returns-clause-code c = record {
  value = code_next c.args.reader.now c.in-Ok.found c.from.result (rest c.read_u8.new.self) c.from.ensures c.in-Ok.ensures.value c.args.kind c.requires;
  place = tt;
  moves = c.read_u8.ensures.moves;
}

pub returns-clause-kind : goal.returns-clause-kind
returns-clause-kind c = kind_next c.args.reader.now c.in-Ok.found c.from.result (rest c.read_u8.new.self) c.from.ensures c.in-Ok.ensures.value c.args.kind c.requires
