use Rattle.wasm_types.proofs.Listed.{unplaced_reads}
use Rattle.wasm_types.proofs.read.RecGroupFromReader.from_reader.Goals as goal

pub returns-clause-reads : goal.returns-clause-reads
returns-clause-reads c = unplaced_reads c.args.reader.now.window.features c.args.reader.now c.read_placed.new.reader c.read_placed.result c.read_placed.ensures.reads c.read_placed.ensures.paired
