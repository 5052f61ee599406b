use Rattle.wasm_reader.proofs.Repeats.{Repeats}
use Rattle.wasm_reader.proofs.reader.BinaryReader.read_items.Given as goal

abbrev pub invariant-loop : goal.invariant-loop
invariant-loop g l = Repeats (g.T.FromReader.reading l.fn.self.window.features) g.T.FromReader.seen l.fn.self l.self l.fn.count l.counter l.items.items
