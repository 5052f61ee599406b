use Rattle.wasm_reader.proofs.Repeats.{Passes}
use Rattle.wasm_reader.proofs.reader.BinaryReader.pass_items.Given as goal

abbrev pub invariant-loop : goal.invariant-loop
invariant-loop g l = Passes (g.T.FromReader.reading l.fn.self.window.features) l.fn.self l.self l.fn.count l.counter
