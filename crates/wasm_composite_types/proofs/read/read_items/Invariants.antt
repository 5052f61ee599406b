use Rattle.wasm_reader.proofs.Repeats.{Repeats}
use Rattle.wasm_composite_types.proofs.read.read_items.Given as goal

abbrev pub invariant-loop : goal.invariant-loop
invariant-loop g l = Repeats (g.T.FromReader.reading l.fn.reader.window.features) g.T.FromReader.seen l.fn.reader l.reader l.fn.count l.counter l.items.items
