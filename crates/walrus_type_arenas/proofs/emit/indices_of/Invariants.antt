use Rattle.std.proofs.Common.{take}
use Rattle.walrus_type_arenas.specs.Emission.{AreIndices}
use Rattle.walrus_type_arenas.proofs.emit.indices_of.Given as goal

abbrev pub invariant-loop-index : goal.invariant-loop-index
invariant-loop-index l = AreIndices l.fn.count (take l.index l.written) l.indices.items
