use Rattle.std.proofs.Common.{take}
use Rattle.std.specs.List.{AllZip}
use Rattle.walrus_instr.specs.Copies.{IsPlacedCopy}
use Rattle.walrus_instr.proofs.seq.InstrSeq.clone.Given as goal

abbrev pub invariant-loop-instr : goal.invariant-loop-instr
invariant-loop-instr l = record {
  copied : AllZip IsPlacedCopy (take l.instr-index l.self.instrs.items) l.instrs.items;
}
