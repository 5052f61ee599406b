-- When a value with lists is a copy of another: equal, but for the memory that its lists stand in.
use Rattle.std.specs.Prelude.{◌≡◌, ℕ}
use Rattle.std.specs.List.{AllZip}
use Rattle.std.specs.declared.alloc.Global.{Global}
use Rattle.std.specs.declared.vec.Vec.{Vec}
use Rattle.walrus_instr.specs.declared.const_expr.ConstOp.{ConstOp}
use Rattle.walrus_instr.specs.declared.const_expr.ConstExpr.{ConstExpr}
use Rattle.walrus_instr.specs.declared.const_expr.ConstExpr.TheVariants.{Extended}
use Rattle.walrus_instr.specs.declared.instr.LegacyCatch.{LegacyCatch}
use Rattle.walrus_instr.specs.declared.instr.TryTableCatch.{TryTableCatch}
use Rattle.walrus_instr.specs.declared.instr.Instr.{Instr}
use Rattle.walrus_instr.specs.declared.instr.Instr.TheVariants.{Try, TryTable, BrTable}
use Rattle.walrus_instr.specs.declared.seq.InstrLocId.{InstrLocId}
use Rattle.walrus_instr.specs.declared.seq.InstrSeq.{InstrSeq}

-- the same expression
abbrev pub IsExprCopy : ConstExpr → ConstExpr → Type 0
IsExprCopy (Extended ops) copy = (more : Vec ConstOp Global) × (copy ≡ Extended more) × (more.items ≡ ops.items)
IsExprCopy expr copy = copy ≡ expr

-- the same instruction
abbrev pub IsInstrCopy : Instr → Instr → Type 0
IsInstrCopy (Try seq catches) copy = (more : Vec LegacyCatch Global) × (copy ≡ Try seq more) × (more.items ≡ catches.items)
IsInstrCopy (TryTable seq catches) copy = (more : Vec TryTableCatch Global) × (copy ≡ TryTable seq more) × (more.items ≡ catches.items)
IsInstrCopy (BrTable default blocks) copy = (more : Vec ℕ Global) × (copy ≡ BrTable default more) × (more.items ≡ blocks.items)
IsInstrCopy instr copy = copy ≡ instr

-- the same instruction at the same location
abbrev pub IsPlacedCopy : Instr × InstrLocId → Instr × InstrLocId → Type 0
IsPlacedCopy i copy = IsInstrCopy i.0 copy.0 × (copy.1 ≡ i.1)

-- the same sequence: its id, its type, its instructions with their locations, the location of its end
pub record IsSeqCopy (s copy : InstrSeq) : Type 0 where
  pub id : copy.id ≡ s.id
  pub ty : copy.ty ≡ s.ty
  pub instrs : AllZip IsPlacedCopy s.instrs.items copy.instrs.items
  pub end : copy.end ≡ s.end
