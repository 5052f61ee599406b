-- What holds sequences, and where it is put.
use Rattle.std.specs.Prelude.{ℕ, Option, Some, None}
use Rattle.walrus_walks.specs.walrus_instr.declared.instr.Instr.{Instr}
use Rattle.walrus_walks.specs.walrus_instr.declared.instr.Instr.TheVariants.{Block, Loop}
use Rattle.walrus_builder.specs.declared.blocks.Holder.{Holder}
use Rattle.walrus_builder.specs.declared.blocks.Holder.TheVariants as A
use Rattle.walrus_builder.specs.Built.{Seq, pushes, inserts}

-- the instruction of this form that holds the sequence
abbrev pub held : Holder → ℕ → Instr
held A.Block seq = Block seq
held A.Loop seq = Loop seq

-- the sequence with this instruction at a position, or at its end
abbrev pub puts : Option ℕ → Instr → Seq → Seq
puts (Some at) i s = inserts at i s
puts None i s = pushes i s
