-- What the sequences end as, where a `&mut` to one of them, or to the list of the one at hand, is returned.
use Rattle.std.specs.Prelude.{ℕ, slice_set}
use Rattle.std.specs.Borrow.{Lends, Fml, MutBor}
use Rattle.walrus_walks.specs.walrus_instr.Lends.{instrs_row}
use Rattle.walrus_walks.specs.walrus_instr.declared.seq.InstrSeq.{InstrSeq}
use Rattle.walrus_walks.specs.walrus_instr.contracts.seq.InstrSeq.{the_row as seq_row}
use Rattle.walrus_builder.specs.contracts.seq_builder.InstrSeqBuilder.{the_row}
use Rattle.walrus_builder.specs.Built.{Building, edited}

-- once the borrow r ends, the sequence at hand has the list written through r
abbrev pub lends_instrs : MutBor Building → MutBor instrs_row.Denot → Fml
lends_instrs b r = Lends the_row instrs_row b r (λ instrs. record b.now { seqs = edited (λ s. record s { instrs = instrs }) b.now.seqs b.now.id })

-- once the borrow r ends, the id has the sequence written through r
abbrev pub lends_seq : MutBor Building → ℕ → MutBor InstrSeq → Fml
lends_seq b id r = Lends the_row seq_row b r (λ seq. record b.now { seqs = slice_set b.now.seqs id seq })
