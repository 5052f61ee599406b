-- What a sequence ends as, where a `&mut` to its list is returned.
use denote.RattleType.{RattleType}
use denote.Struct.Tuple.{Tuple}
use Rattle.std.specs.Prelude.{[], ◌∷◌}
use Rattle.std.specs.Borrow.{Lends, Fml, MutBor}
use Rattle.std.specs.contracts.alloc.Global as global
use Rattle.std.specs.contracts.vec.Vec as vec
use Rattle.std.specs.contracts.impls.GlobalAllocator.TheImpl.{ghosts}
use Rattle.walrus_instr.specs.declared.seq.InstrSeq.{InstrSeq}
use Rattle.walrus_instr.specs.contracts.seq.InstrSeq.{the_row as seq_row}
use Rattle.walrus_instr.specs.contracts.seq.InstrLocId.{the_row as place_row}
use Rattle.walrus_instr.specs.contracts.instr.Instr.{the_row as instr_row}

-- a list of instructions with their places
abbrev pub instrs_row : RattleType
instrs_row = vec.the_row (Tuple (instr_row ∷ place_row ∷ [])) global.the_row ghosts

-- once the borrow r ends, the sequence has the list written through r
abbrev pub lends_instrs : MutBor InstrSeq → MutBor instrs_row.Denot → Fml
lends_instrs s r = Lends seq_row instrs_row s r (λ instrs. record s.now { instrs = instrs })
