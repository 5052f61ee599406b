use Rattle.std.proofs.Common.{sym, subst}
use Rattle.walrus_body_text.specs.declared.todo.Met.{Met}
use Rattle.walrus_body_text.specs.Walking.{state}
use Rattle.walrus_body_writer.specs.Emitting.{Writes}
use Rattle.walrus_body_writer.specs.Numbers.{look_of}
use Rattle.walrus_body_writer.proofs.Fronts.{first_done}
use Rattle.walrus_body_writer.proofs.emit.write_met.Goals as goal

pub returns-in-AnInstr-clause-written : goal.returns-in-AnInstr-clause-written
returns-in-AnInstr-clause-written c = λ ts.
    let F : Met → Type 0 = λ m. Writes (look_of c.args.numbers.now) c.args.seqs.now m (state ts c.args.depths.now) c.args.out.now c.write_instr.new.out c.write_instr.result in
    subst F (sym c.in-AnInstr.is) (c.write_instr.ensures.written ts)

pub returns-in-AnEnd-clause-written : goal.returns-in-AnEnd-clause-written
returns-in-AnEnd-clause-written c = λ ts.
    let F : Met → Type 0 = λ m. Writes (look_of c.args.numbers.now) c.args.seqs.now m (state ts c.args.depths.now) c.args.out.now c.write_end.new.out c.write_end.result in
    subst F (sym c.in-AnEnd.is) (c.write_end.ensures c.args.seqs.now)

pub returns-in-AnInstr-clause-front : goal.returns-in-AnInstr-clause-front
returns-in-AnInstr-clause-front c = c.write_instr.ensures.front

pub returns-in-AnEnd-clause-front : goal.returns-in-AnEnd-clause-front
returns-in-AnEnd-clause-front c = first_done _ _ _ _ _ _ (c.write_end.ensures c.args.seqs.now)
