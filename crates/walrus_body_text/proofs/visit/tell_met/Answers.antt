use Rattle.std.proofs.Common.{OnOk, sym, subst}
use Rattle.walrus_body_text.specs.declared.todo.Met.{Met}
use Rattle.walrus_body_text.specs.Visiting.{Visits}
use Rattle.walrus_body_text.proofs.visit.tell_met.Goals as goal

pub returns-in-AnInstr-clause-told : goal.returns-in-AnInstr-clause-told
returns-in-AnInstr-clause-told g c =
    let F : Met → Type 0 = λ m. OnOk c.tell_instr.result (Visits g.V.TextVisitor.step c.args.seqs.now m c.args.visitor.now c.tell_instr.new.visitor) in
    subst F (sym c.in-AnInstr.is) c.tell_instr.ensures.told
