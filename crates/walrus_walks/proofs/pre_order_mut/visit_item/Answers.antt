use Rattle.std.proofs.Common.{◌∙◌}
use Rattle.walrus_walks.proofs.Keeping.{instr_keeps}
use Rattle.walrus_walks.proofs.pre_order_mut.visit_item.Goals as goal

pub returns-clause-keeps : goal.returns-clause-keeps
returns-clause-keeps g c =
    instr_keeps g.V.VisitorMut.step c.visit_instr_mut.new.self c.visit_mut.new.visitor c.visit_instr_mut.new.instr c.visit_mut.new.self c.visit_mut.ensures ∙ c.visit_instr_mut.ensures.keeps
