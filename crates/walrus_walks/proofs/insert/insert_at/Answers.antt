use Rattle.std.proofs.Common.{ap, ◌∙◌}
use Rattle.std.specs.List.{insert}
use Rattle.walrus_instr.specs.declared.seq.InstrLocId.{InstrLocId}
use Rattle.walrus_walks.proofs.insert.insert_at.Goals as goal

pub returns-clause-inserted : goal.returns-clause-inserted
returns-clause-inserted c = c.in_ok-insert.ensures.items ∙ ap (λ (place : InstrLocId). insert c.args.instrs.now.items c.args.position (c.args.instr, place)) c.default.ensures
