use Rattle.std.proofs.Common.{◌≡◌, ◌<◌, ◌≤◌, List, length, get_or, subst, arith, ap}
use Rattle.walrus_instr.specs.declared.instr.Instr.{Instr}
use Rattle.walrus_instr.specs.declared.seq.InstrLocId.{InstrLocId}
use Rattle.walrus_walks.proofs.Nested.{nested_read}
use Rattle.walrus_walks.proofs.Taken.{resume_told, resume_steps, end_told}
use Rattle.walrus_walks.proofs.in_order.resume.Goals as goal

pub returns-in_ok-push_children-clause-told : goal.returns-in_ok-push_children-clause-told
returns-in_ok-push_children-clause-told g c =
    let b = c.args.seqs.now in
    let k = c.args.id in
    let s = c.index-seqs-index.result in
    let x = c.index-instrs-index.result in
    let known = nested_read b k c.index.result s c.requires.nested c.index.ensures c.index-seqs-index.is in
    let F : List (Instr × InstrLocId) → Type 0 = λ is. x ≡ get_or is c.args.index x in
    let at = subst F c.as_slice-instrs.ensures.value c.index-instrs-index.is in
    let within : c.args.index < length s.instrs.items = omega (arith, ap length c.as_slice-instrs.ensures.value) in
    resume_told g.V.Visitor.step b c.args.stack.now.items k s c.args.index x known within at c.args.visitor.now c.visit_instr.new.self c.visit.new.visitor c.visit_instr.ensures c.visit.ensures c.push.new.self.items c.push_children.new.stack.items c.in_ok-push.ensures.items c.in_ok-push_children.ensures

pub returns-in_ok-push_children-clause-steps : goal.returns-in_ok-push_children-clause-steps
returns-in_ok-push_children-clause-steps g c =
    let b = c.args.seqs.now in
    let k = c.args.id in
    let s = c.index-seqs-index.result in
    let x = c.index-instrs-index.result in
    let known = nested_read b k c.index.result s c.requires.nested c.index.ensures c.index-seqs-index.is in
    let F : List (Instr × InstrLocId) → Type 0 = λ is. x ≡ get_or is c.args.index x in
    let at = subst F c.as_slice-instrs.ensures.value c.index-instrs-index.is in
    let within : c.args.index < length s.instrs.items = omega (arith, ap length c.as_slice-instrs.ensures.value) in
    resume_steps b c.args.stack.now.items k s c.args.index x c.requires.nested known within at c.requires.steps c.push.new.self.items c.push_children.new.stack.items c.in_ok-push.ensures.items c.in_ok-push_children.ensures

pub returns-else-index-instrs-clause-told : goal.returns-else-index-instrs-clause-told
returns-else-index-instrs-clause-told g c =
    let b = c.args.seqs.now in
    let k = c.args.id in
    let s = c.index-seqs-index.result in
    let known = nested_read b k c.index.result s c.requires.nested c.index.ensures c.index-seqs-index.is in
    let past : length s.instrs.items ≤ c.args.index = omega (arith, ap length c.as_slice-instrs.ensures.value) in
    end_told g.V.Visitor.step b c.args.stack.now.items k s c.args.index known past c.args.visitor.now c.end_instr_seq.new.self c.end_instr_seq.ensures
