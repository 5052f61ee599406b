use Rattle.std.proofs.Common.{refl, ap, ◌∙◌}
use Rattle.std.specs.Vec.{with_items}
use Rattle.walrus_instr.specs.declared.seq.InstrSeq.{InstrSeq}
use Rattle.walrus_walks.specs.Changing.{ItemChanged}
use Rattle.walrus_walks.specs.Order.{last_first}
use Rattle.walrus_walks.proofs.Keeping.{written_keep}
use Rattle.walrus_walks.proofs.Threaded.{threads_written}
use Rattle.walrus_walks.proofs.pre_order_mut.visit_seq.Goals as goal

pub returns-clause-changed : goal.returns-clause-changed
returns-clause-changed g c =
    let step = g.V.VisitorMut.step in
    let typed = c.visit_mut.new.self in
    let r = c.visit_items in
    let lent = c.as_mut_slice in
    let filled : InstrSeq = record typed { instrs = with_items typed.instrs r.new.items } in
    record {
      begun = c.start_instr_seq_mut.new.self;
      begun_seq = c.start_instr_seq_mut.new.seq;
      typed = c.visit_mut.new.visitor;
      typed_seq = typed;
      filled = r.new.visitor;
      filled_seq = filled;
      starts = c.start_instr_seq_mut.ensures.step;
      types = c.visit_mut.ensures;
      fills = record {
        changed = threads_written (ItemChanged step) c.visit_mut.new.visitor r.new.visitor typed.instrs lent.result.now r.new.items lent.ensures.value r.auto.items r.ensures.changed;
        id = refl;
        ty = refl;
        end = refl;
      };
      ends = c.end_instr_seq_mut.ensures.step;
    }

pub returns-clause-keeps : goal.returns-clause-keeps
returns-clause-keeps g c =
    let typed = c.visit_mut.new.self in
    let r = c.visit_items in
    let lent = c.as_mut_slice in
    let filled = written_keep typed.instrs lent.result.now r.new.items lent.ensures.value r.auto.items r.ensures.keeps in
    let types = ap (λ is. last_first is.items) c.visit_mut.ensures.instrs in
    c.end_instr_seq_mut.ensures.keeps ∙ filled ∙ types ∙ c.start_instr_seq_mut.ensures.keeps
