use Rattle.walrus_walks.proofs.Visiting.{visited_at, held_at, waits_at}
use Rattle.walrus_walks.proofs.pre_order_mut.visit_next.Goals as goal

pub returns-in_err-push_all-clause-visited : goal.returns-in_err-push_all-clause-visited
returns-in_err-push_all-clause-visited g c =
    visited_at c.args.seqs.now c.index.result c.args.id c.index-seqs-index.result c.visit_seq.new.seq c.index.ensures c.requires g.V.VisitorMut.step c.args.visitor.now c.visit_seq.new.visitor c.visit_seq.ensures.changed

pub returns-in_err-push_all-clause-keeps : goal.returns-in_err-push_all-clause-keeps
returns-in_err-push_all-clause-keeps g c =
    held_at c.args.seqs.now c.index.result c.args.id c.index-seqs-index.result c.visit_seq.new.seq c.index.ensures c.requires c.visit_seq.ensures.keeps

pub returns-clause-visited : goal.returns-clause-visited
returns-clause-visited g c =
    visited_at c.args.seqs.now c.index.result c.args.id c.index-seqs-index.result c.visit_seq.new.seq c.index.ensures c.requires g.V.VisitorMut.step c.args.visitor.now c.visit_seq.new.visitor c.visit_seq.ensures.changed

pub returns-clause-keeps : goal.returns-clause-keeps
returns-clause-keeps g c =
    held_at c.args.seqs.now c.index.result c.args.id c.index-seqs-index.result c.visit_seq.new.seq c.index.ensures c.requires c.visit_seq.ensures.keeps

pub returns-clause-pushed : goal.returns-clause-pushed
returns-clause-pushed g c =
    waits_at c.args.seqs.now c.index.result c.args.id c.index-seqs-index.result c.visit_seq.new.seq c.index.ensures c.requires c.args.stack.now.items c.push_all.new.stack.items c.as_slice.result.now c.in_ok-push_all.ensures c.as_slice.ensures.value c.visit_seq.ensures.keeps
