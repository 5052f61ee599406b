use Rattle.walrus_builder.proofs.BuiltLemmas.{keeps_extends, left_keeps, refused_keeps, put_extends, put_keeps, put_refused, if_err}
use Rattle.walrus_builder.proofs.seq_builder.InstrSeqBuilder.nest.Goals as goal

pub returns-in_err-seq-clause-id : goal.returns-in_err-seq-clause-id
returns-in_err-seq-clause-id g c always = (refused_keeps g.F.FnOnce c.args.make always c.args.ty c.args.self.now _ c.id-outer.ensures.id c.id-outer.ensures.known _ c.in_err-seq.ensures.refused).id

pub returns-in_err-seq-clause-others : goal.returns-in_err-seq-clause-others
returns-in_err-seq-clause-others g c always = keeps_extends _ _ (refused_keeps g.F.FnOnce c.args.make always c.args.ty c.args.self.now _ c.id-outer.ensures.id c.id-outer.ensures.known _ c.in_err-seq.ensures.refused)

pub returns-in_err-seq-clause-refused : goal.returns-in_err-seq-clause-refused
returns-in_err-seq-clause-refused g c always = if_err c.from_residual.result (refused_keeps g.F.FnOnce c.args.make always c.args.ty c.args.self.now _ c.id-outer.ensures.id c.id-outer.ensures.known _ c.in_err-seq.ensures.refused)

pub returns-in_err-put_in-clause-left : goal.returns-in_err-put_in-clause-left
returns-in_err-put_in-clause-left g c = if_err c.from_residual-in_err-put_in.result (put_refused g.F.FnOnce c.args.make c.args.ty c.args.self.now _ _ _ _ _ _ c.id-outer.ensures.id c.in_ok-seq.ensures.filled.1 c.in_err-put_in.ensures)

pub returns-in_err-put_in-clause-id : goal.returns-in_err-put_in-clause-id
returns-in_err-put_in-clause-id g c always =
    let kept = left_keeps g.F.FnOnce c.args.make always c.args.ty c.args.self.now _ c.id-outer.ensures.id c.id-outer.ensures.known _ c.fill_seq.new.self c.in_ok-seq.ensures.filled.1 in
    (put_keeps c.args.self.now c.fill_seq.new.self kept c.id-outer.result c.id-outer.ensures.id _ _ c.put_in.new.self c.in_err-put_in.ensures).id

pub returns-in_err-put_in-clause-others : goal.returns-in_err-put_in-clause-others
returns-in_err-put_in-clause-others g c always =
    let kept = left_keeps g.F.FnOnce c.args.make always c.args.ty c.args.self.now _ c.id-outer.ensures.id c.id-outer.ensures.known _ c.fill_seq.new.self c.in_ok-seq.ensures.filled.1 in
    put_extends c.args.self.now c.fill_seq.new.self kept c.id-outer.result c.id-outer.ensures.id _ _ c.put_in.new.self c.in_err-put_in.ensures

pub returns-in_err-put_in-clause-refused : goal.returns-in_err-put_in-clause-refused
returns-in_err-put_in-clause-refused g c always =
    let kept = left_keeps g.F.FnOnce c.args.make always c.args.ty c.args.self.now _ c.id-outer.ensures.id c.id-outer.ensures.known _ c.fill_seq.new.self c.in_ok-seq.ensures.filled.1 in
    if_err c.from_residual-in_err-put_in.result (put_keeps c.args.self.now c.fill_seq.new.self kept c.id-outer.result c.id-outer.ensures.id _ _ c.put_in.new.self c.in_err-put_in.ensures)

pub returns-clause-id : goal.returns-clause-id
returns-clause-id g c always =
    let kept = left_keeps g.F.FnOnce c.args.make always c.args.ty c.args.self.now _ c.id-outer.ensures.id c.id-outer.ensures.known _ c.fill_seq.new.self c.in_ok-seq.ensures.filled.1 in
    (put_extends c.args.self.now c.fill_seq.new.self kept c.id-outer.result c.id-outer.ensures.id _ _ c.put_in.new.self c.in_ok-put_in.ensures).id

pub returns-clause-others : goal.returns-clause-others
returns-clause-others g c always =
    let kept = left_keeps g.F.FnOnce c.args.make always c.args.ty c.args.self.now _ c.id-outer.ensures.id c.id-outer.ensures.known _ c.fill_seq.new.self c.in_ok-seq.ensures.filled.1 in
    put_extends c.args.self.now c.fill_seq.new.self kept c.id-outer.result c.id-outer.ensures.id _ _ c.put_in.new.self c.in_ok-put_in.ensures
