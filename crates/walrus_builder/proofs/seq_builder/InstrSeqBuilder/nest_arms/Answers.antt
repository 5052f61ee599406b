use Rattle.std.proofs.Common.{refl}
use Rattle.walrus_builder.proofs.BuiltLemmas.{keeps_extends, refused_keeps, second_keeps, both_keep, put_extends, put_keeps, put_refused, first_refused, second_refused, if_err}
use Rattle.walrus_builder.proofs.seq_builder.InstrSeqBuilder.nest_arms.Goals as goal

pub returns-in_err-consequent-clause-left : goal.returns-in_err-consequent-clause-left
returns-in_err-consequent-clause-left g c = if_err c.from_residual.result (first_refused g.F.FnOnce c.args.make_consequent g.G.FnOnce c.args.make_alternative c.args.ty c.args.self.now _ _ c.id-outer.ensures.id c.in_err-consequent.ensures.refused)

pub returns-in_err-consequent-clause-id : goal.returns-in_err-consequent-clause-id
returns-in_err-consequent-clause-id g c always too = (refused_keeps g.F.FnOnce c.args.make_consequent always c.args.ty c.args.self.now _ c.id-outer.ensures.id c.id-outer.ensures.known _ c.in_err-consequent.ensures.refused).id

pub returns-in_err-consequent-clause-others : goal.returns-in_err-consequent-clause-others
returns-in_err-consequent-clause-others g c always too = keeps_extends _ _ (refused_keeps g.F.FnOnce c.args.make_consequent always c.args.ty c.args.self.now _ c.id-outer.ensures.id c.id-outer.ensures.known _ c.in_err-consequent.ensures.refused)

pub returns-in_err-consequent-clause-refused : goal.returns-in_err-consequent-clause-refused
returns-in_err-consequent-clause-refused g c always too = if_err c.from_residual.result (refused_keeps g.F.FnOnce c.args.make_consequent always c.args.ty c.args.self.now _ c.id-outer.ensures.id c.id-outer.ensures.known _ c.in_err-consequent.ensures.refused)

pub returns-in_err-alternative-clause-left : goal.returns-in_err-alternative-clause-left
returns-in_err-alternative-clause-left g c = if_err c.from_residual-in_err-alternative.result (second_refused g.F.FnOnce c.args.make_consequent g.G.FnOnce c.args.make_alternative c.args.ty c.args.self.now _ _ c.id-outer.ensures.id _ c.in_ok-consequent.ensures.filled.1 c.in_err-alternative.ensures.refused)

pub returns-in_err-alternative-clause-id : goal.returns-in_err-alternative-clause-id
returns-in_err-alternative-clause-id g c always too =
    let kept = second_keeps g.F.FnOnce c.args.make_consequent g.G.FnOnce c.args.make_alternative always too c.args.ty c.args.self.now _ c.id-outer.ensures.id c.id-outer.ensures.known c.fill_seq.new.self c.in_ok-consequent.ensures.filled.1 _ c.in_err-alternative.ensures.refused in
    kept.id

pub returns-in_err-alternative-clause-others : goal.returns-in_err-alternative-clause-others
returns-in_err-alternative-clause-others g c always too =
    let kept = second_keeps g.F.FnOnce c.args.make_consequent g.G.FnOnce c.args.make_alternative always too c.args.ty c.args.self.now _ c.id-outer.ensures.id c.id-outer.ensures.known c.fill_seq.new.self c.in_ok-consequent.ensures.filled.1 _ c.in_err-alternative.ensures.refused in
    keeps_extends c.args.self.now c.fill_seq-2.new.self kept

pub returns-in_err-alternative-clause-refused : goal.returns-in_err-alternative-clause-refused
returns-in_err-alternative-clause-refused g c always too =
    let kept = second_keeps g.F.FnOnce c.args.make_consequent g.G.FnOnce c.args.make_alternative always too c.args.ty c.args.self.now _ c.id-outer.ensures.id c.id-outer.ensures.known c.fill_seq.new.self c.in_ok-consequent.ensures.filled.1 _ c.in_err-alternative.ensures.refused in
    if_err c.from_residual-in_err-alternative.result kept

pub returns-in_err-put_in-clause-left : goal.returns-in_err-put_in-clause-left
returns-in_err-put_in-clause-left g c = if_err c.from_residual-in_err-put_in.result (second_refused g.F.FnOnce c.args.make_consequent g.G.FnOnce c.args.make_alternative c.args.ty c.args.self.now _ _ c.id-outer.ensures.id _ c.in_ok-consequent.ensures.filled.1 (put_refused g.G.FnOnce c.args.make_alternative c.args.ty c.fill_seq.new.self _ _ _ _ _ _ refl c.in_ok-alternative.ensures.filled.1 c.in_err-put_in.ensures))

pub returns-in_err-put_in-clause-id : goal.returns-in_err-put_in-clause-id
returns-in_err-put_in-clause-id g c always too =
    let kept = both_keep g.F.FnOnce c.args.make_consequent g.G.FnOnce c.args.make_alternative always too c.args.ty c.args.self.now _ c.id-outer.ensures.id c.id-outer.ensures.known c.fill_seq.new.self c.in_ok-consequent.ensures.filled.1 _ c.fill_seq-2.new.self c.in_ok-alternative.ensures.filled.1 in
    (put_keeps c.args.self.now c.fill_seq-2.new.self kept c.id-outer.result c.id-outer.ensures.id _ _ c.put_in.new.self c.in_err-put_in.ensures).id

pub returns-in_err-put_in-clause-others : goal.returns-in_err-put_in-clause-others
returns-in_err-put_in-clause-others g c always too =
    let kept = both_keep g.F.FnOnce c.args.make_consequent g.G.FnOnce c.args.make_alternative always too c.args.ty c.args.self.now _ c.id-outer.ensures.id c.id-outer.ensures.known c.fill_seq.new.self c.in_ok-consequent.ensures.filled.1 _ c.fill_seq-2.new.self c.in_ok-alternative.ensures.filled.1 in
    put_extends c.args.self.now c.fill_seq-2.new.self kept c.id-outer.result c.id-outer.ensures.id _ _ c.put_in.new.self c.in_err-put_in.ensures

pub returns-in_err-put_in-clause-refused : goal.returns-in_err-put_in-clause-refused
returns-in_err-put_in-clause-refused g c always too =
    let kept = both_keep g.F.FnOnce c.args.make_consequent g.G.FnOnce c.args.make_alternative always too c.args.ty c.args.self.now _ c.id-outer.ensures.id c.id-outer.ensures.known c.fill_seq.new.self c.in_ok-consequent.ensures.filled.1 _ c.fill_seq-2.new.self c.in_ok-alternative.ensures.filled.1 in
    if_err c.from_residual-in_err-put_in.result (put_keeps c.args.self.now c.fill_seq-2.new.self kept c.id-outer.result c.id-outer.ensures.id _ _ c.put_in.new.self c.in_err-put_in.ensures)

pub returns-clause-id : goal.returns-clause-id
returns-clause-id g c always too =
    let kept = both_keep g.F.FnOnce c.args.make_consequent g.G.FnOnce c.args.make_alternative always too c.args.ty c.args.self.now _ c.id-outer.ensures.id c.id-outer.ensures.known c.fill_seq.new.self c.in_ok-consequent.ensures.filled.1 _ c.fill_seq-2.new.self c.in_ok-alternative.ensures.filled.1 in
    (put_extends c.args.self.now c.fill_seq-2.new.self kept c.id-outer.result c.id-outer.ensures.id _ _ c.put_in.new.self c.in_ok-put_in.ensures).id

pub returns-clause-others : goal.returns-clause-others
returns-clause-others g c always too =
    let kept = both_keep g.F.FnOnce c.args.make_consequent g.G.FnOnce c.args.make_alternative always too c.args.ty c.args.self.now _ c.id-outer.ensures.id c.id-outer.ensures.known c.fill_seq.new.self c.in_ok-consequent.ensures.filled.1 _ c.fill_seq-2.new.self c.in_ok-alternative.ensures.filled.1 in
    put_extends c.args.self.now c.fill_seq-2.new.self kept c.id-outer.result c.id-outer.ensures.id _ _ c.put_in.new.self c.in_ok-put_in.ensures
