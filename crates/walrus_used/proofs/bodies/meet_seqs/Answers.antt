use Rattle.std.proofs.Common.{◌≡◌, ◌∙◌, ◌+◌, length, refl, sym, subst, arith}
use Rattle.walrus_marks.specs.Marks.{State}
use Rattle.walrus_marks.specs.Chains.{Meets}
use Rattle.walrus_references.specs.References.{seq_items}
use Rattle.walrus_used.specs.Bodies.{SeqNames}
use Rattle.walrus_used.specs.Picks.{Below}
use Rattle.walrus_used.proofs.BodyLemmas.{all_named, get_is, named_now, was_reached, was_not}
use Rattle.walrus_used.proofs.MeetsLemmas.{below_more, below_skip, meets_list, none_below}
use Rattle.walrus_used.proofs.bodies.meet_seqs.Goals as goal
use Rattle.walrus_used.proofs.bodies.meet_seqs.Goals.{then-has, else-has}

pub loop-index-init : goal.loop-index-init
loop-index-init c = none_below (SeqNames c.args.seqs.now) c.args.marks.now c.args.marks.now refl

pub loop-index-preserved : goal.loop-index-preserved
loop-index-preserved c =
    let b = c.args.seqs.now in
    let n = c.loop-index.index in
    elim c.if-has.branch [
      | then-has w ↦
          let s = w.index-seqs-index.result in
          subst (λ (z : State). Meets (Below (SeqNames b) (n + 1)) c.args.marks.now z) (sym w.marks-is)
          (below_more (SeqNames b) n c.args.marks.now c.loop-index.marks w.meet_seq.new.marks c.loop-index.invariant
          (named_now b n s c.loop-index.marks w.meet_seq.new.marks (get_is b n s c.loop-index-test.true w.index-seqs-index.is) (was_reached b c.args.reached.now n c.requires (sym c.has.ensures ∙ w.if-has.true))
          (meets_list (seq_items n s) c.loop-index.marks w.meet_seq.new.marks w.meet_seq.ensures)))
      | else-has w ↦
          subst (λ (z : State). Meets (Below (SeqNames b) (n + 1)) c.args.marks.now z) (sym w.marks-is)
          (below_skip (SeqNames b) n c.args.marks.now c.loop-index.marks (λ x h. was_not b c.args.reached.now n c.loop-index-test.true c.requires (sym c.has.ensures ∙ w.if-has.false) h.0) c.loop-index.invariant)
    ]

pub returns : goal.returns
returns c =
    let b = c.args.seqs.now in
    let all : c.loop-index.index ≡ length b = omega (arith, c.loop-index-test.false, c.loop-index.auto.index-end) in
    all_named b c.args.marks.now c.loop-index.marks (subst (λ k. Meets (Below (SeqNames b) k) c.args.marks.now c.loop-index.marks) all c.loop-index.invariant)
