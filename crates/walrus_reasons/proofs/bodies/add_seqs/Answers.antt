use Rattle.std.proofs.Common.{◌≡◌, ◌∙◌, ◌+◌, Vec, length, refl, sym, subst, arith}
use Rattle.std.specs.Global.{Global}
use Rattle.walrus_roots.specs.declared.item.Item.{Item}
use Rattle.walrus_used.specs.Bodies.{SeqNames}
use Rattle.walrus_used.specs.walrus_references.References.{seq_items}
use Rattle.walrus_reasons.specs.Added.{Adds}
use Rattle.walrus_reasons.proofs.AddedLemmas.{Below, adds_list, below_more, below_skip, none_below}
use Rattle.walrus_reasons.proofs.BodyLemmas.{all_named, get_is, named_now, was_not, was_reached}
use Rattle.walrus_reasons.proofs.bodies.add_seqs.Goals as goal
use Rattle.walrus_reasons.proofs.bodies.add_seqs.Goals.{then-has+in_ok-add_seq, else-has}

pub loop-index-init : goal.loop-index-init
loop-index-init c = none_below (SeqNames c.args.seqs.now) c.args.named.now.items c.args.named.now.items refl

pub loop-index-preserved : goal.loop-index-preserved
loop-index-preserved c =
    let b = c.args.seqs.now in
    let n = c.loop-index.index in
    let a = c.args.named.now.items in
    elim c.if-has.branch [
      | then-has+in_ok-add_seq w ↦
          let s = w.index-seqs-index.result in
          subst (λ (z : Vec Item Global). Adds (Below (SeqNames b) (n + 1)) a z.items) (sym w.named-is)
          (below_more (SeqNames b) n a c.loop-index.named.items w.add_seq.new.named.items c.loop-index.invariant
          (named_now b n s c.loop-index.named.items w.add_seq.new.named.items (get_is b n s c.loop-index-test.true w.index-seqs-index.is) (was_reached b c.args.reached.now n c.requires (sym c.has.ensures ∙ w.if-has.true))
          (adds_list (seq_items n s) c.loop-index.named.items w.add_seq.new.named.items w.in_ok-add_seq.ensures)))
      | else-has w ↦
          subst (λ (z : Vec Item Global). Adds (Below (SeqNames b) (n + 1)) a z.items) (sym w.named-is)
          (below_skip (SeqNames b) n a c.loop-index.named.items (λ x h. was_not b c.args.reached.now n c.loop-index-test.true c.requires (sym c.has.ensures ∙ w.if-has.false) h.0) c.loop-index.invariant)
    ]

pub returns : goal.returns
returns c =
    let b = c.args.seqs.now in
    let all : c.loop-index.index ≡ length b = omega (arith, c.loop-index-test.false, c.loop-index.auto.index-end) in
    all_named b c.args.named.now.items c.loop-index.named.items (subst (λ k. Adds (Below (SeqNames b) k) c.args.named.now.items c.loop-index.named.items) all c.loop-index.invariant)
