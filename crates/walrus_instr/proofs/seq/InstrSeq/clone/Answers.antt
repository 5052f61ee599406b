use Rattle.std.proofs.Common.{refl, subst, take, get_or, List, arith, length, ap, ◌≡◌, ◌∙◌}
use Rattle.std.specs.List.{AllZip}
use Rattle.std.proofs.lemmas.List.{take_all}
use Rattle.walrus_instr.specs.declared.instr.Instr.{Instr}
use Rattle.walrus_instr.specs.declared.seq.InstrLocId.{InstrLocId}
use Rattle.walrus_instr.specs.Copies.{IsPlacedCopy}
use Rattle.walrus_instr.proofs.CopyLemmas.{copied-push}
use Rattle.walrus_instr.proofs.seq.InstrSeq.clone.Goals as goal

pub returns : goal.returns
returns c =
    let xs = c.args.self.now.instrs.items in
    let end = c.loop-instr-test.false in
    let whole : take c.loop-instr.instr-index xs ≡ xs = take_all c.loop-instr.instr-index xs (omega (arith, end, ap length c.deref-instr-items.ensures.value)) in
    let F : List (Instr × InstrLocId) → Type 0 = λ is. AllZip IsPlacedCopy is c.loop-instr.instrs.items in
    record { id = refl; ty = refl; end = refl; instrs = subst F whole c.loop-instr.invariant.copied }

pub loop-instr-preserved : goal.loop-instr-preserved
loop-instr-preserved c =
    let xs = c.args.self.now.instrs.items in
    let i = c.loop-instr.instr-index in
    let x = c.loop-instr-item.result in
    let turn = c.loop-instr-test.true in
    let at : x ≡ get_or xs i x = c.loop-instr-item.is ∙ ap (λ (is : List (Instr × InstrLocId)). get_or is i x) c.deref-instr-items.ensures.value in
    let more = copied-push xs c.loop-instr.instrs.items i x _ (omega (arith, turn, ap length c.deref-instr-items.ensures.value)) at c.loop-instr.invariant.copied (c.in_ok-clone.ensures, refl) in
    record { copied = rw c.in_ok-push.ensures.items more }
