use Rattle.std.proofs.Common.{None, MatchOption, ◌≡◌, ◌∙◌, refl, sym, inr}
use Rattle.std.proofs.lemmas.Result.{IfOk-weaker}
use Rattle.walrus_used.specs.walrus_module.Parts.{parts}
use Rattle.walrus_used.specs.walrus_module.Items.{Lives}
use Rattle.walrus_refusals.specs.Checks.{FailsIn, HoldsMet, HoldsOrFails}
use Rattle.walrus_refusals.specs.Sound.{Stands}
use Rattle.walrus_refusals.specs.Written.{StaysInGroup}
use Rattle.walrus_refusals.proofs.SoundLemmas.{dead_first, dead_last, holds_all, holds_not}
use Rattle.walrus_refusals.proofs.sound.dead_space.Goals as goal

pub returns-in-Some : goal.returns-in-Some
returns-in-Some g c =
    let m = parts c.args.input.now in
    dead_first m c.args.marks.now c.in-Some.space (holds_not (Lives m) c.args.marks.now c.in_ok-space.field-0 c.in-Some.space c.in-Some.is c.in_ok-space.ensures)

pub returns-in-Some-missing : goal.returns-in-Some-missing
returns-in-Some-missing g c = inr (c.in-Some-missing.item, sym c.in-Some-missing.ensures, refl)

pub returns : goal.returns
returns g c =
    let m = parts c.args.input.now in
    let s = c.args.marks.now in
    let live : HoldsMet (Lives m) s = holds_all (Lives m) s c.in_ok-space.field-0 c.in_default.is c.in_ok-space.ensures in
    IfOk-weaker c.failing_space-2.result (HoldsOrFails (StaysInGroup m) s) (λ answer. MatchOption answer (HoldsMet (Stands m) s × (s.missing.item ≡ None)) (FailsIn (Stands m) s))
    (λ answer h. dead_last m s live (sym c.missing.ensures ∙ c.in_default-missing.is) answer h) c.failing_space-2.ensures
