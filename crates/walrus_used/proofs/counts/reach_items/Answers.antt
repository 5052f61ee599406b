use Rattle.std.proofs.Common.{ℕ, List, sym, subst}
use Rattle.std.proofs.lemmas.Result.{IfOk-weaker}
use Rattle.walrus_marks.specs.Chains.{FitsIn, IsReached}
use Rattle.walrus_marks.specs.Marks.{lists_of}
use Rattle.walrus_references.specs.walrus_module.Parts.{parts}
use Rattle.walrus_references.specs.References.{Refers}
use Rattle.walrus_references.specs.Roots.{Root}
use Rattle.walrus_used.specs.Counts.{counts_of}
use Rattle.walrus_used.specs.Looks.{AreActive, Looks}
use Rattle.walrus_used.specs.Picks.{AreRooted, RootWith}
use Rattle.walrus_used.proofs.CountLemmas.{looks_fit, from_same, reaches}
use Rattle.walrus_used.proofs.RootLemmas.{roots_with}
use Rattle.walrus_used.proofs.counts.reach_items.Goals as goal

pub reach_asking-requires-clause-fit : goal.reach_asking-requires-clause-fit
reach_asking-requires-clause-fit g c = λ x y h.
    subst (λ (counts : List ℕ). FitsIn counts x) (sym c.id_counts.ensures.counts) (looks_fit (parts c.args.input.now) c.types_are_grouped.ensures (lists_of c.as_slice-2.result.now) x y h)

pub returns-clause-reached : goal.returns-clause-reached
returns-clause-reached g c =
    let m = parts c.args.input.now in
    let pushed = c.args.pushed.now in
    let rooted = c.as_slice.result.now in
    let active = lists_of c.as_slice-2.result.now in
    let ok : AreActive m active = rw c.as_slice-2.ensures.value (c.in_ok-segments.ensures.active) in
    let just : AreRooted m rooted = rw c.as_slice.ensures.value (c.in_ok-segments.ensures.rooted) in
    IfOk-weaker c.reach_asking.result (λ r. IsReached c.id_counts.result (RootWith m rooted pushed) (Looks m active) r.marks) (λ r. IsReached (counts_of m) (Root m pushed) (Refers m) r.marks)
    (λ r h. reaches m active ok pushed r.marks
    (from_same (counts_of m) (RootWith m rooted pushed) (Root m pushed) (Looks m active) (λ x. roots_with m pushed rooted just x) r.marks
    (subst (λ (counts : List ℕ). IsReached counts (RootWith m rooted pushed) (Looks m active) r.marks) c.id_counts.ensures.counts h))) c.reach_asking.ensures.reached
