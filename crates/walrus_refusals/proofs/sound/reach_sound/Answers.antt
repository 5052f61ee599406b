use Rattle.std.proofs.Common.{refl, sym, subst}
use Rattle.walrus_used.specs.walrus_module.Parts.{parts}
use Rattle.walrus_refusals.specs.Checks.{AreClaims}
use Rattle.walrus_refusals.proofs.SoundLemmas.{all_inexact, all_sound, all_stand, all_unshared, are_linked, are_trees, dead_answered, formed, has_form, not_linked, not_trees, stood, unformed, well_sound}
use Rattle.walrus_refusals.proofs.sound.reach_sound.Goals as goal

pub returns-then-are_well-clause-sound : goal.returns-then-are_well-clause-sound
returns-then-are_well-clause-sound g c =
    let m = parts c.args.input.now in
    let claims = subst (AreClaims m) (sym c.in_ok-reached.ensures.claimed) c.in_ok-claims.ensures in
    well_sound m c.args.pushed.now c.in_ok-reached.reached.marks c.in_ok-reached.ensures.reached claims c.if-are_well.ensures

pub returns-then-not-branch-clause-refused : goal.returns-then-not-branch-clause-refused
returns-then-not-branch-clause-refused g c =
    let m = parts c.args.input.now in
    let claims = subst (AreClaims m) (sym c.in_ok-reached.ensures.claimed) c.in_ok-claims.ensures in
    not_linked m c.args.pushed.now c.in_ok-reached.reached.marks c.in_ok-reached.ensures.reached claims c.in_ok-are_linked.field-0 c.if-not-branch.true c.in_ok-are_linked.ensures

pub returns-then-not-branch-2-clause-refused : goal.returns-then-not-branch-2-clause-refused
returns-then-not-branch-2-clause-refused g c =
    let m = parts c.args.input.now in
    let pushed = c.args.pushed.now in
    let s = c.in_ok-reached.reached.marks in
    let h = c.in_ok-reached.ensures.reached in
    let claims = subst (AreClaims m) (sym c.in_ok-reached.ensures.claimed) c.in_ok-claims.ensures in
    (are_linked m pushed s h claims c.in_ok-are_linked.field-0 c.if-not-branch.false c.in_ok-are_linked.ensures, not_trees m pushed s h c.in_ok-holds_of_all.field-0 c.if-not-branch-2.true c.in_ok-holds_of_all.ensures)

pub returns-in-Some-clause-refused : goal.returns-in-Some-clause-refused
returns-in-Some-clause-refused g c =
    let m = parts c.args.input.now in
    let pushed = c.args.pushed.now in
    let s = c.in_ok-reached.reached.marks in
    let h = c.in_ok-reached.ensures.reached in
    let claims = subst (AreClaims m) (sym c.in_ok-reached.ensures.claimed) c.in_ok-claims.ensures in (
      are_linked m pushed s h claims c.in_ok-are_linked.field-0 c.if-not-branch.false c.in_ok-are_linked.ensures,
      are_trees m pushed s h c.in_ok-holds_of_all.field-0 c.if-not-branch-2.false c.in_ok-holds_of_all.ensures,
      dead_answered m pushed s h c.types_are_grouped.ensures c.in_ok-space.field-0 c.in-Some.space c.in-Some.is c.in_ok-space.ensures,
    )

pub returns-in-Some-2-clause-refused : goal.returns-in-Some-2-clause-refused
returns-in-Some-2-clause-refused g c =
    let m = parts c.args.input.now in
    let pushed = c.args.pushed.now in
    let s = c.in_ok-reached.reached.marks in
    let h = c.in_ok-reached.ensures.reached in
    let claims = subst (AreClaims m) (sym c.in_ok-reached.ensures.claimed) c.in_ok-claims.ensures in
    let both = stood m s c.in_ok-space.field-0 c.in_default.is c.in_ok-space.ensures in (
      are_linked m pushed s h claims c.in_ok-are_linked.field-0 c.if-not-branch.false c.in_ok-are_linked.ensures,
      are_trees m pushed s h c.in_ok-holds_of_all.field-0 c.if-not-branch-2.false c.in_ok-holds_of_all.ensures,
      all_stand m pushed s h both.1 both.0,
      has_form m pushed s h c.in-Some-2.form (formed m s c.in_ok-form.field-0 c.in-Some-2.form c.in-Some-2.is c.in_ok-form.ensures),
      refl,
    )

pub returns-clause-sound : goal.returns-clause-sound
returns-clause-sound g c =
    let m = parts c.args.input.now in
    let pushed = c.args.pushed.now in
    let s = c.in_ok-reached.reached.marks in
    let h = c.in_ok-reached.ensures.reached in
    let claims = subst (AreClaims m) (sym c.in_ok-reached.ensures.claimed) c.in_ok-claims.ensures in
    let both = stood m s c.in_ok-space.field-0 c.in_default.is c.in_ok-space.ensures in
    let written = unformed m s c.in_ok-form.field-0 c.in_default-2.is c.in_ok-form.ensures in
    all_sound m pushed (are_linked m pushed s h claims c.in_ok-are_linked.field-0 c.if-not-branch.false c.in_ok-are_linked.ensures)
    (are_trees m pushed s h c.in_ok-holds_of_all.field-0 c.if-not-branch-2.false c.in_ok-holds_of_all.ensures)
    (all_stand m pushed s h both.1 both.0) (all_unshared m pushed s h both.1 written.0) (all_inexact m pushed s h both.1 written.1)
