use Rattle.std.proofs.Common.{◌∙◌, sym, ap}
use Rattle.std.specs.Prelude.{is_some}
use Rattle.walrus_used.specs.walrus_module.Parts.{parts}
use Rattle.walrus_refusals.proofs.SoundLemmas.{well_if}
use Rattle.walrus_refusals.proofs.sound.are_well.Goals as goal

pub returns : goal.returns
returns g c =
    well_if (parts c.args.input.now) c.args.reached.now.marks c.args.reached.now.holds c.all_claim_truly.result c.if-not-reached.false c.requires
    (ap is_some (sym c.missing.ensures) ∙ sym c.is_some.ensures ∙ c.if-is_some.false) c.all_claim_truly.ensures
