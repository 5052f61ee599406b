use Rattle.std.proofs.Common.{◌≡◌, ◌∙◌, Some, sym, ap, subst}
use Rattle.std.proofs.lemmas.Bool.{false≢true}
use Rattle.walrus_refusals.specs.walrus_used.walrus_module_items.declared.import.Import.{Import}
use Rattle.walrus_refusals.specs.walrus_used.walrus_module.Items.{brought}
use Rattle.walrus_passes.specs.Keeping.{IsHeld}
use Rattle.walrus_passes.proofs.RestLemmas.{rest_without}
use Rattle.walrus_passes.proofs.drop.drop_import_at.Goals as goal

pub returns : goal.returns
returns c = rest_without (λ _ import. IsHeld c.args.kept.now (brought import.kind)) c.args.imports.now c.delete.new.self c.args.id c.delete.ensures.deleted (λ x at s.
    let same : c.get.result.now ≡ x = (let both : Some c.get.result.now ≡ Some x = sym c.get.ensures ∙ at in cc) in
    false≢true (sym c.if-has.false ∙ c.has.ensures.1 (subst (IsHeld c.args.kept.now) (sym (c.brought.ensures ∙ ap (λ (i : Import). brought i.kind) same)) s)))
