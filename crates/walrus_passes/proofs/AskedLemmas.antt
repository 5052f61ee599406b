-- What is said of items, said of what custom sections push.
use Rattle.std.proofs.Common.{◌≡◌, ◌∙◌, List, Option, Some, Result, Ok, Err, sym, ap, subst}
use Rattle.std.specs.Prelude.{OnOk, IfErr}
use Rattle.walrus_errors.specs.declared.error.ModuleError.{ModuleError}
use Rattle.walrus_refusals.specs.walrus_used.walrus_module.Parts.{Module}
use Rattle.walrus_roots.specs.declared.item.Item.{Item}
use Rattle.walrus_roots.specs.Items.{PushesShared}
use Rattle.walrus_refusals.specs.Sound.{IsRefused}
use Rattle.walrus_passes.specs.Asked.{IsRefusedAsked, WithPushed}

module _ {said : Option (List Item)} {roots items : List Item} (e : said ≡ Some roots) (same : items ≡ roots) where
  is_said : said ≡ Some items
  is_said = e ∙ ap Some (sym same)

  pub with_these : {T : Type 0} (P : List Item → Type 0) (r : Result T ModuleError) → OnOk r (P items) → OnOk r (WithPushed said P)
  with_these P (Ok _) p = subst (λ o. WithPushed o P) (sym is_said) p
  with_these P (Err _) p = p

  pub shared_these : {T : Type 0} (r : Result T ModuleError) → PushesShared items → OnOk r (WithPushed said PushesShared)
  shared_these (Ok _) p = subst (λ o. WithPushed o PushesShared) (sym is_said) p
  shared_these (Err _) p = tt

  pub refused_these : {T : Type 0} (m : Module) (r : Result T ModuleError) → IfErr r (IsRefused m items) → IfErr r (IsRefusedAsked m said)
  refused_these m (Ok _) p = p
  refused_these m (Err fault) p = subst (λ o. IsRefusedAsked m o fault) (sym is_said) p
