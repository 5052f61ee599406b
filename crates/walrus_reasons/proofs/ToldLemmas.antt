-- A walk that adds what each event names.
use Rattle.std.proofs.Common.{◌≡◌, ◌∙◌, false, List, [], ◌∷◌, ◌++◌, append-nil, sym, ap, subst}
use Rattle.std.specs.List.{FoldsTo}
use Rattle.std.proofs.lemmas.List.{append_assoc}
use Rattle.walrus_walks.specs.Events.{Event}
use Rattle.walrus_marks.specs.Named.{event_items, items_of}
use Rattle.walrus_roots.specs.declared.item.Item.{Item}
use Rattle.walrus_reasons.specs.declared.told.Told.{Told}
use Rattle.walrus_reasons.specs.Told.{Tells}

pub folds_tell : (es : List Event) (a b : Told) → FoldsTo (λ (old : Told) (e : Event) (new : Told). Tells (event_items e) old new) a es b → Tells (items_of es) a b
folds_tell [] a b same short = (subst (λ (t : Told). t.is_short ≡ false) (sym same) short, ap (λ (t : Told). t.items.items) (sym same) ∙ sym (append-nil a.items.items))
folds_tell (e ∷ es) a b (j, step, rest) short =
    let later = folds_tell es j b rest short in
    let first = step later.0 in (
      first.0,
      later.1 ∙ ap (λ (xs : List Item). xs ++ items_of es) first.1 ∙ append_assoc a.items.items (event_items e) (items_of es),
    )
