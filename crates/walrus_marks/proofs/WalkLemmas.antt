-- A walk that meets what each event names.
use Rattle.std.proofs.Common.{◌≡◌, ◌∙◌, List, [], ◌∷◌, sym, ap}
use Rattle.std.specs.List.{fold, FoldsTo}
use Rattle.std.proofs.lemmas.List.Sums.{fold-append}
use Rattle.walrus_walks.specs.Events.{Event}
use Rattle.walrus_marks.specs.Marks.{State, meet}
use Rattle.walrus_marks.specs.Named.{event_items, items_of}

pub folds_meet : (es : List Event) (a b : State) → FoldsTo (λ (old : State) (e : Event) (new : State). new ≡ fold meet old (event_items e)) a es b → b ≡ fold meet a (items_of es)
folds_meet [] a b same = sym same
folds_meet (e ∷ es) a b (j, step, rest) =
    folds_meet es j b rest ∙ ap (λ (s : State). fold meet s (items_of es)) step ∙ sym (fold-append meet a (event_items e) (items_of es))
