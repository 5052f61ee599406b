use Rattle.std.proofs.Common.{◌∙◌, ℕ, ◌+◌, ◌∷◌, [], ◌++◌, List, ap, sym}
use Rattle.walrus_type_arenas.proofs.GroupLemmas.{range-more}
use Rattle.walrus_type_arenas.proofs.group.ids_from.Goals as goal

pub loop-k-preserved : goal.loop-k-preserved
loop-k-preserved c =
    c.in_ok-push.ensures.items
    ∙ ap (λ (xs : List ℕ). xs ++ c.from_index.result ∷ []) c.loop-k.invariant
    ∙ sym (range-more c.loop-k.k c.args.first c.from_index.result (sym (c.from_index.ensures ∙ ap (λ (n : ℕ). n + c.loop-k.k) c.index.ensures)))
