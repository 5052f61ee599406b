-- Steps that enter the handlers of a legacy `try`.
use Rattle.std.proofs.Common.{ℕ, List, [], ◌∷◌, ◌++◌, ◌≡◌, sym, ap, ◌∙◌, append_assoc}
use Rattle.std.proofs.lemmas.List.{append-nil}
use Rattle.walrus_instr.specs.declared.instr.LegacyCatch.{LegacyCatch}
use Rattle.walrus_walks.specs.declared.steps.Step.{Step}
use Rattle.walrus_walks.specs.declared.steps.Step.TheVariants.{Enter}
use Rattle.walrus_walks.specs.Tree.{handler, handlers}
use Rattle.walrus_walks.specs.Steps.{entering}

pub entering_append : (xs ys : List ℕ) → entering (xs ++ ys) ≡ entering ys ++ entering xs
entering_append [] ys = sym (append-nil (entering ys))
entering_append (x ∷ xs) ys = ap (λ (fs : List Step). fs ++ Enter x ∷ []) (entering_append xs ys) ∙ append_assoc (entering ys) (entering xs) (Enter x ∷ [])

pub handlers_snoc : (cs : List LegacyCatch) (c : LegacyCatch) → handlers (cs ++ c ∷ []) ≡ handlers cs ++ handler c
handlers_snoc [] c = append-nil (handler c)
handlers_snoc (d ∷ cs) c = ap (λ (ks : List ℕ). handler d ++ ks) (handlers_snoc cs c) ∙ sym (append_assoc (handler d) (handlers cs) (handler c))

-- the last part's handler goes first, below the others
pub entering_last : (fs : List Step) (cs : List LegacyCatch) (c : LegacyCatch) → fs ++ entering (handlers (cs ++ c ∷ [])) ≡ (fs ++ entering (handler c)) ++ entering (handlers cs)
entering_last fs cs c =
    let e = ap entering (handlers_snoc cs c) ∙ entering_append (handlers cs) (handler c) in
    ap (λ (gs : List Step). fs ++ gs) e ∙ sym (append_assoc fs (entering (handler c)) (entering (handlers cs)))
