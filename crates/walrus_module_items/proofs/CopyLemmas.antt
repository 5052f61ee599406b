-- Copies of lists of expressions, one after the other.
use Rattle.std.proofs.Common.{◌≡◌, ◌+◌, ◌<◌, ℕ, List, [], ◌∷◌, ◌++◌, length, take, get_or, subst}
use Rattle.std.specs.List.{AllZip}
use Rattle.std.proofs.lemmas.List.{take_more}
use Rattle.std.proofs.lemmas.List.Elements.{AllZip-push}
use Rattle.walrus_instr.specs.declared.const_expr.ConstExpr.{ConstExpr}
use Rattle.walrus_instr.specs.Copies.{IsExprCopy}

-- one more expression is copied
pub copied-push : (xs ys : List ConstExpr) (i : ℕ) (x y : ConstExpr) → i < length xs → x ≡ get_or xs i x
    → AllZip IsExprCopy (take i xs) ys → IsExprCopy x y → AllZip IsExprCopy (take (i + 1) xs) (ys ++ y ∷ [])
copied-push xs ys i x y l at copied copy =
    let F : ConstExpr → Type 0 = λ z. AllZip IsExprCopy (take i xs ++ z ∷ []) (ys ++ y ∷ []) in
    rw (take_more xs i x l) (subst F at (AllZip-push IsExprCopy (take i xs) ys x y copied copy))
