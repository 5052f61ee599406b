-- Copies of lists of instructions, one instruction after the other.
use Rattle.std.proofs.Common.{◌≡◌, ◌+◌, ◌<◌, ℕ, List, [], ◌∷◌, ◌++◌, length, take, get_or, subst}
use Rattle.std.specs.List.{AllZip}
use Rattle.std.proofs.lemmas.List.{take_more}
use Rattle.std.proofs.lemmas.List.Elements.{AllZip-push}
use Rattle.walrus_instr.specs.declared.instr.Instr.{Instr}
use Rattle.walrus_instr.specs.declared.seq.InstrLocId.{InstrLocId}
use Rattle.walrus_instr.specs.Copies.{IsPlacedCopy}

-- one more instruction is copied
pub copied-push : (xs ys : List (Instr × InstrLocId)) (i : ℕ) (x y : Instr × InstrLocId) → i < length xs → x ≡ get_or xs i x
    → AllZip IsPlacedCopy (take i xs) ys → IsPlacedCopy x y → AllZip IsPlacedCopy (take (i + 1) xs) (ys ++ y ∷ [])
copied-push xs ys i x y l at copied copy =
    let F : Instr × InstrLocId → Type 0 = λ z. AllZip IsPlacedCopy (take i xs ++ z ∷ []) (ys ++ y ∷ []) in
    rw (take_more xs i x l) (subst F at (AllZip-push IsPlacedCopy (take i xs) ys x y copied copy))
