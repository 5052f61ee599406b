-- Lemmas: loops that make a list item by item, and what ends them.
use Rattle.std.specs.Prelude.{ℕ, zero, suc, ◌+◌, ◌≡◌, ◌<◌, List, [], ◌∷◌, ◌++◌, length, take, slice_index_or, Result, Err, IfErr, refl}
use Rattle.std.specs.List.{AllZip, Any}
use Rattle.std.proofs.Common.{sym, ◌∙◌, arith, subst}
use Rattle.std.proofs.lemmas.List.{take_more}
use Rattle.walrus_sections_into.specs.declared.error.IntoError.{IntoError}
use Rattle.walrus_sections_into.specs.declared.error.IntoError.TheVariants.{Unknown}

zip_push : {X Y : Type 0} (R : X → Y → Type 0) (xs : List X) (ys : List Y) (x : X) (y : Y) → AllZip R xs ys → R x y → AllZip R (xs ++ x ∷ []) (ys ++ y ∷ [])
zip_push R [] [] x y so h = (h, tt)
zip_push R [] (z ∷ ys) x y so h = absurd so
zip_push R (w ∷ xs) [] x y so h = absurd so
zip_push R (w ∷ xs) (z ∷ ys) x y so h = (so.0, zip_push R xs ys x y so.1 h)

-- one more item becomes another
pub zip_next : {X Y : Type 0} (R : X → Y → Type 0) (xs : List X) (i : ℕ) (other now : X) (ys new : List Y) (y : Y) → now ≡ slice_index_or xs i other → i < length xs → AllZip R (take i xs) ys → R now y → new ≡ ys ++ y ∷ []
    → AllZip R (take (i + 1) xs) new
zip_next {X} R xs i other now ys new y is lt so h same =
    rw (take_more xs i other lt, same) (zip_push R (take i xs) ys (slice_index_or xs i other) y so (subst (λ (x : X). R x y) is h))

any_default : {X : Type 0} (xs : List X) (i : ℕ) (a b : X) → i < length xs → slice_index_or xs i a ≡ slice_index_or xs i b
any_default [] i a b lt = absurd (omega (arith, lt))
any_default (x ∷ xs) zero a b lt = refl
any_default (x ∷ xs) (suc i) a b lt = any_default xs i a b (omega (arith, lt))

-- a call ends where something lacks
pub lacks : {T : Type 0} (P : Type 0) (result : Result T IntoError) (d e : IntoError) → result ≡ Err d → d ≡ e → (e ≡ Unknown → P) → IfErr result (λ e. e ≡ Unknown → P)
lacks P result d e refused same h = rw refused (λ unknown. h (sym same ∙ unknown))

-- a loop ends at an item that lacks something
pub one_lacks : {X T : Type 0} (P : X → Type 0) (xs : List X) (i : ℕ) (other now : X) (result : Result T IntoError) (d e : IntoError) → now ≡ slice_index_or xs i other → i < length xs → result ≡ Err d → d ≡ e → (e ≡ Unknown → P now)
    → IfErr result (λ e. e ≡ Unknown → Any P xs)
one_lacks P xs i other now result d e is lt refused same h =
    lacks (Any P xs) result d e refused same (λ unknown. (i, now, lt, any_default xs i now other lt ∙ sym is, h unknown))
